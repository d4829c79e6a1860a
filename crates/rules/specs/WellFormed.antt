-- What a cell is: document 01, "The cell and its calls", of every cell that start and the calls can hand back, refused ones included. In plain
-- numbers: no test of a call is cited. The statement; proofs/WellFormed.antt proves it. Assumes nothing.
use Rattle.std.specs.Prelude.{ℕ, ◌/◌, ◌%◌, ◌^◌, ◌<◌, ◌≤◌, ◌≡◌, ◌≢◌, ◌⊎◌, length, get_or, replicate}
use Rattle.hops.specs.Masks.{ones}
use Rattle.rules.specs.State.{Cell, LineState, line_at, owner_at}
use Rattle.rules.specs.Reached.{Reached}

-- ---- the numbers that start names

-- "A cell is CA, C0 (an ARFCN of CA), BCC 0–7, BS_AG_BLKS_RES (AG) 0–7, BS_PA_MFRMS (P) 2–9, and 64 lines."
pub record HasParameters (c : Cell) : Type 0 where
  -- "CA is 1 to 64 ARFCNs": its entries, and 0 after them
  pub room : length c.ca ≡ 64
  pub least : 1 ≤ c.size
  pub most : c.size ≤ 64
  pub past : (k : ℕ) → c.size ≤ k → get_or c.ca k 0 ≡ 0
  -- "An ARFCN is a channel number, 0 to 1023"
  pub arfcn : (k : ℕ) → k < c.size → get_or c.ca k 0 ≤ 1023
  -- "strictly ascending"; document 02, No. 3: "ARFCN 0 last, after all others"
  pub in_order : (j k : ℕ) → j < k → k < c.size → (1 ≤ get_or c.ca j 0) × ((get_or c.ca k 0 ≡ 0) ⊎ (get_or c.ca j 0 < get_or c.ca k 0))
  -- "C0 (an ARFCN of CA)"
  pub c0 : ℕ
  pub c0_within : c0 < c.size
  pub c0_there : get_or c.ca c0 0 ≡ c.c0
  pub bcc : c.bcc ≤ 7
  pub ag : c.ag ≤ 7
  pub p_least : 2 ≤ c.p
  pub p_most : c.p ≤ 9
  pub lines : length c.lines ≡ 64

-- ---- a line

-- "or 0 for free": a closed line has 0 everywhere
abbrev pub Closed : LineState → Type 0
Closed l = l ≡ record { mask = 0; tn = 0; hsn = 0; maio = 0; combination = 0; tsc = 0; owners = replicate 8 0 }

-- a one of the mask, at CA position p
abbrev pub OneAt : ℕ → ℕ → Type 0
OneAt mask p = mask / 2 ^ p % 2 ≡ 1

-- "for each s an owner 1–65,535, or 0 for free": 1 has s = 0; 2 has 0, 1; 5 has 0 to 3; 7 has 0 to 7; 4 and 6 have none
pub record HasOwners (l : LineState) : Type 0 where
  pub room : length l.owners ≡ 8
  pub range : (s : ℕ) → owner_at l s ≤ 65535
  pub full_rate : (s : ℕ) → l.combination ≡ 1 → 1 ≤ s → owner_at l s ≡ 0
  pub half_rate : (s : ℕ) → l.combination ≡ 2 → 2 ≤ s → owner_at l s ≡ 0
  pub combined : (s : ℕ) → l.combination ≡ 5 → 4 ≤ s → owner_at l s ≡ 0
  pub sdcch8 : (s : ℕ) → l.combination ≡ 7 → 8 ≤ s → owner_at l s ≡ 0
  pub common : (s : ℕ) → (l.combination ≡ 4) ⊎ (l.combination ≡ 6) → owner_at l s ≡ 0

-- what a line that is open has
pub record Opened (c : Cell) (l : LineState) : Type 0 where
  -- "TN, the timeslot, is 0 to 7", "HSN is 0 to 63", "TSC (training code) 0–7", and one of the six combinations
  pub tn : l.tn ≤ 7
  pub hsn : l.hsn ≤ 63
  pub tsc : l.tsc ≤ 7
  pub combination : (l.combination ≡ 1) ⊎ (l.combination ≡ 2) ⊎ (l.combination ≡ 4) ⊎ (l.combination ≡ 5) ⊎ (l.combination ≡ 6) ⊎ (l.combination ≡ 7)
  -- "A mobile allocation is a 64-bit mask; bit p .. stands for CA position p.": it has a one, and none at or above CA's length
  pub ca_position : ℕ
  pub there : ca_position < c.size
  pub one : OneAt l.mask ca_position
  pub within : (p : ℕ) → OneAt l.mask p → p < c.size
  -- "N is the count of its ones, .. MAIO is 0 to N − 1."
  pub maio : l.maio < ones l.mask
  pub owners : HasOwners l

-- ---- open lines together

abbrev pub Is : Cell → ℕ → ℕ → Type 0
Is c n combination = (line_at c n).combination ≡ combination

-- a 4 or 5; a 4, 5 or 6
abbrev pub IsFirst : Cell → ℕ → Type 0
IsFirst c n = Is c n 4 ⊎ Is c n 5

abbrev pub IsCommon : Cell → ℕ → Type 0
IsCommon c n = Is c n 4 ⊎ Is c n 5 ⊎ Is c n 6

-- an open line of this combination in this timeslot
pub record Stands (c : Cell) (combination tn : ℕ) : Type 0 where
  pub line : ℕ
  pub is : Is c line combination
  pub in_timeslot : (line_at c line).tn ≡ tn

-- "8 common channel misplaced": none of an open line is
pub record HasPlaces (c : Cell) : Type 0 where
  -- "4 and 5 need TN 0"
  pub first : (n : ℕ) → IsFirst c n → (line_at c n).tn ≡ 0
  -- "4 and 5 need no other open 4, 5 or 6": there is one of them at most, and no 6 beside a 5
  pub one_first : (m n : ℕ) → IsFirst c m → IsFirst c n → m ≡ n
  pub alone : (m n : ℕ) → Is c m 5 → IsCommon c n → m ≡ n
  -- "5 needs AG ≤ 2"
  pub reserved : (n : ℕ) → Is c n 5 → c.ag ≤ 2
  -- "6 needs TN 2, 4 or 6", "6 on TN 2 needs an open 4, on TN 4 or 6 an open 6 two timeslots lower"
  pub six : (n : ℕ) → Is c n 6
      → (((line_at c n).tn ≡ 2) × Stands c 4 0) ⊎ (((line_at c n).tn ≡ 4) × Stands c 6 2) ⊎ (((line_at c n).tn ≡ 6) × Stands c 6 4)
  -- "these three need a mask with C0 alone and TSC = BCC"
  pub beacon : (n p : ℕ) → IsCommon c n → OneAt (line_at c n).mask p → get_or c.ca p 0 ≡ c.c0
  pub tsc : (n : ℕ) → IsCommon c n → (line_at c n).tsc ≡ c.bcc

-- "Two lines clash if TN is equal, the masks share a one, and it isn't so that masks and HSN are equal and MAIO differ"
abbrev pub Apart : LineState → LineState → Type 0
Apart l k = (p : ℕ) → l.tn ≡ k.tn → p < 64 → OneAt l.mask p → OneAt k.mask p → (l.mask ≡ k.mask) × (l.hsn ≡ k.hsn) × (l.maio ≢ k.maio)

-- ---- the claim

pub record WellFormed (c : Cell) : Type 0 where
  pub parameters : HasParameters c
  pub line : (n : ℕ) → n < 64 → Closed (line_at c n) ⊎ Opened c (line_at c n)
  pub places : HasPlaces c
  -- no two open lines clash; a closed one has no one in its mask
  pub apart : (m n : ℕ) → m ≢ n → Apart (line_at c m) (line_at c n)

unfoldable pub CellsAreWellFormed : Type 0
CellsAreWellFormed = (c : Cell) → Reached c → WellFormed c
