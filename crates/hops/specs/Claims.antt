-- What is claimed of hopping beside the promises of its calls. Assumes nothing.
use Rattle.std.specs.Prelude.{ℕ, ◌+◌, ◌/◌, ◌%◌, ◌^◌, ◌≡◌, ◌≢◌, ◌<◌, ◌≤◌, true, false, not, List, eqb, length, get_or, bit_and, bit_xor, count_ones}
use Rattle.answers.specs.Outcome.{Outcome, refused, accepted}
use Rattle.answers.specs.Claims.{FairAnswer}
use Rattle.hops.specs.Masks.{bit, ones, ones_below, one_at_or_above, share_one}
use Rattle.hops.specs.Allocation.{is_allocation}
use Rattle.hops.specs.Hopping.{rntable, nbin, mai_of, line_selection, line_tuning, position_causes, position_of, hop_causes, hop_of}
use Rattle.hops.specs.Clash.{Physical, clash}
use Rattle.hops.specs.declared.Selection.{Selection}
use Rattle.hops.specs.declared.Tuning.{Tuning}

-- "The lowest number that applies is given, and only if its condition holds."
pub record FairCalls : Type 0 where
  pub of_position : (size m hsn maio fn : ℕ) → FairAnswer (line_selection m hsn maio fn) (position_causes size m hsn maio fn) (position_of size m hsn maio fn)
  pub of_hop : (ca : List ℕ) (m hsn maio fn : ℕ) → FairAnswer (line_tuning ca m hsn maio fn) (hop_causes ca m hsn maio fn) (hop_of ca m hsn maio fn)

-- what hop answers for a line of a cell with this CA
abbrev pub tuning_of : List ℕ → Physical → ℕ → Outcome Tuning
tuning_of ca v fn = hop_of ca v.mask v.hsn v.maio fn

-- two lines of one timeslot that don't clash never have the same ARFCN, nor the same position
unfoldable pub Apart : Type 0
Apart = (ca : List ℕ) (v w : Physical) → v.tn ≡ w.tn → clash v w ≡ false
    → (fn : ℕ) (s t : Tuning) → tuning_of ca v fn ≡ accepted s → tuning_of ca w fn ≡ accepted t → (s.arfcn ≢ t.arfcn) × (s.position ≢ t.position)

-- "the mask's one bit that has MAI ones below it": the position that is answered is that bit, and CA has an entry there
pub record AtOne (size m hsn maio fn : ℕ) (s : Selection) : Type 0 where
  pub is_one : bit m s.position ≡ 1
  pub mai_ones_below : ones_below m s.position ≡ mai_of (ones m) hsn maio fn
  pub mai_told : s.mai ≡ ones_below m s.position
  pub mai_below_n : s.mai < ones m
  pub in_allocation : s.position < size

unfoldable pub Position : Type 0
Position = (size m hsn maio fn : ℕ) (s : Selection) → position_of size m hsn maio fn ≡ accepted s → AtOne size m hsn maio fn s

-- with the entry of CA at the position that is answered
abbrev pub tuned_by : List ℕ → Outcome Selection → Outcome Tuning
tuned_by ca (refused r) = refused r
tuned_by ca (accepted s) = accepted (record { arfcn = get_or ca s.position 0; mai = s.mai; position = s.position })

-- "The ARFCN is the CA entry at" that position: hop is the check of CA, position, and the entry there
unfoldable pub ByPosition : Type 0
ByPosition = (ca : List ℕ) (m hsn maio fn : ℕ) → is_allocation ca ≡ true → hop_of ca m hsn maio fn ≡ tuned_by ca (position_of (length ca) m hsn maio fn)

-- "NBIN is the number of bits needed to write N": so many have room for N, and fewer have not
unfoldable pub Nbin : Type 0
Nbin = (n : ℕ) → n ≤ 64 → (n < 2 ^ nbin n) × ((k : ℕ) → k < nbin n → 2 ^ k ≤ n)

-- "RNTABLE, entries 0 to 113", "RNTABLE with 114 entries proved at most 127"
pub record Rntable : Type 0 where
  pub entries : length rntable ≡ 114
  pub at_most_127 : (k : ℕ) → get_or rntable k 0 ≤ 127
  -- no number stands there twice
  pub none_twice : (i j : ℕ) → i < 114 → j < 114 → get_or rntable i 0 ≡ get_or rntable j 0 → i ≡ j
  -- "RNTABLE[(HSN xor (T1 mod 64)) + T3]" is one of them
  pub within : (hsn t1 t3 : ℕ) → hsn ≤ 63 → t3 ≤ 50 → bit_xor hsn (t1 % 64) + t3 < 114

-- "a one at or above CA's length", of masks of any length: exactly then some bit at or above it is one
pub record OneAtOrAbove : Type 0 where
  pub some_bit : (m size : ℕ) → one_at_or_above m size ≡ true → (p : ℕ) × (size ≤ p) × (bit m p ≡ 1)
  pub any_bit : (m size p : ℕ) → size ≤ p → bit m p ≡ 1 → one_at_or_above m size ≡ true

-- "Two lines clash": whichever of them is named first
unfoldable pub ClashIsSymmetric : Type 0
ClashIsSymmetric = (v w : Physical) → clash v w ≡ clash w v

-- "64-bit allocation masks are ANDed and shifted; overlap and membership are proved bit by bit", "Count of ones gives N": what these give
-- of 64-bit words is what the definitions say bit by bit
pub record Words : Type 0 where
  pub count : (m : ℕ) → m < 2 ^ 64 → count_ones m ≡ ones m
  pub overlap : (a b : ℕ) → a < 2 ^ 64 → b < 2 ^ 64 → not (eqb (bit_and a b) 0) ≡ share_one a b
  pub membership : (m p : ℕ) → m < 2 ^ 64 → 64 ≤ p → bit m p ≡ 0
  pub shifted : (m n : ℕ) → m < 2 ^ 64 → n < 64 → not (eqb (m / 2 ^ n) 0) ≡ one_at_or_above m n
