-- What is claimed of paging beside the promise of its call. Assumes nothing.
use Rattle.std.specs.Prelude.{ℕ, ◌+◌, ◌*◌, ◌/◌, ◌%◌, ◌≡◌, ◌⊎◌, ◌<◌, ◌≤◌, true, false, cond, List, [], ◌∷◌, length, get_or}
use Rattle.answers.specs.Outcome.{accepted}
use Rattle.answers.specs.Claims.{FairAnswer}
use Rattle.answers.specs.Ranges.{hyperframe}
use Rattle.maps.specs.declared.Kind.TheVariants.{Ccch}
use Rattle.maps.specs.Channels.{at}
use Rattle.maps.specs.Map.{map_of}
use Rattle.groups.specs.declared.PagingBlock.{PagingBlock}
use Rattle.groups.specs.Paging.{Common, last_three, A, n, r, timeslot, G, block, common_in, is_paged, later, block_for, is_imsi, paging_causes, paging_of}

-- "The lowest number that applies is given, and only if its condition holds."
unfoldable pub FairCall : Type 0
FairCall = (c : Common) (digits : List ℕ) (fn : ℕ) → FairAnswer (block_for c (last_three digits) fn) (paging_causes c digits fn) (paging_of c digits fn)

-- "I is the IMSI's last three digits as a number.": an IMSI has three, and they are a number below 1,000
unfoldable pub LastThree : Type 0
LastThree = (digits : List ℕ) → is_imsi digits ≡ true → (3 ≤ length digits) × (last_three digits < 1000)

-- which group is a phone's: G = I mod n, on the TN twice one of 0 to K − 1, and one of the CCCH blocks that AG leaves
pub record Group (c : Common) (i : ℕ) : Type 0 where
  pub group : G c i ≡ i % n c
  pub turn : r c i / n c ≡ i / n c % c.K
  pub timeslot_below : timeslot c i < 2 * c.K
  pub block_from : c.AG ≤ block c i
  pub block_below : block c i < cond c.combined 3 9

unfoldable pub Groups : Type 0
Groups = (c : Common) (i : ℕ) → 0 < n c → 0 < c.K → Group c i

-- "the first frame at or after FN, past the turn to 0 if need be, where that block has place 0": the block begins there, after so many
-- frames, and in none of the frames from FN on before it
pub record FirstFrame (c : Common) (i fn frame : ℕ) : Type 0 where
  pub after : ℕ
  pub is_later : frame ≡ later fn after
  pub within : after < hyperframe
  pub begins : is_paged c i frame ≡ true
  pub none_before : (d : ℕ) → d < after → is_paged c i (later fn d) ≡ false

-- the frames of a multiframe in which the CCCH blocks begin, in plain numbers: "CCCH blocks 0–8 at 6.., 12.., 16.., 22.., 26.., 32.., 36.., 42..,
-- 46.." (the definition, `begins`, goes by the rows of the map)
abbrev pub starts : List ℕ
starts = 6 ∷ 12 ∷ 16 ∷ 22 ∷ 26 ∷ 32 ∷ 36 ∷ 42 ∷ 46 ∷ []

-- "4 and 5 need TN 0, 6 needs TN 2, 4 or 6": a line of this combination may stand in this timeslot
abbrev pub MayStand : ℕ → ℕ → Type 0
MayStand combination tn = (((combination ≡ 4) ⊎ (combination ≡ 5)) × (tn ≡ 0)) ⊎ ((combination ≡ 6) × ((tn ≡ 2) ⊎ (tn ≡ 4) ⊎ (tn ≡ 6)))

-- what an accepted page answers
pub record Answered (c : Common) (i fn : ℕ) (b : PagingBlock) : Type 0 where
  -- "n = A × P" is above 0, so that the phone has a group
  pub has_groups : 0 < n c
  pub timeslot : (b.tn ≡ 0) ⊎ (b.tn ≡ 2) ⊎ (b.tn ≡ 4) ⊎ (b.tn ≡ 6)
  -- what `common_in` says of the common line in that TN is so: its combination may stand there; and a 5 is the only common line
  pub common_line : MayStand (common_in c.combined b.tn) b.tn
  pub a_five : c.combined ≡ true → c.K ≡ 1
  pub group : Group c i
  pub first : FirstFrame c i fn b.frame
  -- where no frame up to the turn is the phone's, its frame is in multiframe G div A, whether or not P divides the 53,248 multiframes
  pub past_turn : ((f : ℕ) → fn ≤ f → f < hyperframe → is_paged c i f ≡ false) → b.frame ≡ 51 * (G c i / A c) + get_or starts b.block 0
  -- the map of the common line of that TN has that block there, with place 0, and nothing else
  pub on_air : map_of (common_in c.combined b.tn) b.tn b.frame 0 ≡ accepted (at Ccch 0 b.block 0 ∷ [])

unfoldable pub First : Type 0
First = (c : Common) (digits : List ℕ) (fn : ℕ) (b : PagingBlock) → paging_of c digits fn ≡ accepted b → Answered c (last_three digits) fn b
