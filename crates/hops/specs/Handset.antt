-- The lists that a handset makes of ARFCNs: document 02, No. 3, "Handsets read the cell's list by 3GPP TS 04.08, which puts ARFCN 0 last, after all
-- others in ascending order". The statements; proofs/Handset.antt and proofs/MobileList.antt prove them. Assumes nothing.
use Rattle.std.specs.Prelude.{ℕ, ◌+◌, ◌≤◌, ◌<◌, ◌≡◌, ◌↔◌, Bool, true, ◌&&◌, List, [], ◌∷◌, ◌++◌, eqb, length, get_or, filter}
use Rattle.std.specs.List.{range_with_len}
use Rattle.answers.specs.Search.{any_below}
use Rattle.hops.specs.Masks.{contains, ones}
use Rattle.hops.specs.Allocation.{is_allocation, lists}
use Rattle.hops.specs.declared.Tuning.{Tuning}

-- all ARFCNs: the 1023 numbers from 1 on, and "ARFCN 0 last, after all others in ascending order"
unfoldable pub all_arfcns : List ℕ
all_arfcns = range_with_len 1 1023 ++ (0 ∷ [])

-- the list that a handset makes of the ARFCNs that pass a test
abbrev pub handset_list : (ℕ → Bool) → List ℕ
handset_list has = filter has all_arfcns

-- ---- "CA takes that order, refusal 1 is given by it"

-- a cell allocation has 1 to 64 ARFCNs and is, entry by entry, the list that a handset makes of them
unfoldable pub AsHandsetsRead : Type 0
AsHandsetsRead = (ca : List ℕ) → is_allocation ca ≡ true → (1 ≤ length ca) × (length ca ≤ 64) × (ca ≡ handset_list (lists ca))

-- and each such list of 1 to 64 is a cell allocation
unfoldable pub HandsetsAllocation : Type 0
HandsetsAllocation = (has : ℕ → Bool) → 1 ≤ length (handset_list has) → length (handset_list has) ≤ 64 → is_allocation (handset_list has) ≡ true

-- ---- "and mask bits count in it"

-- some one of the mask stands for the ARFCN: "bit p (p = 0 is worth 1) stands for CA position p"
abbrev pub stands_for : List ℕ → ℕ → ℕ → Bool
stands_for ca mask arfcn = any_below (λ p. contains mask p && eqb (get_or ca p 0) arfcn) (length ca)

-- the list that a handset makes of the ARFCNs in the mask
abbrev pub mobile_list : List ℕ → ℕ → List ℕ
mobile_list ca mask = handset_list (stands_for ca mask)

-- what a line with this mask is tuned to in a cell with this CA: entry MAI of that list, which has N entries
pub record AsRead (ca : List ℕ) (mask : ℕ) (t : Tuning) : Type 0 where
  pub n : length (mobile_list ca mask) ≡ ones mask
  pub within : t.mai < length (mobile_list ca mask)
  pub entry : get_or (mobile_list ca mask) t.mai 0 ≡ t.arfcn
  -- ARFCN 0, if the mask has it, has MAI N − 1, and no other one has
  pub zero_last : stands_for ca mask 0 ≡ true → (t.arfcn ≡ 0) ↔ (t.mai + 1 ≡ ones mask)
