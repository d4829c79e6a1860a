-- A list whose front is another's: what a loop that writes from the front knows after each turn. Assumes nothing.
use Prim.Native.Nat.{ℕ, ◌+◌, ◌<◌, ◌≤◌}
use mathlib.Core.Path.{◌≡◌, refl, sym, ◌∙◌}
use mathlib.Core.List.{List}
use native.Mathlib.Numerals.{add-one}
use native.Mathlib.Omega.{arith}
use lib.ListN.{length, take, get_or, set}
use lib.Seq.{take-suc, take-suc-set, take_all}

-- the next element is stored
pub front_more : (l t : List ℕ) (k v : ℕ) → k < length l → k < length t → take k l ≡ take k t → v ≡ get_or t k 0 → take (k + 1) (set l k v) ≡ take (k + 1) t
front_more l t k v hl ht e ev = rw (add-one k, take-suc-set l k v hl, take-suc t k 0 ht, e, ev) refl

-- as much is stored as the other has
pub front_all : (l t : List ℕ) (k : ℕ) → length l ≡ length t → length t ≤ k → take k l ≡ take k t → l ≡ t
front_all l t k h n e = sym (take_all k l (omega (arith, h))) ∙ (e ∙ take_all k t n)
