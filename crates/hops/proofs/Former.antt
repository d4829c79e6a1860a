-- Without ARFCN 0 an entry is in place exactly if it was by the former order: specs/Former.antt. Assumes nothing.
use Prim.Native.Nat.{ℕ, ◌-◌, ◌<◌}
use mathlib.Core.Path.{◌≡◌, refl, ap}
use mathlib.Core.Bool.{Bool, false, not, ◌&&◌, ◌||◌}
use mathlib.Core.List.{List, [], ◌∷◌}
use native.Mathlib.Omega.{arith}
use lib.Dec.{ltb, eqb}
use lib.ListN.{length, get_or}
use Rattle.answers.specs.Outcome.{cause, decide}
use Rattle.answers.specs.Ranges.{no_arfcn, no_size}
use Rattle.answers.specs.Search.{all_below}
use Rattle.answers.proofs.Search.{any_at, all_agree}
use Rattle.answers.proofs.Tests.{not_both, refute}
use Rattle.hops.specs.Allocation.{in_place, is_allocation, lists}
use Rattle.hops.specs.Hopping.{line_tuning, hopping_causes, hop_of}
use Rattle.hops.specs.Former.{former_in_place, former_allocation, former_hop_of, OthersAsBefore}

module _ (ca : List ℕ) (none : lists ca 0 ≡ false) where
  no_zero : (k : ℕ) → k < length ca → eqb (get_or ca k 0) 0 ≡ false
  no_zero k l = refute _ (λ t. not_both (any_at (λ j. eqb (get_or ca j 0) 0) (length ca) k l t) none)

  place : (k : ℕ) → k < length ca → in_place ca k ≡ former_in_place ca k
  place k l = ap (λ (t : Bool). not (no_arfcn (get_or ca k 0)) && (eqb k 0 || t)) (order (eqb (get_or ca (k - 1) 0) 0) (eqb (get_or ca k 0) 0) (no_zero (k - 1) (omega arith)) (no_zero k l))
    where
      order : (x y : Bool) → x ≡ false → y ≡ false → (not x && (y || ltb (get_or ca (k - 1) 0) (get_or ca k 0))) ≡ ltb (get_or ca (k - 1) 0) (get_or ca k 0)
      order x y p q = cc

  same_allocation : is_allocation ca ≡ former_allocation ca
  unfolding is_allocation former_allocation
  same_allocation = ap (λ (t : Bool). not (no_size (length ca)) && t) (all_agree (in_place ca) (former_in_place ca) (length ca) place)

  same_hop : (m hsn maio fn : ℕ) → hop_of ca m hsn maio fn ≡ former_hop_of ca m hsn maio fn
  unfolding hop_of former_hop_of
  same_hop m hsn maio fn =
      ap (λ (t : Bool). decide (cause 1 (not t ∷ []) ∷ hopping_causes (length ca) m hsn maio fn) (line_tuning ca m hsn maio fn)) same_allocation

pub others_as_before : OthersAsBefore
unfolding all_below is_allocation former_allocation
others_as_before = record { allocation = same_allocation; hop = λ ca m hsn maio fn none. same_hop ca none m hsn maio fn; former = refl; now = refl }
