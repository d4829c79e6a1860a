-- A list of 1 to 64 numbers whose first is above 0 and whose last is an ARFCN is an allocation without ARFCN 0 exactly if each entry is below the
-- next: the former order. Assumes nothing.
use Prim.Native.Nat.{ℕ, zero, suc, ◌+◌, ◌-◌, ◌≤◌, ◌<◌}
use mathlib.Core.Path.{◌≡◌, refl, sym, ap, ap₂, ◌∙◌, subst}
use mathlib.Core.Bool.{Bool, true, false, not, ◌&&◌, ◌||◌}
use mathlib.Core.List.{List}
use native.Mathlib.Nat.{le_of_lt}
use native.Mathlib.Omega.{arith}
use lib.Dec.{ltb, eqb}
use lib.ListN.{length, get_or}
use borrow.Author.Tests.{lt-ltb, le-ltb, ltb-true, eq-eqb, ne_eqb, eqb-true}
use Rattle.std.specs.List.{IsAllAdjacentAnswer}
use Rattle.std.proofs.lemmas.List.Sorted.{IsNonDecreasingBy-from_all_adjacent}
use Rattle.answers.specs.Ranges.{no_arfcn, no_size}
use Rattle.answers.specs.Search.{all_below}
use Rattle.answers.proofs.Search.{all_of, all_at, any_at, some_first}
use Rattle.answers.proofs.Tests.{and_both, and_false_right, or_right, or_none, refute, not_both}
use Rattle.hops.specs.Allocation.{is_allocation, lists}
use Rattle.hops.specs.Former.{former_in_place, former_allocation}
use Rattle.hops.proofs.Former.{others_as_before}

abbrev is_arfcn : ℕ → Bool
is_arfcn a = not (no_arfcn a)

module _ (ca : List ℕ) where
  -- an allocation without ARFCN 0, by the former order
  abbrev without : Bool
  without = is_allocation ca && not (lists ca 0)

  as_before : without ≡ (former_allocation ca && not (lists ca 0))
  as_before = go (lists ca 0) refl
    where
      go : (t : Bool) → lists ca 0 ≡ t → (is_allocation ca && not t) ≡ (former_allocation ca && not t)
      go true q = and_false_right (is_allocation ca) refl ∙ sym (and_false_right (former_allocation ca) refl)
      go false q = ap (λ (a : Bool). a && true) (others_as_before.allocation ca q)

  none : former_allocation ca ≡ false → without ≡ false
  none e = as_before ∙ ap (λ (t : Bool). t && not (lists ca 0)) e

  pub empty : length ca ≡ 0 → without ≡ false
  unfolding former_allocation
  empty e = none (ap (λ (t : Bool). not (t || ltb 64 (length ca)) && all_below (former_in_place ca) (length ca)) (eq-eqb (length ca) 0 e))

  pub too_long : 64 < length ca → without ≡ false
  unfolding former_allocation
  too_long h = none (ap (λ (t : Bool). not t && all_below (former_in_place ca) (length ca)) (or_right (eqb (length ca) 0) (lt-ltb 64 (length ca) h)))

  pub zero_first : 0 < length ca → get_or ca 0 0 ≤ 0 → without ≡ false
  zero_first h z = and_false_right (is_allocation ca) (ap not (any_at (λ k. eqb (get_or ca k 0) 0) (length ca) 0 h (eq-eqb (get_or ca 0 0) 0 (omega arith))))

  -- of an entry that has one before it
  later : (i : ℕ) → former_in_place ca (i + 1) ≡ (is_arfcn (get_or ca (i + 1) 0) && ltb (get_or ca i 0) (get_or ca (i + 1) 0))
  later i =
      ap₂ (λ (t : Bool) (j : ℕ). is_arfcn (get_or ca (i + 1) 0) && (t || ltb (get_or ca j 0) (get_or ca (i + 1) 0)))
      (ne_eqb (i + 1) 0 (λ e. omega arith)) (let e : i + 1 - 1 ≡ i = omega arith in e)

  out_of_place : (k : ℕ) → k < length ca → former_in_place ca k ≡ false → former_allocation ca ≡ false
  unfolding former_allocation
  out_of_place k h e =
      and_false_right (not (no_size (length ca))) (refute (all_below (former_in_place ca) (length ca)) (λ t. not_both (all_at (former_in_place ca) (length ca) t k h) e))

  pub too_large : 0 < length ca → 1023 < get_or ca (length ca - 1) 0 → without ≡ false
  too_large h l =
      none (out_of_place (length ca - 1) (omega arith)
      (ap (λ (t : Bool). not t && (eqb (length ca - 1) 0 || ltb (get_or ca (length ca - 1 - 1) 0) (get_or ca (length ca - 1) 0))) (lt-ltb 1023 _ l)))

  module _ (h : 0 < length ca) (m : length ca ≤ 64) (z : 0 < get_or ca 0 0) (l : get_or ca (length ca - 1) 0 ≤ 1023) where
    module _ (f : (k d : ℕ) → k + 1 < length ca → true ≡ ltb (get_or ca k d) (get_or ca (k + 1) d)) where
      rises : (i k : ℕ) → i ≤ k → k < length ca → get_or ca i 0 ≤ get_or ca k 0
      rises i k o b = IsNonDecreasingBy-from_all_adjacent (λ (x : ℕ). x) ca (λ j d q. le_of_lt (ltb-true _ _ (sym (f j d q)))) i k 0 o b

      rising : (k : ℕ) → k < length ca → former_in_place ca k ≡ true
      rising k b = go k b (ap not (le-ltb 1023 (get_or ca k 0) (let top = rises k (length ca - 1) (omega arith) (omega arith) in omega arith)))
        where
          go : (i : ℕ) → i < length ca → is_arfcn (get_or ca i 0) ≡ true → former_in_place ca i ≡ true
          go zero q a = and_both a refl
          go (suc i) q a =
              let e : i + 1 ≡ suc i = omega arith in
              subst (λ (j : ℕ). former_in_place ca j ≡ true) e
              (later i ∙ and_both (subst (λ (j : ℕ). is_arfcn (get_or ca j 0) ≡ true) (sym e) a) (sym (f i 0 (omega arith))))

      no_zero : not (lists ca 0) ≡ true
      no_zero =
          ap not (refute (lists ca 0) (λ e. let w = some_first (λ k. eqb (get_or ca k 0) 0) (length ca) e in
          let q = eqb-true (get_or ca w.place 0) 0 w.passes in
          let r = rises 0 w.place (omega arith) w.below in
          omega arith))

    pub judged : (r : Bool) → IsAllAdjacentAnswer (λ x y b. b ≡ ltb x y) ca r → r ≡ without
    unfolding former_allocation
    judged true f =
        sym (as_before ∙ and_both (and_both (ap not (or_none (ne_eqb (length ca) 0 (λ e. omega arith)) (le-ltb 64 (length ca) m))) (all_of (former_in_place ca) (length ca) (rising f))) (no_zero f))
    judged false f = sym (none (out_of_place (f.0 + 1) f.1 (later f.0 ∙ and_false_right (is_arfcn (get_or ca (f.0 + 1) 0)) (sym (f.2 0)))))
