-- A list that ends with 0 is an allocation exactly if what is before it is one without ARFCN 0, or empty; another one, if it is one without. Assumes
-- nothing.
use Prim.Native.Nat.{ℕ, zero, suc, ◌-◌, ◌≤◌, ◌<◌}
use mathlib.Core.Path.{◌≡◌, refl, sym, ap, ap₂, ◌∙◌, subst}
use mathlib.Core.Bool.{Bool, true, false, not, ◌&&◌, ◌||◌}
use mathlib.Core.Logic.{inl}
use mathlib.Core.List.{List, [], ◌∷◌}
use native.Mathlib.Decide.{dec_lt}
use native.Mathlib.Omega.{arith}
use lib.Dec.{ltb, eqb}
use lib.ListN.{length, get_or, get_or-append}
use lib.Seq.{get_or-append_seam}
use borrow.Author.Tests.{le-ltb, eq-eqb, ne_eqb, eqb-true, not-true}
use Rattle.std.specs.List.{IsLastAndRest}
use Rattle.answers.specs.Ranges.{no_arfcn}
use Rattle.answers.specs.Search.{all_below}
use Rattle.answers.proofs.Search.{all_of, some_first, any_at}
use Rattle.answers.proofs.Tests.{and_left, and_right, and_both, or_right, or_none, refute, not_both, same_test}
use Rattle.hops.specs.Allocation.{precedes, in_place, is_allocation, lists}
use Rattle.hops.proofs.Order.{before_precedes}
use Rattle.hops.proofs.Apart.{at_most_64, comes_before, placed}

pub empty : (ca : List ℕ) → length ca ≡ 0 → is_allocation ca ≡ false
unfolding is_allocation
empty ca e = ap (λ (t : Bool). not (t || ltb 64 (length ca)) && all_below (in_place ca) (length ca)) (eq-eqb (length ca) 0 e)

-- so many entries, in place
made : (ca : List ℕ) → 0 < length ca → length ca ≤ 64 → ((k : ℕ) → k < length ca → in_place ca k ≡ true) → is_allocation ca ≡ true
unfolding is_allocation
made ca h m f = and_both (ap not (or_none (ne_eqb (length ca) 0 (λ e. omega arith)) (le-ltb 64 (length ca) m))) (all_of (in_place ca) (length ca) f)

-- without ARFCN 0, if no entry is 0
none_zero : (ca : List ℕ) → ((k : ℕ) → k < length ca → get_or ca k 0 ≡ 0 → ⊥) → not (lists ca 0) ≡ true
none_zero ca f = ap not (refute (lists ca 0) (λ e. let w = some_first (λ k. eqb (get_or ca k 0) 0) (length ca) e in f w.place w.below (eqb-true (get_or ca w.place 0) 0 w.passes)))

module _ (ca rest : List ℕ) (x : ℕ) (p : IsLastAndRest ca x rest) where
  last_is : get_or ca (length rest) 0 ≡ x
  last_is = ap (λ (xs : List ℕ). get_or xs (length rest) 0) p.0 ∙ get_or-append_seam rest x [] 0

  before_last : (k : ℕ) → k < length rest → get_or ca k 0 ≡ get_or rest k 0
  before_last k l = ap (λ (xs : List ℕ). get_or xs k 0) p.0 ∙ get_or-append rest (x ∷ []) 0 k l

  same_place : (k : ℕ) → k < length rest → in_place ca k ≡ in_place rest k
  same_place k l =
      ap₂ (λ (a b : ℕ). not (no_arfcn b) && (eqb k 0 || precedes a b)) (before_last (k - 1) (omega arith)) (before_last k l)

  pub other_last : (x ≡ 0 → ⊥) → (is_allocation ca && not (lists ca 0)) ≡ is_allocation ca
  other_last n = same_test (is_allocation ca && not (lists ca 0)) (is_allocation ca) (λ e. and_left (is_allocation ca) (not (lists ca 0)) e) (λ e. and_both e (none_zero ca (nowhere e)))
    where
      nowhere : is_allocation ca ≡ true → (k : ℕ) → k < length ca → get_or ca k 0 ≡ 0 → ⊥
      nowhere e k l z = go (dec_lt k (length rest))
        where
          go : Dec (k < length rest) → ⊥
          go (yes b) = let c = (comes_before ca e k (length rest) b (let q = p.1 in omega arith)).0 in omega arith
          go (no b) = n (sym last_is ∙ (ap (λ (i : ℕ). get_or ca i 0) (let q = p.1 in omega (arith, b, l, q)) ∙ z))

  module _ (z : x ≡ 0) where
    placed_last : (length rest ≡ 0 → ⊥) → (get_or rest (length rest - 1) 0 ≡ 0 → ⊥) → in_place ca (length rest) ≡ true
    placed_last h n =
        subst (λ (a : ℕ). (not (no_arfcn a) && (eqb (length rest) 0 || precedes (get_or ca (length rest - 1) 0) a)) ≡ true) (sym (last_is ∙ z))
        (and_both refl (or_right (eqb (length rest) 0) (before_precedes (get_or ca (length rest - 1) 0) 0 (positive, inl refl))))
      where
        positive : 1 ≤ get_or ca (length rest - 1) 0
        positive = let b = before_last (length rest - 1) (omega (arith, h)) in omega (arith, n, b)

    pub zero_alone : length rest ≡ 0 → is_allocation ca ≡ true
    zero_alone e = made ca (let q = p.1 in omega arith) (let q = p.1 in omega arith) first
      where
        first : (k : ℕ) → k < length ca → in_place ca k ≡ true
        first zero l = and_both (subst (λ (a : ℕ). not (no_arfcn a) ≡ true) (sym (ap (λ (i : ℕ). get_or ca i 0) (sym e) ∙ (last_is ∙ z))) refl) refl
        first (suc k) l = absurd (let q = p.1 in omega (arith, e, l, q))

    pub too_long : 64 ≤ length rest → is_allocation ca ≡ false
    too_long h = refute (is_allocation ca) (λ e. let m = at_most_64 ca e in let q = p.1 in omega arith)

    pub zero_last : (length rest ≡ 0 → ⊥) → length rest < 64 → (is_allocation rest && not (lists rest 0)) ≡ is_allocation ca
    zero_last h m = same_test (is_allocation rest && not (lists rest 0)) (is_allocation ca) there back
      where
        there : (is_allocation rest && not (lists rest 0)) ≡ true → is_allocation ca ≡ true
        there e = made ca (let q = p.1 in omega arith) (let q = p.1 in omega arith) at
          where
            no_zero : (k : ℕ) → k < length rest → get_or rest k 0 ≡ 0 → ⊥
            no_zero k l n =
                not_both (any_at (λ j. eqb (get_or rest j 0) 0) (length rest) k l (eq-eqb (get_or rest k 0) 0 n))
                (not-true (lists rest 0) (and_right (is_allocation rest) (not (lists rest 0)) e))

            at : (k : ℕ) → k < length ca → in_place ca k ≡ true
            at k l = go (dec_lt k (length rest))
              where
                go : Dec (k < length rest) → in_place ca k ≡ true
                go (yes b) = same_place k b ∙ placed rest (and_left (is_allocation rest) (not (lists rest 0)) e) k b
                go (no b) =
                    subst (λ (i : ℕ). in_place ca i ≡ true) (let q = p.1 in omega (arith, b, l, q))
                    (placed_last h (no_zero (length rest - 1) (omega (arith, h))))

        back : is_allocation ca ≡ true → (is_allocation rest && not (lists rest 0)) ≡ true
        back e =
            and_both (made rest (omega (arith, h)) (omega arith) (λ k l. sym (same_place k l) ∙ placed ca e k (let q = p.1 in omega arith)))
            (none_zero rest (λ k l n. let c = (comes_before ca e k (length rest) l (let q = p.1 in omega arith)).0 in let b = before_last k l in omega arith))
