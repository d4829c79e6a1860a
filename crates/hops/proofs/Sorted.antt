-- Lists in the order of a cell allocation: two of them with the same entries are one list. Assumes nothing.
use Prim.Native.Nat.{ℕ, suc, ◌<◌}
use mathlib.Core.Path.{◌≡◌, refl, sym, ap, ap₂, ◌∙◌, subst}
use mathlib.Core.Bool.{Bool, true, false, ◌&&◌, ◌||◌, cond}
use mathlib.Core.List.{List, [], ◌∷◌}
use native.Mathlib.Omega.{arith}
use lib.Dec.{eqb}
use lib.ListN.{length, get_or}
use borrow.Author.Tests.{eqb-true, eq-eqb}
use Rattle.std.specs.List.{AllPairs, filter, list_any}
use Rattle.std.proofs.lemmas.List.{get_or_default}
use Rattle.std.proofs.lemmas.List.Folds.{Any-from_list_any, list_any_at}
use Rattle.answers.proofs.Tests.{or_left, or_rest, not_both, refute}
use Rattle.hops.proofs.Order.{Before, before_trans, before_irreflexive}

-- ---- entries

abbrev pub has_entry : List ℕ → ℕ → Bool
has_entry xs a = list_any (λ x. eqb x a) xs

-- where an entry stands
pub record Entry (xs : List ℕ) (a : ℕ) : Type 0 where
  pub place : ℕ
  pub below : place < length xs
  pub there : get_or xs place 0 ≡ a

pub entry_at : (xs : List ℕ) (k : ℕ) → k < length xs → has_entry xs (get_or xs k 0) ≡ true
entry_at xs k l = list_any_at (λ x. eqb x (get_or xs k 0)) xs k 0 l (eq-eqb _ _ refl)

pub entry_of : (xs : List ℕ) (a : ℕ) → has_entry xs a ≡ true → Entry xs a
entry_of xs a e =
    let w = Any-from_list_any (λ x. eqb x a) xs e in
    record { place = w.0; below = w.2; there = get_or_default xs w.0 0 w.1 w.2 ∙ (w.3 ∙ eqb-true w.1 a w.4) }

-- ---- the order

abbrev pub Sorted : List ℕ → Type 0
Sorted xs = AllPairs Before xs

-- the first entry comes before each other one
first_before : (x : ℕ) (xs : List ℕ) → Sorted (x ∷ xs) → (a : ℕ) → has_entry xs a ≡ true → Before x a
first_before x xs s a e = let w = entry_of xs a e in subst (Before x) w.there (s 0 (suc w.place) 0 (omega arith) (let l = w.below in omega arith))

rest : (x : ℕ) (xs : List ℕ) → Sorted (x ∷ xs) → Sorted xs
rest x xs s i j d l r = s (suc i) (suc j) d (omega arith) (omega arith)

pub one_list : (xs ys : List ℕ) → Sorted xs → Sorted ys → ((a : ℕ) → has_entry xs a ≡ has_entry ys a) → xs ≡ ys
one_list [] [] s t f = refl
one_list [] (y ∷ ys) s t f = not_both (or_left (has_entry ys y) (eq-eqb y y refl)) (sym (f y))
one_list (x ∷ xs) [] s t f = not_both (or_left (has_entry xs x) (eq-eqb x x refl)) (f x)
one_list (x ∷ xs) (y ∷ ys) s t f = ap₂ {C = List ℕ} (λ (z : ℕ) (zs : List ℕ). z ∷ zs) heads (one_list xs ys (rest x xs s) (rest y ys t) tails)
  where
    -- the first entry of each is one of the other, and none comes before itself
    heads : x ≡ y
    heads = go (eqb x y) refl
      where
        go : (e : Bool) → eqb x y ≡ e → x ≡ y
        go true q = eqb-true x y q
        go false q =
            let there : has_entry xs y ≡ true = or_rest (eqb x y) (has_entry xs y) q (f y ∙ or_left (has_entry ys y) (eq-eqb y y refl)) in
            let back : (eqb y x || has_entry ys x) ≡ true = sym (f x) ∙ or_left (has_entry xs x) (eq-eqb x x refl) in
            let other : eqb y x ≡ false = refute (eqb y x) (λ e. not_both (eq-eqb x y (sym (eqb-true y x e))) q) in
            absurd (before_irreflexive x (before_trans x y x (first_before x xs s y there) (first_before y ys t x (or_rest (eqb y x) (has_entry ys x) other back))))

    -- the first entry is none of the others
    alone : (z : ℕ) (zs : List ℕ) → Sorted (z ∷ zs) → has_entry zs z ≡ false
    alone z zs r = refute (has_entry zs z) (λ e. before_irreflexive z (first_before z zs r z e))

    tails : (a : ℕ) → has_entry xs a ≡ has_entry ys a
    tails a = go (eqb x a) refl
      where
        go : (e : Bool) → eqb x a ≡ e → has_entry xs a ≡ has_entry ys a
        go true q =
            let p : x ≡ a = eqb-true x a q in
            ap (has_entry xs) (sym p) ∙ (alone x xs s ∙ (sym (alone y ys t) ∙ ap (has_entry ys) (sym heads ∙ p)))
        go false q =
            let r : eqb y a ≡ false = subst (λ (z : ℕ). eqb z a ≡ false) heads q in
            ap (λ (e : Bool). e || has_entry xs a) (sym q) ∙ (f a ∙ ap (λ (e : Bool). e || has_entry ys a) r)

-- ---- the part of a list that passes a test

pub filter_has : (test : ℕ → Bool) (xs : List ℕ) (a : ℕ) → has_entry (filter test xs) a ≡ (test a && has_entry xs a)
filter_has test [] a = sym (and_none (test a))
  where
    and_none : (t : Bool) → (t && false) ≡ false
    and_none true = refl
    and_none false = refl
filter_has test (x ∷ xs) a = kept (test x) ∙ step (test x) (eqb x a) (test a) (λ e. ap test (sym (eqb-true x a e))) (filter_has test xs a)
  where
    kept : (t : Bool) → has_entry (cond t (x ∷ filter test xs) (filter test xs)) a ≡ cond t (eqb x a || has_entry (filter test xs) a) (has_entry (filter test xs) a)
    kept true = refl
    kept false = refl

    -- x passes or not, and is a or not
    step : (t is passes : Bool) → (is ≡ true → passes ≡ t) → has_entry (filter test xs) a ≡ (passes && has_entry xs a)
        → cond t (is || has_entry (filter test xs) a) (has_entry (filter test xs) a) ≡ (passes && (is || has_entry xs a))
    step true true passes s h = sym (ap (λ (p : Bool). p && true) (s refl))
    step false true passes s h = h ∙ (ap (λ (p : Bool). p && has_entry xs a) (s refl) ∙ sym (ap (λ (p : Bool). p && true) (s refl)))
    step true false passes s h = h
    step false false passes s h = h
