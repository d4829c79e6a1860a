-- Laws of Bool tests that several crates' proofs share. Assumes nothing.
use mathlib.Core.Path.{◌≡◌, refl, sym, ap, ◌∙◌, subst}
use mathlib.Core.Bool.{Bool, true, false, not, ◌&&◌, ◌||◌}
use Prim.Native.Nat.{ℕ, ◌≤◌, ◌<◌}
use lib.Dec.{T, ltb, eqb}
use borrow.Author.Tests.{le-ltb, lt-ltb, eq-eqb, ne_eqb, eqb-true, eqb-false}

pub and_left : (a b : Bool) → (a && b) ≡ true → a ≡ true
and_left true b h = refl
and_left false b h = h

pub and_right : (a b : Bool) → (a && b) ≡ true → b ≡ true
and_right true b h = h
and_right false b h = absurd (subst T (sym h) tt)

pub and_both : {a b : Bool} → a ≡ true → b ≡ true → (a && b) ≡ true
and_both {a} {b} p q = cc

pub and_rest : (a b : Bool) → a ≡ true → (a && b) ≡ false → b ≡ false
and_rest true b p h = h
and_rest false b p h = absurd (subst T (sym p) tt)

pub and_false_right : (a : Bool) {b : Bool} → b ≡ false → (a && b) ≡ false
and_false_right true q = q
and_false_right false q = refl

pub and_sym : (a b : Bool) → (a && b) ≡ (b && a)
and_sym true true = refl
and_sym true false = refl
and_sym false true = refl
and_sym false false = refl

pub or_left : {a : Bool} (b : Bool) → a ≡ true → (a || b) ≡ true
or_left {a} b p = cc

pub or_right : (a : Bool) {b : Bool} → b ≡ true → (a || b) ≡ true
or_right true q = refl
or_right false q = q

pub or_rest : (a b : Bool) → a ≡ false → (a || b) ≡ true → b ≡ true
or_rest true b p h = absurd (subst T p tt)
or_rest false b p h = h

pub or_none : {a b : Bool} → a ≡ false → b ≡ false → (a || b) ≡ false
or_none {a} {b} p q = cc

pub or_none_left : (a b : Bool) → (a || b) ≡ false → a ≡ false
or_none_left true b h = h
or_none_left false b h = refl

pub or_none_right : (a b : Bool) → (a || b) ≡ false → b ≡ false
or_none_right true b h = absurd (subst T h tt)
or_none_right false b h = h

pub or_false : (a : Bool) → (a || false) ≡ a
or_false true = refl
or_false false = refl

-- what is not true is false
pub refute : (b : Bool) → (b ≡ true → ⊥) → b ≡ false
refute true f = absurd (f refl)
refute false f = refl

pub not_both : {A : Type 0} {b : Bool} → b ≡ true → b ≡ false → A
not_both {b} p q = absurd (subst T (sym p ∙ q) tt)

-- equal, if each follows from the other
pub same_test : (a b : Bool) → (a ≡ true → b ≡ true) → (b ≡ true → a ≡ true) → a ≡ b
same_test true b f g = sym (f refl)
same_test false b f g = sym (refute b (λ e. not_both (g e) refl))

pub eqb_sym : (a b : ℕ) → eqb a b ≡ eqb b a
eqb_sym a b = go (eqb a b) refl
  where
    go : (t : Bool) → eqb a b ≡ t → eqb a b ≡ eqb b a
    go true e = e ∙ sym (eq-eqb b a (sym (eqb-true a b e)))
    go false e = e ∙ sym (ne_eqb b a (λ q. eqb-false a b e (sym q)))

-- a negated order test from the order
pub le_not_ltb : (a b : ℕ) → b ≤ a → not (ltb a b) ≡ true
le_not_ltb a b h = ap not (le-ltb a b h)

pub lt_not_ltb : (a b : ℕ) → a < b → not (ltb a b) ≡ false
lt_not_ltb a b h = ap not (lt-ltb a b h)
