-- The order of a cell allocation in plain numbers: 0 comes before none, any other number before 0 and before the larger ones. Assumes nothing.
use Prim.Native.Nat.{ℕ, ◌≤◌, ◌<◌}
use mathlib.Core.Path.{◌≡◌, refl, ap}
use mathlib.Core.Bool.{Bool, true, false, not, ◌||◌}
use mathlib.Core.Logic.{◌⊎◌, inl, inr, ⊎_elim}
use native.Mathlib.Nat.{lt_trans}
use native.Mathlib.Omega.{arith}
use lib.Dec.{ltb, eqb}
use borrow.Author.Tests.{lt-ltb, ltb-true, eqb-true, eqb-false, eq-eqb, ne_eqb, not-true}
use Rattle.answers.proofs.Tests.{and_left, and_right, and_both, or_left, or_right, or_rest}
use Rattle.hops.specs.Allocation.{precedes}

abbrev pub Before : ℕ → ℕ → Type 0
Before a b = (1 ≤ a) × ((b ≡ 0) ⊎ (a < b))

pub before : (a b : ℕ) → precedes a b ≡ true → Before a b
before a b e = (positive, go (eqb b 0) refl)
  where
    positive : 1 ≤ a
    positive = let z = eqb-false a 0 (not-true _ (and_left (not (eqb a 0)) (eqb b 0 || ltb a b) e)) in omega arith

    go : (t : Bool) → eqb b 0 ≡ t → (b ≡ 0) ⊎ (a < b)
    go true q = inl (eqb-true b 0 q)
    go false q = inr (ltb-true a b (or_rest (eqb b 0) (ltb a b) q (and_right (not (eqb a 0)) (eqb b 0 || ltb a b) e)))

pub before_precedes : (a b : ℕ) → Before a b → precedes a b ≡ true
before_precedes a b h =
    and_both (ap not (ne_eqb a 0 (λ z. omega (arith, z, h.0)))) (⊎_elim (λ z. or_left (ltb a b) (eq-eqb b 0 z)) (λ l. or_right (eqb b 0) (lt-ltb a b l)) h.1)

pub before_trans : (a b c : ℕ) → Before a b → Before b c → Before a c
before_trans a b c p q = (
  p.0,
  ⊎_elim (λ (z : b ≡ 0). absurd (let l = q.0 in omega arith)) (λ (l : a < b). ⊎_elim (λ (z : c ≡ 0). inl z) (λ (k : b < c). inr (lt_trans l k)) q.1) p.1,
)

pub before_irreflexive : (a : ℕ) → Before a a → ⊥
before_irreflexive a h = let l = h.0 in ⊎_elim (λ (z : a ≡ 0). omega arith) (λ (k : a < a). omega arith) h.1
