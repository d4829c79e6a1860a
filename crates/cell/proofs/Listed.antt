-- A chain over a list asks each entry, in the words of `any_below`. Assumes nothing.
use Prim.Native.Nat.{ℕ, zero, suc}
use mathlib.Core.Path.{◌≡◌, refl, sym, ap, ◌∙◌}
use mathlib.Core.Bool.{Bool, true, false, ◌||◌}
use mathlib.Core.List.{List, [], ◌∷◌}
use lib.ListN.{length, get_or}
use Rattle.std.specs.List.{list_any}
use Rattle.answers.specs.Search.{any_below}

-- the first number apart
any_first : (test : ℕ → Bool) (n : ℕ) → any_below test (suc n) ≡ (test 0 || any_below (λ k. test (suc k)) n)
unfolding any_below
any_first test zero = sym (or_none (test 0))
  where
    or_none : (b : Bool) → (b || false) ≡ (false || b)
    or_none true = refl
    or_none false = refl
any_first test (suc n) = ap (λ b. b || test (suc n)) (any_first test n) ∙ assoc (test 0) (any_below (λ k. test (suc k)) n) (test (suc n))
  where
    assoc : (a b c : Bool) → ((a || b) || c) ≡ (a || (b || c))
    assoc true b c = refl
    assoc false b c = refl

pub any_entry : (test : ℕ → Bool) (xs : List ℕ) → list_any test xs ≡ any_below (λ k. test (get_or xs k 0)) (length xs)
unfolding any_below
any_entry test [] = refl
any_entry test (x ∷ xs) = ap (λ b. test x || b) (any_entry test xs) ∙ sym (any_first (λ k. test (get_or (x ∷ xs) k 0)) (length xs))
