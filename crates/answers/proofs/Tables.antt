-- A table's rule: one computed test over the table, and the rule at each entry. Assumes nothing.
use Prim.Native.Nat.{ℕ, zero, suc, ◌≤◌}
use mathlib.Core.Path.{◌≡◌}
use mathlib.Core.Bool.{Bool, true, ◌&&◌}
use mathlib.Core.List.{List, [], ◌∷◌}
use lib.Dec.{leb, leb-zero}
use lib.ListN.{get_or}
use borrow.Author.Tests.{leb-true}
use Rattle.answers.proofs.Tests.{and_left, and_right}

module _ {A : Type 0} (test : A → Bool) where
  -- every entry passes the test
  unfoldable pub every : List A → Bool
  every [] = true
  every (x ∷ xs) = test x && every xs

  -- so does the one at any place, if what is read past the end does
  pub every_at : (xs : List A) (d : A) → every xs ≡ true → test d ≡ true → (k : ℕ) → test (get_or xs k d) ≡ true
  unfolding every
  every_at [] d e t k = t
  every_at (x ∷ xs) d e t zero = and_left (test x) (every xs) e
  every_at (x ∷ xs) d e t (suc k) = every_at xs d (and_right (test x) (every xs) e) t k

-- a bound on every entry of a table of numbers
pub at_most : (bound : ℕ) (xs : List ℕ) → every (λ (x : ℕ). leb x bound) xs ≡ true → (k : ℕ) → get_or xs k 0 ≤ bound
at_most bound xs e k = leb-true _ _ (every_at (λ (x : ℕ). leb x bound) xs 0 e (leb-zero bound) k)
