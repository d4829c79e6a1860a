-- Laws of `tabulate`, and of a list that a loop fills entry by entry. Assumes nothing.
use Prim.Native.Nat.{ℕ, zero, suc, ◌+◌, ◌≤◌, ◌<◌}
use mathlib.Core.Path.{◌≡◌, refl, sym, ap, ◌∙◌}
use mathlib.Core.List.{List, [], ◌∷◌}
use native.Mathlib.Nat.{not-suc-le-zero, le_of_suc-le-suc}
use native.Mathlib.Omega.{arith}
use lib.ListN.{length, get_or, take, set}
use lib.Seq.{ext_get_or, get_or-set_same, get_or-set_other}
use borrow.Author.Count.{below_more}
use Rattle.rules.specs.State.{tabulate}

module _ {A : Type 0} where
  both : {x y : A} {xs ys : List A} → x ≡ y → xs ≡ ys → (x ∷ xs) ≡ (y ∷ ys)
  both p q = cc

  pub tabulate_at : (n : ℕ) (f : ℕ → A) (d : A) (k : ℕ) → k < n → get_or (tabulate n f) k d ≡ f k
  unfolding tabulate
  tabulate_at zero f d k h = absurd (not-suc-le-zero h)
  tabulate_at (suc n) f d zero h = refl
  tabulate_at (suc n) f d (suc k) h = tabulate_at n (λ (i : ℕ). f (suc i)) d k (le_of_suc-le-suc h)

  -- equal entries
  pub tabulate_same : (n : ℕ) (f g : ℕ → A) → ((k : ℕ) → k < n → f k ≡ g k) → tabulate n f ≡ tabulate n g
  unfolding tabulate
  tabulate_same zero f g e = refl
  tabulate_same (suc n) f g e = both (e 0 (omega arith)) (tabulate_same n (λ (i : ℕ). f (suc i)) (λ (i : ℕ). g (suc i)) (λ k h. e (suc k) (omega arith)))

  -- one entry set: equal elsewhere
  pub tabulate_set : (n : ℕ) (f g : ℕ → A) (i : ℕ) → ((k : ℕ) → k < n → (k ≡ i → ⊥) → f k ≡ g k) → set (tabulate n f) i (g i) ≡ tabulate n g
  unfolding tabulate
  tabulate_set zero f g i e = refl
  tabulate_set (suc n) f g zero e =
      ap {B = List A} (λ (t : List A). g 0 ∷ t)
      (tabulate_same n (λ (k : ℕ). f (suc k)) (λ (k : ℕ). g (suc k)) (λ k h. e (suc k) (omega arith) (λ q. omega arith)))
  tabulate_set (suc n) f g (suc i) e =
      both (e 0 (omega arith) (λ q. omega arith))
      (tabulate_set n (λ (k : ℕ). f (suc k)) (λ (k : ℕ). g (suc k)) i (λ k h d. e (suc k) (omega arith) (λ q. d (omega arith))))

  -- a list that fits, read entry by entry
  pub tabulate_list : (n : ℕ) (xs : List A) (d : A) → length xs ≤ n → take (length xs) (tabulate n (λ k. get_or xs k d)) ≡ xs
  unfolding tabulate
  tabulate_list n [] d h = refl
  tabulate_list zero (x ∷ xs) d h = absurd (not-suc-le-zero h)
  tabulate_list (suc n) (x ∷ xs) d h = ap {B = List A} (λ (t : List A). x ∷ t) (tabulate_list n xs d (le_of_suc-le-suc h))

  pub tabulate_length : (n : ℕ) (f : ℕ → A) → length (tabulate n f) ≡ n
  unfolding tabulate
  tabulate_length zero f = refl
  tabulate_length (suc n) f = ap suc (tabulate_length n (λ (k : ℕ). f (suc k)))

  -- a list with n entries, each as f has it
  pub tabulated : (n : ℕ) (f : ℕ → A) (d : A) (l : List A) → length l ≡ n → ((k : ℕ) → k < n → get_or l k d ≡ f k) → l ≡ tabulate n f
  tabulated n f d l e h =
      ext_get_or d l (tabulate n f) (e ∙ sym (tabulate_length n f))
      (λ k b. let w : k < n = omega arith in h k w ∙ sym (tabulate_at n f d k w))

  -- the entries below k are as f has them, and the next is stored
  pub stored : (f : ℕ → A) (d : A) (l : List A) (k : ℕ) (v : A) → k < length l → v ≡ f k → ((i : ℕ) → i < k → get_or l i d ≡ f i)
      → (i : ℕ) → i < k + 1 → get_or (set l k v) i d ≡ f i
  stored f d l k v b e h =
      below_more (λ (i : ℕ). get_or (set l k v) i d ≡ f i) k
      (λ i w. get_or-set_other l k i v d (λ q. omega arith) ∙ h i w) (get_or-set_same l k v d b ∙ e)
