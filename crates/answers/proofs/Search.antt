-- Laws of `all_below`, `any_below`, `least` and `first_below`. Assumes nothing.
use Prim.Native.Nat.{ℕ, zero, suc, ◌<◌}
use mathlib.Core.Path.{◌≡◌, refl, sym, ap, ap₂, ◌∙◌, subst}
use mathlib.Core.Bool.{Bool, true, false, ◌&&◌, cond}
use mathlib.Core.Logic.{◌⊎◌, inl, inr, ⊎_elim}
use mathlib.Core.Option.{Option, none, some}
use native.Mathlib.Nat.{not-suc-le-zero, le_of_suc-le-suc, eq-or-lt_of_le, le_refl}
use native.Mathlib.Omega.{arith}
use lib.Dec.{ltb}
use borrow.Author.Tests.{lt-ltb, le-ltb}
use Rattle.answers.specs.Search.{all_below, any_below, least, first_below}
use Rattle.answers.proofs.Tests.{and_left, and_right, and_both, or_left, or_right, or_none, not_both}

-- k is n, or below it
last : (k n : ℕ) → k < suc n → (k ≡ n) ⊎ (k < n)
last k n h = eq-or-lt_of_le (le_of_suc-le-suc h)

module _ (test : ℕ → Bool) where
  -- a test that all numbers below n pass, at one of them
  pub all_at : (n : ℕ) → all_below test n ≡ true → (k : ℕ) → k < n → test k ≡ true
  unfolding all_below
  all_at zero e k h = absurd (not-suc-le-zero h)
  all_at (suc n) e k h =
      ⊎_elim (λ q. ap test q ∙ and_right (all_below test n) (test n) e)
      (λ l. all_at n (and_left (all_below test n) (test n) e) k l) (last k n h)

  pub all_of : (n : ℕ) → ((k : ℕ) → k < n → test k ≡ true) → all_below test n ≡ true
  unfolding all_below
  all_of zero f = refl
  all_of (suc n) f = and_both (all_of n (λ k h. f k (omega arith))) (f n (omega arith))

  -- two tests that agree below n
  pub all_agree : (other : ℕ → Bool) (n : ℕ) → ((k : ℕ) → k < n → test k ≡ other k) → all_below test n ≡ all_below other n
  unfolding all_below
  all_agree other zero f = refl
  all_agree other (suc n) f = ap₂ (λ (a b : Bool). a && b) (all_agree other n (λ k l. f k (omega arith))) (f n (omega arith))

  pub any_at : (n k : ℕ) → k < n → test k ≡ true → any_below test n ≡ true
  unfolding any_below
  any_at zero k h t = absurd (not-suc-le-zero h)
  any_at (suc n) k h t =
      ⊎_elim (λ q. or_right (any_below test n) (subst (λ (m : ℕ). test m ≡ true) q t)) (λ l. or_left (test n) (any_at n k l t)) (last k n h)

  pub any_none : (n : ℕ) → ((k : ℕ) → k < n → test k ≡ false) → any_below test n ≡ false
  unfolding any_below
  any_none zero f = refl
  any_none (suc n) f = or_none (any_none n (λ k h. f k (omega arith))) (f n (omega arith))

  -- where no number below n passes, the default
  pub least_none : (n d : ℕ) → ((k : ℕ) → k < n → test k ≡ false) → least test n d ≡ d
  unfolding least
  least_none zero d f = refl
  least_none (suc n) d f = ap (λ (b : Bool). least test n (cond b n d)) (f n (omega arith)) ∙ least_none n d (λ k h. f k (omega arith))

  -- the number that passes and has none below it that does
  pub least_at : (n d i : ℕ) → i < n → test i ≡ true → ((k : ℕ) → k < i → test k ≡ false) → least test n d ≡ i
  unfolding least
  least_at zero d i h t f = absurd (not-suc-le-zero h)
  least_at (suc n) d i h t f =
      ⊎_elim (λ q. ap (λ (b : Bool). least test n (cond b n d)) (subst (λ (m : ℕ). test m ≡ true) q t)
      ∙ (least_none n n (λ k l. f k (subst (λ (m : ℕ). k < m) (sym q) l)) ∙ sym q))
      (λ l. least_at n _ i l t f) (last i n h)

  -- i is below n and passes, and nothing before it does
  pub record First (n : ℕ) : Type 0 where
    pub place : ℕ
    pub below : place < n
    pub passes : test place ≡ true
    pub none : (k : ℕ) → k < place → test k ≡ false

  -- some number below n is the first that passes, or none passes
  pub first_or_none : (n : ℕ) → First n ⊎ ((k : ℕ) → k < n → test k ≡ false)
  first_or_none zero = inr (λ k h. absurd (not-suc-le-zero h))
  first_or_none (suc n) = ⊎_elim (λ w. inl (wider w)) (λ f. go f (test n) refl) (first_or_none n)
    where
      wider : First n → First (suc n)
      wider w = record { place = w.place; below = omega arith; passes = w.passes; none = w.none }

      go : ((k : ℕ) → k < n → test k ≡ false) → (b : Bool) → test n ≡ b → First (suc n) ⊎ ((k : ℕ) → k < suc n → test k ≡ false)
      go f true e = inl (record { place = n; below = omega arith; passes = e; none = f })
      go f false e = inr (λ k h. ⊎_elim (λ q. ap test q ∙ e) (f k) (last k n h))

  -- where some number below n passes, there is a first
  pub some_first : (n : ℕ) → any_below test n ≡ true → First n
  some_first n e = ⊎_elim (λ w. w) (λ f. not_both e (any_none n f)) (first_or_none n)

  pub first_of : (n i : ℕ) → i < n → test i ≡ true → First n
  first_of n i h t = ⊎_elim (λ w. w) (λ f. not_both t (f i h)) (first_or_none n)

  -- and it is the least
  pub least_first : (n d : ℕ) (w : First n) → least test n d ≡ w.place
  least_first n d w = least_at n d w.place w.below w.passes w.none

  -- some number below n passes exactly if the least does not fall back to n
  pub any_least : (n : ℕ) → any_below test n ≡ ltb (least test n n) n
  any_least n =
      ⊎_elim (λ w. any_at n w.place w.below w.passes ∙ sym (ap (λ (k : ℕ). ltb k n) (least_first n n w) ∙ lt-ltb w.place n w.below))
      (λ f. any_none n f ∙ sym (ap (λ (k : ℕ). ltb k n) (least_none n n f) ∙ le-ltb n n (le_refl n))) (first_or_none n)

  -- the first number that passes, if one does
  pub first_is : (n i : ℕ) → i < n → test i ≡ true → ((k : ℕ) → k < i → test k ≡ false) → first_below test n ≡ some i
  first_is n i h t f =
      ap (λ (b : Bool). cond b (some (least test n n)) none) (any_at n i h t) ∙ ap {B = Option ℕ} (λ (k : ℕ). some k) (least_at n n i h t f)

  pub first_none : (n : ℕ) → ((k : ℕ) → k < n → test k ≡ false) → first_below test n ≡ none
  first_none n f = ap (λ (b : Bool). cond b (some (least test n n)) none) (any_none n f)
