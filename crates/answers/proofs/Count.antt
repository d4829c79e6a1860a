-- Laws of `count_below`. Assumes nothing.
use Prim.Native.Nat.{ℕ, zero, suc, ◌+◌, ◌≤◌, ◌<◌}
use mathlib.Core.Path.{◌≡◌, refl, ap}
use mathlib.Core.Bool.{Bool, true, false, not, ◌&&◌, cond}
use native.Mathlib.Omega.{arith}
use native.Mathlib.Numerals.{add-one}
use Rattle.answers.specs.Search.{count_below}
use Rattle.answers.proofs.Tests.{refute, not_both}

-- what a number adds to the count
pub one_le : (b : Bool) → cond b 1 0 ≤ 1
one_le true = omega arith
one_le false = omega arith

module _ (test : ℕ → Bool) where
  pub count_next : (n : ℕ) → count_below test (n + 1) ≡ count_below test n + cond (test n) 1 0
  unfolding count_below
  count_next n = rw add-one refl

  pub count_none : (n : ℕ) → ((k : ℕ) → k < n → test k ≡ false) → count_below test n ≡ 0
  unfolding count_below
  count_none zero f = refl
  count_none (suc n) f =
      let e = count_none n (λ k h. f k (omega arith)) in
      let q : ◌≡◌ {A = ℕ} (cond (test n) 1 0) 0 = ap {B = ℕ} (λ (b : Bool). cond b 1 0) (f n (omega arith)) in
      omega (arith, e, q)

  -- where at most one number passes, the count is at most 1
  pub count_one : (n : ℕ) → ((i j : ℕ) → i < n → j < n → test i ≡ true → test j ≡ true → i ≡ j) → count_below test n ≤ 1
  unfolding count_below
  count_one zero f = omega arith
  count_one (suc n) f = go (test n) refl (count_one n (λ i j hi hj. f i j (omega arith) (omega arith)))
    where
      go : (b : Bool) → test n ≡ b → count_below test n ≤ 1 → count_below test n + cond b 1 0 ≤ 1
      go true e less =
          let q = count_none n (λ k h. refute (test k) (λ t. let z : k ≡ n = f k n (omega arith) (omega arith) t e in omega arith)) in
          omega (arith, q)
      go false e less = omega arith

  -- what passes the test, parted by another test
  pub count_parted : (other : ℕ → Bool) (n : ℕ)
      → count_below test n ≡ count_below (λ k. test k && other k) n + count_below (λ k. test k && not (other k)) n
  unfolding count_below
  count_parted other zero = refl
  count_parted other (suc n) = let e = count_parted other n in let q = one (test n) (other n) in omega (arith, e, q)
    where
      one : (a b : Bool) → ◌≡◌ {A = ℕ} (cond a 1 0) (cond (a && b) 1 0 + cond (a && not b) 1 0)
      one true true = refl
      one true false = refl
      one false true = refl
      one false false = refl

-- where every number that passes a test passes another, that one counts no fewer
pub count_mono : (test other : ℕ → Bool) (n : ℕ) → ((k : ℕ) → k < n → test k ≡ true → other k ≡ true) → count_below test n ≤ count_below other n
unfolding count_below
count_mono test other zero f = omega arith
count_mono test other (suc n) f =
    let h = count_mono test other n (λ k l. f k (omega arith)) in
    let o = one (test n) (other n) (f n (omega arith)) in
    omega (arith, h, o)
  where
    one : (a b : Bool) → (a ≡ true → b ≡ true) → ◌≤◌ (cond a 1 0) (cond b 1 0)
    one true true g = omega arith
    one true false g = not_both (g refl) refl
    one false b g = omega arith
