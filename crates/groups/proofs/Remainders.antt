-- The first number at or after m with a given remainder by p. Assumes nothing.
use Prim.Native.Nat.{ℕ, ◌+◌, ◌-◌, ◌*◌, ◌/◌, ◌%◌, ◌≤◌, ◌<◌}
use mathlib.Core.Path.{◌≡◌, sym, ap, ◌∙◌}
use native.Mathlib.Decide.{dec_lt}
use native.Mathlib.Nat.{mod-lt, mod-eq_of_lt, add-mod-mod, add-mod_right, mul-add-mod_self_right, div-add-mod', mul-le-mul_right, suc-mul}
use native.Mathlib.Omega.{arith}

-- numbers with one remainder that are less than p apart are equal
pub same_remainder : (p a b : ℕ) → a % p ≡ b % p → a ≤ b → b < a + p → a ≡ b
same_remainder p a b e h l = go (dec_lt (a / p) (b / p))
  where
    go : Dec (a / p < b / p) → a ≡ b
    go (yes g) = omega (arith, div-add-mod' a p, div-add-mod' b p, mul-le-mul_right p g, suc-mul (a / p) p)
    go (no g) = omega (arith, div-add-mod' a p, div-add-mod' b p, mul-le-mul_right {m = b / p} {n = a / p} p (omega arith))

abbrev pub next : ℕ → ℕ → ℕ → ℕ
next m t p = m + (t + p - m % p) % p

module _ (m t p : ℕ) (h : t < p) where
  pub next_remainder : next m t p % p ≡ t
  next_remainder =
      add-mod-mod m (t + p - m % p) p
      ∙ (ap (λ (k : ℕ). k % p) moved ∙ (mul-add-mod_self_right (m / p) p (t + p) ∙ (add-mod_right t p ∙ mod-eq_of_lt h)))
    where
      moved : m + (t + p - m % p) ≡ m / p * p + (t + p)
      moved = omega (arith, div-add-mod' m p, mod-lt m {m = p} (omega arith))

  -- no number from m on that has the remainder is before it
  pub next_first : (j : ℕ) → m ≤ j → j % p ≡ t → next m t p ≤ j
  next_first j l e = go (dec_lt j (next m t p))
    where
      near : next m t p < m + p
      near = omega (arith, mod-lt (t + p - m % p) {m = p} (omega arith))

      go : Dec (j < next m t p) → next m t p ≤ j
      go (yes g) = omega (arith, same_remainder p j (next m t p) (e ∙ sym next_remainder) (omega arith) (omega (arith, near)))
      go (no g) = omega arith
