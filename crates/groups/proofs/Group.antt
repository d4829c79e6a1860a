-- The numbers of a phone's group: G and the TN from I without the remainder by K × n, and their ranges. Assumes nothing.
use Prim.Native.Nat.{ℕ, ◌+◌, ◌*◌, ◌/◌, ◌%◌, ◌≤◌, ◌<◌}
use mathlib.Core.Path.{◌≡◌, sym, ap, ◌∙◌, subst}
use mathlib.Core.Bool.{cond}
use native.Mathlib.Nat.{mod-lt, mod-le, mod-eq_of_lt, mod-mod_of_dvd, dvd-mul_left, mul-add-mod_self_right, div-add-mod', mul-add-div_right, mul_assoc, div-lt_iff_lt-mul, mul_comm, zero-mul, mul-zero, mul-pos, lt_of_mul-lt-mul_left, lt_of_mul-lt-mul_right}
use native.Mathlib.Omega.{arith}
use Rattle.groups.specs.Paging.{Common, A, n, r, G, block}

-- a product is positive only if its factors are
pub factors : (a b : ℕ) → 0 < a * b → (0 < a) × (0 < b)
factors a b h = (lt_of_mul-lt-mul_right b (omega (arith, zero-mul b)), lt_of_mul-lt-mul_left a (omega (arith, mul-zero a)))

pub remainder_divided : (x a p : ℕ) → 0 < a * p → x % (a * p) / a < p
remainder_divided x a p h = (div-lt_iff_lt-mul (factors a p h).0).1 (subst (λ (k : ℕ). x % (a * p) < k) (mul_comm a p) (mod-lt x h))

module _ (c : Common) (i : ℕ) (hn : 0 < n c) where
  a_positive : 0 < A c
  a_positive = (factors (A c) c.P hn).0

  -- G = I mod n
  pub group : G c i ≡ i % n c
  group = mod-mod_of_dvd (n c) i (dvd-mul_left (n c) c.K)

  -- the phone's multiframes by their remainder
  pub group_multiframe : G c i / A c < c.P
  group_multiframe = remainder_divided (r c i) (A c) c.P hn

  pub group_small : G c i ≤ i
  group_small = omega (arith, mod-le (r c i) (n c), mod-le i (c.K * n c))

  -- a phone's block is one of the CCCH's, and not reserved for access grants
  pub block_below : block c i < cond c.combined 3 9
  block_below = omega (arith, mod-lt (G c i) a_positive)

  module _ (hk : 0 < c.K) where
    -- the TN is twice one of 0 to K − 1 ..
    pub turn_below : r c i / n c < c.K
    turn_below = (div-lt_iff_lt-mul hn).1 (mod-lt i (mul-pos hk hn))

    -- .. (I div n) mod K
    pub turn : r c i / n c ≡ i / n c % c.K
    turn =
        sym (ap (λ (k : ℕ). k / n c % c.K) (sym whole)
        ∙ (ap (λ (k : ℕ). k % c.K) (mul-add-div_right hn (q * c.K) (r c i))
        ∙ (mul-add-mod_self_right q c.K (r c i / n c) ∙ mod-eq_of_lt turn_below)))
      where
        q : ℕ
        q = i / (c.K * n c)

        whole : q * c.K * n c + r c i ≡ i
        whole = ap (λ (k : ℕ). k + r c i) (mul_assoc q c.K (n c)) ∙ div-add-mod' i (c.K * n c)
