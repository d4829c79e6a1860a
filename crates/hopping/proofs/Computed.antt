-- What `sequence.rt` computes: remainders by 2^NBIN with NBIN ones, remainders by subtraction, and that they come to S. Assumes nothing.
use Prim.Native.Nat.{ℕ, ◌+◌, ◌*◌, ◌-◌, ◌/◌, ◌%◌, ◌^◌, ◌≤◌, ◌<◌}
use mathlib.Core.Path.{◌≡◌, refl, sym, ap, ◌∙◌, subst}
use mathlib.Core.Bool.{Bool, true, ◌&&◌, ◌||◌, cond}
use native.Mathlib.Nat.{lt_trans, mod-lt, mod-eq_of_lt, add-mod_right, mod-mod_of_dvd, dvd-mul_left}
use native.Mathlib.Omega.{arith}
use lib.Bits.{bit_and, and_mask}
use lib.Count as Count
use lib.Dec.{ltb, eqb, lit<}
use lib.ListN.{get_or}
use lib.Pow.{pow_pos}
use borrow.Author.Tests.{lt-ltb, le-ltb, ltb-true, eqb-true, ne_eqb}
use Rattle.answers.specs.Search.{all_below, least}
use Rattle.answers.proofs.Search.{all_at}
use Rattle.answers.proofs.Tests.{and_left, and_right, or_rest}
use Rattle.clock.specs.declared.Frame.{Frame}
use Rattle.hops.specs.Hopping.{rntable, nbin, M, M', T', S}
use Rattle.hops.proofs.Mai.{rn_le, nbin_twice}

-- ---- NBIN

-- N has fewer than eight leading zeros, and what they leave of a byte's ones is NBIN ones: one test over the 65 numbers
fits : ℕ → Bool
fits n = eqb n 0 || (ltb (Count.count_leading_zeros 8 n) 8 && eqb (255 / 2 ^ Count.count_leading_zeros 8 n) (2 ^ nbin n - 1))

all_fit : all_below fits 65 ≡ true
unfolding fits nbin least all_below Count.count_leading_zeros
all_fit = refl

module _ (n : ℕ) (p : 0 < n) (h : n ≤ 64) where
  tested : (ltb (Count.count_leading_zeros 8 n) 8 && eqb (255 / 2 ^ Count.count_leading_zeros 8 n) (2 ^ nbin n - 1)) ≡ true
  unfolding fits
  tested =
      let t : fits n ≡ true = all_at fits 65 all_fit n (omega arith) in
      or_rest _ _ (ne_eqb n 0 (λ z. omega arith)) t

  pub leading_lt : Count.count_leading_zeros 8 n < 8
  leading_lt = ltb-true _ _ (and_left _ _ tested)

  pub masked : (x : ℕ) → bit_and x (255 / 2 ^ Count.count_leading_zeros 8 n) ≡ x % 2 ^ nbin n
  masked x = ap (bit_and x) (eqb-true _ _ (and_right (ltb (Count.count_leading_zeros 8 n) 8) _ tested)) ∙ and_mask x (nbin n)

  -- what the code has of it as `r`
  pub reduced_lt : (x r : ℕ) → r ≡ x % 2 ^ nbin n → r < n + n
  reduced_lt x r e =
      let l = nbin_twice n (lt_trans (let q : n < 65 = omega arith in q) (lit< tt)) p in
      let m = mod-lt x (pow_pos (nbin n)) in
      omega arith

-- ---- remainders by subtraction

pub less_once : (x n : ℕ) → n ≤ x → x < n + n → x - n ≡ x % n
less_once x n a b =
    let e : (x - n) + n ≡ x = omega arith in
    sym (ap (λ (k : ℕ). k % n) (sym e) ∙ (add-mod_right (x - n) n ∙ mod-eq_of_lt (let q : x - n < n = omega arith in q)))

-- twice n first, then n
pub twice_once : (x n : ℕ) → x % (2 * n) % n ≡ x % n
twice_once x n = mod-mod_of_dvd n x (dvd-mul_left n 2)

-- ---- S

-- what the code read of RNTABLE is at most 127
pub entry_le : (x k : ℕ) → x ≡ get_or rntable k 0 → x ≤ 127
entry_le x k e = let l = rn_le k in omega arith

-- what the code has of M as `x`, of M' as `a` and of T' as `b`
module _ (n hsn : ℕ) (f : Frame) (x a b : ℕ) (e : x ≡ M hsn f) (ea : a ≡ x % 2 ^ nbin n) (eb : b ≡ f.t3 % 2 ^ nbin n) where
  m_is : a ≡ M' n hsn f
  m_is = ea ∙ ap (λ (y : ℕ). y % 2 ^ nbin n) e

  pub s_below : a < n → a ≡ S n hsn f
  unfolding S
  s_below l =
      m_is ∙ sym (ap (λ (t : Bool). cond t (M' n hsn f) ((M' n hsn f + T' n f) % n)) (lt-ltb (M' n hsn f) n (subst (λ (y : ℕ). y < n) m_is l)))

  pub s_above : n ≤ a → (a + b) % n ≡ S n hsn f
  unfolding S
  s_above l =
      ap (λ (y : ℕ). (y + b) % n) m_is
      ∙ (ap (λ (y : ℕ). (M' n hsn f + y) % n) eb
      ∙ sym (ap (λ (t : Bool). cond t (M' n hsn f) ((M' n hsn f + T' n f) % n)) (le-ltb (M' n hsn f) n (subst (λ (y : ℕ). n ≤ y) m_is l))))
