-- The laws of NBIN, RNTABLE, S and MAI. Assumes nothing.
use Prim.Native.Nat.{ℕ, zero, suc, ◌+◌, ◌%◌, ◌^◌, ◌≤◌, ◌<◌}
use mathlib.Core.Path.{◌≡◌, refl, sym, ap, subst}
use mathlib.Core.Bool.{Bool, true, false, cond}
use native.Mathlib.Decide.{dec_lt}
use native.Mathlib.Nat.{mod-lt, pow-suc}
use native.Mathlib.Omega.{arith}
use lib.Bits.{bit_xor, xor_lt}
use lib.Dec.{ltb, eqb, lit<}
use lib.ListN.{get_or}
use lib.Pow.{pow_mono}
use borrow.Author.Tests.{lt-ltb, ltb-true, ltb-false, eq-eqb, ne_eqb}
use Rattle.answers.proofs.Search.{First, first_of, least_first}
use Rattle.answers.proofs.Tables.{every, at_most}
use Rattle.clock.specs.declared.Frame.{Frame}
use Rattle.clock.specs.Clock.{parts_of}
use Rattle.hops.specs.Hopping.{rntable, nbin, M', T', S, mai_of}

-- ---- RNTABLE

-- no entry passes 127: one test over the table
pub rn_le : (k : ℕ) → get_or rntable k 0 ≤ 127
unfolding rntable every
rn_le k = at_most 127 rntable refl k

-- HSN xor (T1 mod 64), plus T3, is an entry
pub index_lt : (hsn t1 t3 : ℕ) → hsn < 64 → t3 ≤ 50 → bit_xor hsn (t1 % 64) + t3 < 114
index_lt hsn t1 t3 h k = omega (arith, xor_lt 6 hsn (t1 % 64) h (mod-lt t1 (lit< tt)))

-- ---- NBIN

-- NBIN bits have room for N, and fewer have not
module _ (n : ℕ) (h : n < 2 ^ 63) where
  width : First (λ (k : ℕ). ltb n (2 ^ k)) 64
  width = first_of (λ (k : ℕ). ltb n (2 ^ k)) 64 63 (lit< tt) (lt-ltb n (2 ^ 63) h)

  width_is : nbin n ≡ width.place
  unfolding nbin
  width_is = least_first (λ (k : ℕ). ltb n (2 ^ k)) 64 64 width

  pub nbin_room : n < 2 ^ nbin n
  nbin_room = subst (λ (k : ℕ). n < 2 ^ k) (sym width_is) (ltb-true _ _ width.passes)

  pub nbin_least : (k : ℕ) → k < nbin n → 2 ^ k ≤ n
  nbin_least k l = ltb-false _ _ (width.none k (subst (λ (m : ℕ). k < m) width_is l))

  -- 2 to the power of NBIN is at most any power of two above N, and at most twice N
  pub nbin_at_most : (k : ℕ) → n < 2 ^ k → 2 ^ nbin n ≤ 2 ^ k
  nbin_at_most k l = go (dec_lt k (nbin n))
    where
      go : Dec (k < nbin n) → 2 ^ nbin n ≤ 2 ^ k
      go (yes b) = absurd (let a = nbin_least k b in omega arith)
      go (no b) = pow_mono (omega arith)

  pub nbin_twice : 0 < n → 2 ^ nbin n ≤ n + n
  nbin_twice p = go (nbin n) refl
    where
      go : (k : ℕ) → nbin n ≡ k → 2 ^ nbin n ≤ n + n
      go zero e = absurd (let r : n < 2 ^ zero = subst (λ (k : ℕ). n < 2 ^ k) e nbin_room in omega arith)
      go (suc k) e =
          let l = nbin_least k (let q : k < nbin n = omega arith in q) in
          subst (λ (m : ℕ). 2 ^ m ≤ n + n) (sym e) (let q = pow-suc 2 k in omega arith)

-- ---- S

-- S is below N
pub s_lt : (n hsn : ℕ) (f : Frame) → 0 < n → S n hsn f < n
unfolding S
s_lt n hsn f h = go (ltb (M' n hsn f) n) refl
  where
    go : (t : Bool) → ltb (M' n hsn f) n ≡ t → cond t (M' n hsn f) ((M' n hsn f + T' n f) % n) < n
    go true e = ltb-true _ _ e
    go false e = mod-lt (M' n hsn f + T' n f) h

-- ---- MAI

module _ (n hsn maio fn : ℕ) where
  pub mai_cyclic : hsn ≡ 0 → (fn + maio) % n ≡ mai_of n hsn maio fn
  unfolding mai_of
  mai_cyclic e = sym (ap (λ (t : Bool). cond t ((fn + maio) % n) ((S n hsn (parts_of fn) + maio) % n)) (eq-eqb _ _ e))

  pub mai_random : (hsn ≡ 0 → ⊥) → (S n hsn (parts_of fn) + maio) % n ≡ mai_of n hsn maio fn
  unfolding mai_of
  mai_random e = sym (ap (λ (t : Bool). cond t ((fn + maio) % n) ((S n hsn (parts_of fn) + maio) % n)) (ne_eqb _ _ e))

  -- MAI is below N
  pub mai_lt : 0 < n → mai_of n hsn maio fn < n
  unfolding mai_of
  mai_lt h = go (eqb hsn 0)
    where
      go : (t : Bool) → cond t ((fn + maio) % n) ((S n hsn (parts_of fn) + maio) % n) < n
      go true = mod-lt (fn + maio) h
      go false = mod-lt (S n hsn (parts_of fn) + maio) h
