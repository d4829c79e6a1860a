-- specs/Sums.antt: T2 is at most 25, an entry of RNTABLE at most 127, T3 at most 50, and NBIN bits are at most 7, fewer below N = 64. Assumes nothing.
use Prim.Native.Nat.{ℕ, ◌+◌, ◌/◌, ◌%◌, ◌^◌, ◌≤◌, ◌<◌}
use mathlib.Core.Path.{◌≡◌, refl}
use native.Mathlib.Nat.{lt_trans, mod-lt, mod-le, le_antisymm}
use native.Mathlib.Omega.{arith}
use lib.Bits.{bit_xor}
use lib.Dec.{ltb, lit<, lit≤}
use lib.ListN.{length, get_or}
use lib.Pow.{pow_pos}
use borrow.Author.Tests.{ltb-true, ltb-false}
use Rattle.answers.specs.Claims.{NoCause}
use Rattle.answers.specs.Outcome.{any_of, decide}
use Rattle.answers.specs.Search.{all_below, any_below, least}
use Rattle.answers.proofs.Decide.{accepted_has_none}
use Rattle.answers.proofs.Tests.{refute}
use Rattle.clock.specs.Clock.{parts_of}
use Rattle.hops.specs.Masks.{ones_below, position_at, one_at_or_above}
use Rattle.hops.specs.Allocation.{is_allocation}
use Rattle.hops.specs.Hopping.{rntable, nbin, S, mai_of, line_tuning, hop_causes, hop_of}
use Rattle.hops.specs.Borders.{arfcns, all_ones}
use Rattle.hops.specs.Sums.{RandomHop, numbers_of, Sums}
use Rattle.hops.proofs.Bits.{ones_at_most}
use Rattle.hops.proofs.Claims.{maio_below}
use Rattle.hops.proofs.Mai.{rn_le, nbin_at_most, s_lt}

-- 2 to the power of NBIN, for N up to 64 and for N below 64
room_64 : (n : ℕ) → n ≤ 64 → 2 ^ nbin n ≤ 128
room_64 n h = nbin_at_most n (lt_trans (let q : n < 65 = omega arith in q) (lit< tt)) 7 (omega arith)

room_below_64 : (n : ℕ) → n < 64 → 2 ^ nbin n ≤ 64
room_below_64 n h = nbin_at_most n (lt_trans h (lit< tt)) 6 h

-- of every such hop
module _ (h : RandomHop) where
  n_at_most : (numbers_of h).n ≤ 64
  n_at_most = ones_at_most h.mask 64

  entry_at_most : get_or rntable (bit_xor h.hsn (h.fn / 1326 % 64) + h.fn % 51) 0 ≤ 127
  entry_at_most = rn_le (bit_xor h.hsn (h.fn / 1326 % 64) + h.fn % 51)

  -- M' is below 2 to the power of NBIN, T' at most T3
  m'_below : (numbers_of h).m' < 2 ^ nbin (numbers_of h).n
  m'_below = mod-lt (numbers_of h).m (pow_pos (nbin (numbers_of h).n))

  t'_at_most : (numbers_of h).t' ≤ 50
  t'_at_most = let l = mod-le (h.fn % 51) (2 ^ nbin (numbers_of h).n) in omega arith

  n_at_least : (numbers_of h).sum ≡ 177 → 64 ≤ (numbers_of h).n
  n_at_least e = ltb-false _ _ (refute (ltb (numbers_of h).n 64) (λ t.
      let r = room_below_64 (numbers_of h).n (ltb-true _ _ t) in
      let m = m'_below in
      let q = t'_at_most in
      omega arith))

  free : NoCause (hop_causes h.ca h.mask h.hsn h.maio h.fn)
  unfolding hop_of
  free = (accepted_has_none (line_tuning h.ca h.mask h.hsn h.maio h.fn) (hop_causes h.ca h.mask h.hsn h.maio h.fn) h.tuning h.answer).1

  s_below : (numbers_of h).s < (numbers_of h).n
  s_below = let l = maio_below (length h.ca) h.mask h.hsn h.maio h.fn free.1 in s_lt (numbers_of h).n h.hsn (parts_of h.fn) (omega arith)

-- FN 25 is (0, 25, 25), and HSN 7 reads entry 32 of RNTABLE, which is 127
m_witness : RandomHop
unfolding decide any_of all_below any_below least ones_below position_at one_at_or_above is_allocation rntable nbin S mai_of hop_of
m_witness =
    record { ca = arfcns 64; mask = all_ones; hsn = 7; maio = 0; fn = 25; tuning = record { arfcn = 25; mai = 24; position = 24 }; answer = refl; random = lit< tt }

-- FN 152 is (0, 22, 50), and HSN 57 reads entry 107, which is 105: M' is 127 with N = 64
sum_witness : RandomHop
unfolding decide any_of all_below any_below least ones_below position_at one_at_or_above is_allocation rntable nbin S mai_of hop_of
sum_witness =
    record { ca = arfcns 64; mask = all_ones; hsn = 57; maio = 0; fn = 152; tuning = record { arfcn = 50; mai = 49; position = 49 }; answer = refl; random = lit< tt }

pub sums : Sums
unfolding m_witness sum_witness decide any_of all_below any_below least ones_below position_at one_at_or_above is_allocation rntable nbin S mai_of hop_of
sums =
    record {
      m_at_most = λ h. let e = entry_at_most h in omega arith;
      sum_at_most = λ h. let m = m'_below h in let r = room_64 (numbers_of h).n (n_at_most h) in let t = t'_at_most h in omega arith;
      m_reached = (m_witness, refl);
      sum_reached = (sum_witness, lit≤ {m = 64} {n = 127} tt, refl);
      sum_of_64 = λ h e. le_antisymm (n_at_most h) (n_at_least h e);
      bytes = λ h.
          let e = entry_at_most h in
          let m = m'_below h in
          let r = room_64 (numbers_of h).n (n_at_most h) in
          let t = t'_at_most h in
          let s = s_below h in
          let n = n_at_most h in
          (omega arith, omega arith, omega arith, omega arith, omega arith);
      in_numbers = refl;
      answered = refl;
    }
