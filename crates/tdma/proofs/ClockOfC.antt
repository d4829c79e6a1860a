-- tdma_split and tdma_join undo each other, from their promises alone. Assumes nothing.
use Prim.Native.Nat.{ℕ, ◌<◌, ◌≤◌}
use native.Mathlib.Decide.{dec_lt, dec_le}
use native.Mathlib.Omega.{arith}
use mathlib.Core.Path.{◌≡◌, refl, ap, ◌∙◌}
use mathlib.Core.Option.{Option, none, some}
use borrow.Author.Tests.{lt-ltb}
use Rattle.answers.specs.Outcome.{refused, accepted, alone}
use Rattle.answers.specs.Ranges.{hyperframe}
use Rattle.answers.proofs.Decide.{stops}
use Rattle.clock.specs.declared.Frame.{Frame}
use Rattle.clock.specs.Clock.{parts_of, prime_of, number_of, split_of, join_of}
use Rattle.clock.proofs.RoundTrip.{split_accepts, split_refuses, join_accepts, join_undoes_split, split_undoes_join}
use Rattle.c_answers.specs.declared.TdmaSplit.{TdmaSplit}
use Rattle.c_answers.specs.declared.TdmaJoin.{TdmaJoin}
use Rattle.c_answers.specs.Numbers.{with_prime, split_numbers, join_numbers}
use Rattle.tdma.specs.OfC.{ClockOfC}

-- the numbers of a frame that was split
record Counters (f : Frame) (s : TdmaSplit) : Type 0 where
  pub accepted_is : s.refusal ≡ 0
  pub t1_is : s.t1 ≡ f.t1
  pub t2_is : s.t2 ≡ f.t2
  pub t3_is : s.t3 ≡ f.t3

counters : (f : Frame) (o : Option ℕ) → Counters f (with_prime f o)
counters f none = record { accepted_is = refl; t1_is = refl; t2_is = refl; t3_is = refl }
counters f (some k) = record { accepted_is = refl; t1_is = refl; t2_is = refl; t3_is = refl }

split_counters : (fn : ℕ) (f : Frame) (s : TdmaSplit) → split_of fn ≡ accepted f → s ≡ split_numbers (split_of fn) → Counters f s
split_counters fn f s e q =
    let w = counters f (prime_of f.t3) in
    let z = q ∙ ap split_numbers e in
    record { accepted_is = ap (λ (x : TdmaSplit). x.refusal) z ∙ w.accepted_is; t1_is = ap (λ (x : TdmaSplit). x.t1) z ∙ w.t1_is; t2_is = ap (λ (x : TdmaSplit). x.t2) z ∙ w.t2_is; t3_is = ap (λ (x : TdmaSplit). x.t3) z ∙ w.t3_is }

join_split : (fn : ℕ) (s : TdmaSplit) (j : TdmaJoin) → s ≡ split_numbers (split_of fn) → j ≡ join_numbers (join_of s.t1 s.t2 s.t3) → s.refusal ≡ 0
    → (j.refusal ≡ 0) × (j.frame ≡ fn)
join_split fn s j e q h = go (dec_lt fn hyperframe)
  where
    go : Dec (fn < hyperframe) → (j.refusal ≡ 0) × (j.frame ≡ fn)
    go (yes l) =
        let w = split_counters fn (parts_of fn) s (split_accepts fn l) e in
        let same : join_of s.t1 s.t2 s.t3 ≡ accepted fn = cc (w.t1_is, w.t2_is, w.t3_is, join_undoes_split fn l) in
        let z = q ∙ ap join_numbers same in
        (ap (λ (x : TdmaJoin). x.refusal) z, ap (λ (x : TdmaJoin). x.frame) z)
    go (no l) =
        let three : s.refusal ≡ 3 = ap (λ (x : TdmaSplit). x.refusal) (e ∙ ap split_numbers (split_refuses fn (omega arith))) in
        absurd (omega arith)

-- the causes of a join, one by one
join_14 : (t1 t2 t3 : ℕ) (j : TdmaJoin) → j ≡ join_numbers (join_of t1 t2 t3) → j.refusal ≡ 0 → (join_of t1 t2 t3 ≡ refused (alone 14)) → ⊥
join_14 t1 t2 t3 j e h q =
    let z : j.refusal ≡ 14 = ap (λ (x : TdmaJoin). x.refusal) (e ∙ ap join_numbers q) in
    omega arith

split_join : (t1 t2 t3 : ℕ) (j : TdmaJoin) (s : TdmaSplit) → j ≡ join_numbers (join_of t1 t2 t3) → s ≡ split_numbers (split_of j.frame) → j.refusal ≡ 0
    → (s.refusal ≡ 0) × (s.t1 ≡ t1) × (s.t2 ≡ t2) × (s.t3 ≡ t3)
split_join t1 t2 t3 j s e q h = go (dec_le t1 2047) (dec_le t2 25) (dec_le t3 50)
  where
    go : Dec (t1 ≤ 2047) → Dec (t2 ≤ 25) → Dec (t3 ≤ 50) → (s.refusal ≡ 0) × (s.t1 ≡ t1) × (s.t2 ≡ t2) × (s.t3 ≡ t3)
    go (no a) b c = absurd (join_14 t1 t2 t3 j e h (stops _ _ _ 0 (lt-ltb _ _ (omega arith))))
    go (yes a) (no b) c = absurd (join_14 t1 t2 t3 j e h (stops _ _ _ 1 (lt-ltb _ _ (omega arith))))
    go (yes a) (yes b) (no c) = absurd (join_14 t1 t2 t3 j e h (stops _ _ _ 2 (lt-ltb _ _ (omega arith))))
    go (yes a) (yes b) (yes c) =
        let frame : j.frame ≡ number_of t1 t2 t3 = ap (λ (x : TdmaJoin). x.frame) (e ∙ ap join_numbers (join_accepts t1 t2 t3 a b c)) in
        let there = ap split_of frame ∙ split_undoes_join t1 t2 t3 a b c in
        let w = split_counters j.frame (record { t1 = t1; t2 = t2; t3 = t3 }) s there q in
        (w.accepted_is, w.t1_is, w.t2_is, w.t3_is)

pub clock_of_c : ClockOfC
clock_of_c = record { join_undoes_split = join_split; split_undoes_join = split_join }
