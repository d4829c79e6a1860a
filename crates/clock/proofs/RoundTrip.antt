-- FN to T1, T2, T3 and back: each undoes the other, for every FN and every T1, T2, T3 in range; and the laws of the causes. Assumes nothing.
use Prim.Native.Nat.{ℕ, ◌≤◌, ◌<◌}
use mathlib.Core.Path.{◌≡◌, refl, ap, ◌∙◌}
use mathlib.Core.Bool.{true}
use native.Mathlib.Omega.{arith}
use native.Mathlib.Decide.{dec_lt}
use borrow.Author.Tests.{le-ltb, le-leb, lt-leb}
use Rattle.answers.specs.Outcome.{Refused, refused, accepted, alone, ascending, ascending_from}
use Rattle.answers.specs.Ranges.{hyperframe}
use Rattle.answers.proofs.Decide.{stops, passes, accepts}
use Rattle.clock.specs.declared.Frame.{Frame}
use Rattle.clock.specs.Clock.{T1, T2, T3, parts_of, number_of, split_causes, split_of, join_causes, join_of}

-- ---- on the numbers

pub counters_range : (fn : ℕ) → fn < hyperframe → (T1 fn ≤ 2047) × (T2 fn ≤ 25) × (T3 fn ≤ 50)
counters_range fn h = (omega arith, omega arith, omega arith)

pub number_of_counters : (fn : ℕ) → number_of (T1 fn) (T2 fn) (T3 fn) ≡ fn
number_of_counters fn = omega arith

module _ (t1 t2 t3 : ℕ) (h1 : t1 ≤ 2047) (h2 : t2 ≤ 25) (h3 : t3 ≤ 50) where
  pub number_range : number_of t1 t2 t3 < hyperframe
  number_range = omega arith

  pub counter_1 : T1 (number_of t1 t2 t3) ≡ t1
  counter_1 = omega arith

  pub counter_2 : T2 (number_of t1 t2 t3) ≡ t2
  counter_2 = omega arith

  pub counter_3 : T3 (number_of t1 t2 t3) ≡ t3
  counter_3 = omega arith

-- ---- on the calls

pub split_accepts : (fn : ℕ) → fn < hyperframe → split_of fn ≡ accepted (parts_of fn)
split_accepts fn h = passes _ _ _ (lt-leb hyperframe fn h, tt) ∙ accepts _

pub join_accepts : (t1 t2 t3 : ℕ) → t1 ≤ 2047 → t2 ≤ 25 → t3 ≤ 50 → join_of t1 t2 t3 ≡ accepted (number_of t1 t2 t3)
join_accepts t1 t2 t3 h1 h2 h3 = passes _ _ _ (le-ltb _ _ h1, (le-ltb _ _ h2, (le-ltb _ _ h3, tt))) ∙ accepts _

-- what a number splits into joins to the number
pub join_undoes_split : (fn : ℕ) → fn < hyperframe → join_of (parts_of fn).t1 (parts_of fn).t2 (parts_of fn).t3 ≡ accepted fn
join_undoes_split fn h =
    let w = counters_range fn h in
    join_accepts (T1 fn) (T2 fn) (T3 fn) w.0 w.1 w.2 ∙ ap accepted (number_of_counters fn)

-- what counters join to splits into them
pub split_undoes_join : (t1 t2 t3 : ℕ) → t1 ≤ 2047 → t2 ≤ 25 → t3 ≤ 50
    → split_of (number_of t1 t2 t3) ≡ accepted (record { t1 = t1; t2 = t2; t3 = t3 })
split_undoes_join t1 t2 t3 h1 h2 h3 =
    split_accepts _ (number_range t1 t2 t3 h1 h2 h3)
    ∙ ap accepted (cc (counter_1 t1 t2 t3 h1 h2 h3, counter_2 t1 t2 t3 h1 h2 h3, counter_3 t1 t2 t3 h1 h2 h3))

-- ---- what an answer shows

pub split_refuses : (fn : ℕ) → hyperframe ≤ fn → split_of fn ≡ refused (alone 3)
split_refuses fn h = stops _ _ _ 0 (le-leb hyperframe fn h)

pub split_parts : (fn : ℕ) (f : Frame) → accepted f ≡ split_of fn → (fn < hyperframe) × (f ≡ parts_of fn)
split_parts fn f e = go (dec_lt fn hyperframe)
  where
    go : Dec (fn < hyperframe) → (fn < hyperframe) × (f ≡ parts_of fn)
    go (yes h) = (h, cc (split_accepts fn h))
    go (no h) = absurd (let z : ◌≡◌ {A = ℕ} 0 1 = cc (split_refuses fn (omega arith)) in omega arith)

pub split_none : (fn : ℕ) (r : Refused) → refused r ≡ split_of fn → hyperframe ≤ fn
split_none fn r e = go (dec_lt fn hyperframe)
  where
    go : Dec (fn < hyperframe) → hyperframe ≤ fn
    go (yes h) = absurd (let z : ◌≡◌ {A = ℕ} 0 1 = cc (split_accepts fn h) in omega arith)
    go (no h) = omega arith

-- ---- the causes stand in the order of their numbers

pub split_ascends : (fn : ℕ) → ascending (split_causes fn) ≡ true
unfolding ascending_from
split_ascends fn = refl

pub join_ascends : (t1 t2 t3 : ℕ) → ascending (join_causes t1 t2 t3) ≡ true
unfolding ascending_from
join_ascends t1 t2 t3 = refl
