-- What is claimed of the clock beside the promises of its calls. Assumes nothing.
use Rattle.std.specs.Prelude.{ℕ, ◌≡◌, ◌<◌, ◌≤◌}
use Rattle.answers.specs.Outcome.{accepted}
use Rattle.answers.specs.Claims.{FairAnswer}
use Rattle.answers.specs.Ranges.{hyperframe}
use Rattle.clock.specs.declared.Frame.{Frame}
use Rattle.clock.specs.Clock.{parts_of, number_of, split_causes, split_of, join_causes, join_of}

-- what a frame's number splits into: counters in range, which join to that number
pub record ThereAndBack (fn : ℕ) : Type 0 where
  pub frame : Frame
  pub split : split_of fn ≡ accepted frame
  pub in_range : (frame.t1 ≤ 2047) × (frame.t2 ≤ 25) × (frame.t3 ≤ 50)
  pub back : join_of frame.t1 frame.t2 frame.t3 ≡ accepted fn

-- what a frame's counters join to: a number in range, which splits into these counters
pub record BackAndThere (frame : Frame) : Type 0 where
  pub number : ℕ
  pub joined : join_of frame.t1 frame.t2 frame.t3 ≡ accepted number
  pub in_range : number < hyperframe
  pub there : split_of number ≡ accepted frame

-- "FN is 0 to 2,715,647 and returns to 0. T1 = FN div 1326, T2 = FN mod 26, T3 = FN mod 51. .. Back: FN = 1326 × T1 + 51 × ((T3 − T2) mod 26) + T3":
-- split and join undo each other, for every frame
pub record RoundTrip : Type 0 where
  pub join_undoes_split : (fn : ℕ) → fn < hyperframe → ThereAndBack fn
  pub split_undoes_join : (frame : Frame) → frame.t1 ≤ 2047 → frame.t2 ≤ 25 → frame.t3 ≤ 50 → BackAndThere frame

-- "The lowest number that applies is given, and only if its condition holds."
pub record FairCalls : Type 0 where
  pub split : (fn : ℕ) → FairAnswer (parts_of fn) (split_causes fn) (split_of fn)
  pub join : (t1 t2 t3 : ℕ) → FairAnswer (number_of t1 t2 t3) (join_causes t1 t2 t3) (join_of t1 t2 t3)
