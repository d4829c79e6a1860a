-- Document 01, "Frame clock (4.3.3, 3.3.2.2)". Assumes nothing.
use Rattle.std.specs.Prelude.{ℕ, ◌+◌, ◌*◌, ◌-◌, ◌/◌, ◌%◌, cond, List, [], ◌∷◌, ltb, eqb}
use Rattle.std.proofs.Math.Option.{Option, none, some}
use Rattle.answers.specs.Outcome.{Outcome, Cause, cause, any_of, decide}
use Rattle.answers.specs.Ranges.{no_fn}
use Rattle.clock.specs.declared.Frame.{Frame}

-- "T1 = FN div 1326, T2 = FN mod 26, T3 = FN mod 51"
abbrev pub T1 : ℕ → ℕ
T1 fn = fn / 1326

abbrev pub T2 : ℕ → ℕ
T2 fn = fn % 26

abbrev pub T3 : ℕ → ℕ
T3 fn = fn % 51

abbrev pub parts_of : ℕ → Frame
parts_of fn = record { t1 = T1 fn; t2 = T2 fn; t3 = T3 fn }

-- "T3' = (T3 − 1) div 10, given only where T3 is 1, 11, 21, 31 or 41"
unfoldable pub prime_of : ℕ → Option ℕ
prime_of t3 = cond (any_of (eqb t3 1 ∷ eqb t3 11 ∷ eqb t3 21 ∷ eqb t3 31 ∷ eqb t3 41 ∷ [])) (some ((t3 - 1) / 10)) none

-- "Back: FN = 1326 × T1 + 51 × ((T3 − T2) mod 26) + T3, the remainder never negative": 26 is added before T2 is taken off
abbrev pub number_of : ℕ → ℕ → ℕ → ℕ
number_of t1 t2 t3 = 1326 * t1 + 51 * ((t3 + 26 - t2) % 26) + t3

-- "3 .. FN .. out of range"
abbrev pub split_causes : ℕ → List Cause
split_causes fn = cause 3 (no_fn fn ∷ []) ∷ []

abbrev pub split_of : ℕ → Outcome Frame
split_of fn = decide (split_causes fn) (parts_of fn)

-- "14 T1 > 2047, T2 > 25 or T3 > 50"
abbrev pub join_causes : ℕ → ℕ → ℕ → List Cause
join_causes t1 t2 t3 = cause 14 (ltb 2047 t1 ∷ ltb 25 t2 ∷ ltb 50 t3 ∷ []) ∷ []

abbrev pub join_of : ℕ → ℕ → ℕ → Outcome ℕ
join_of t1 t2 t3 = decide (join_causes t1 t2 t3) (number_of t1 t2 t3)
