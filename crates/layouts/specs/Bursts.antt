-- What building a burst and taking it apart come to: document 01, "Bursts (5.2)" and refusals 3, 14 and 15. Assumes nothing.
use Rattle.std.specs.Prelude.{ℕ, Bool, not, List, [], ◌∷◌, Result, ltb, eqb, length, get_or}
use Rattle.std.proofs.Math.Option.{Option, none, some}
use Rattle.answers.specs.declared.Refusal.{Refusal}
use Rattle.answers.specs.Outcome.{Refused, Outcome, refused, accepted, Cause, cause, decide}
use Rattle.answers.specs.Ranges.{no_tsc}
use Rattle.answers.specs.Refusals.{refusal_in}
use Rattle.answers.specs.Search.{any_below, least}
use Rattle.layouts.specs.Layouts.{normal, frequency_correction, synchronization, dummy, access}
use Rattle.layouts.specs.Rows.{Row, row_of, room, built, taken, differs}

-- ---- what a call leaves

-- its refusal, if it is refused, and the lent bytes after it
pub record Written : Type 0 where
  pub refusal : Option Refused
  pub bytes : List ℕ

-- "a refused call .. writes no lent byte"; accepted, they are what it writes
abbrev pub written : List ℕ → Outcome (List ℕ) → Written
written before (refused r) = record { refusal = some r; bytes = before }
written before (accepted after) = record { refusal = none; bytes = after }

-- what the code's answer says, with the lent bytes
abbrev pub wrote : Result Unit Refusal → List ℕ → Written
wrote answer bytes = record { refusal = refusal_in answer; bytes = bytes }

-- ---- the causes

-- "a byte above 1"
unfoldable pub byte_above_one : List ℕ → Bool
byte_above_one bytes = any_below (λ k. ltb 1 (get_or bytes k 0)) (length bytes)

-- "14 .. a burst or payload, read or to be written, of wrong length, or one that is read with a byte above 1"
abbrev pub malformed : Row → List ℕ → List ℕ → List ℕ → Cause
malformed row burst payload read =
    cause 14 (not (eqb (length burst) (length row)) ∷ not (eqb (length payload) (room row)) ∷ byte_above_one read ∷ [])

-- "15 a fixed bit differs, with its lowest bit number."
abbrev pub fixed_bit : Row → List ℕ → Cause
fixed_bit row burst =
    record { refusal = record { number = 15; values = least (differs row burst) (length row) 0 ∷ [] }; conditions = any_below (differs row burst) (length row) ∷ [] }

-- "3 .. TSC .. out of range"
abbrev pub no_code : ℕ → Cause
no_code tsc = cause 3 (no_tsc tsc ∷ [])

-- the row of a normal burst, or the refusal of its TSC
abbrev pub normal_of : ℕ → Outcome Row
normal_of tsc = decide (no_code tsc ∷ []) (row_of (normal tsc))

abbrev pub build_causes : Row → List ℕ → List ℕ → List Cause
build_causes row payload burst = malformed row burst payload payload ∷ []

abbrev pub take_causes : Row → List ℕ → List ℕ → List Cause
take_causes row burst payload = malformed row burst payload burst ∷ fixed_bit row burst ∷ []

-- ---- build: a payload is read, a burst is written

unfoldable pub build_of : Row → List ℕ → List ℕ → Written
build_of row payload burst = written burst (decide (build_causes row payload burst) (built row payload))

unfoldable pub build_normal_of : ℕ → List ℕ → List ℕ → Written
build_normal_of tsc payload burst =
    written burst (decide (no_code tsc ∷ build_causes (row_of (normal tsc)) payload burst) (built (row_of (normal tsc)) payload))

abbrev pub build_synchronization_of : List ℕ → List ℕ → Written
build_synchronization_of payload burst = build_of (row_of synchronization) payload burst

abbrev pub build_access_of : List ℕ → List ℕ → Written
build_access_of payload burst = build_of (row_of access) payload burst

-- these two have no payload
abbrev pub build_frequency_correction_of : List ℕ → Written
build_frequency_correction_of burst = build_of (row_of frequency_correction) [] burst

abbrev pub build_dummy_of : List ℕ → Written
build_dummy_of burst = build_of (row_of dummy) [] burst

-- ---- take: a burst is read, its payload is written

unfoldable pub take_of : Row → List ℕ → List ℕ → Written
take_of row burst payload = written payload (decide (take_causes row burst payload) (taken row burst))

unfoldable pub take_normal_of : ℕ → List ℕ → List ℕ → Written
take_normal_of tsc burst payload =
    written payload (decide (no_code tsc ∷ take_causes (row_of (normal tsc)) burst payload) (taken (row_of (normal tsc)) burst))

abbrev pub take_synchronization_of : List ℕ → List ℕ → Written
take_synchronization_of burst payload = take_of (row_of synchronization) burst payload

abbrev pub take_access_of : List ℕ → List ℕ → Written
take_access_of burst payload = take_of (row_of access) burst payload
