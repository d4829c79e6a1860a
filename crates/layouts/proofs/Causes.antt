-- The causes of each call stand in the order of their numbers: a refused call had its cause and no lower number applied, and an accepted one
-- had no cause. Assumes nothing.
use Prim.Native.Nat.{ℕ}
use mathlib.Core.Path.{refl}
use mathlib.Core.List.{List, ◌∷◌}
use Rattle.answers.specs.Outcome.{Cause, ascending_from, decide}
use Rattle.answers.specs.Claims.{FairAnswer}
use Rattle.answers.proofs.Decide.{fair_answer}
use Rattle.layouts.specs.Layouts.{normal}
use Rattle.layouts.specs.Rows.{Row, row_of, built, taken}
use Rattle.layouts.specs.Bursts.{no_code, build_causes, take_causes}

-- FairAnswer of what the causes decide
abbrev pub Fair : List Cause → List ℕ → Type 0
Fair causes answer = FairAnswer answer causes (decide causes answer)

pub build_fair : (row : Row) (payload burst : List ℕ) → Fair (build_causes row payload burst) (built row payload)
unfolding ascending_from
build_fair row payload burst = fair_answer _ (build_causes row payload burst) refl

pub take_fair : (row : Row) (burst payload : List ℕ) → Fair (take_causes row burst payload) (taken row burst)
unfolding ascending_from
take_fair row burst payload = fair_answer _ (take_causes row burst payload) refl

pub build_normal_fair : (tsc : ℕ) (payload burst : List ℕ) → Fair (no_code tsc ∷ build_causes (row_of (normal tsc)) payload burst) (built (row_of (normal tsc)) payload)
unfolding ascending_from
build_normal_fair tsc payload burst = fair_answer _ (no_code tsc ∷ build_causes (row_of (normal tsc)) payload burst) refl

pub take_normal_fair : (tsc : ℕ) (burst payload : List ℕ) → Fair (no_code tsc ∷ take_causes (row_of (normal tsc)) burst payload) (taken (row_of (normal tsc)) burst)
unfolding ascending_from
take_normal_fair tsc burst payload = fair_answer _ (no_code tsc ∷ take_causes (row_of (normal tsc)) burst payload) refl
