-- `common::any_line` meets its contract: the chain asks the test of each line. Assumes nothing.
use Prim.Native.Nat.{ℕ, ◌<◌}
use mathlib.Core.Path.{refl}
use mathlib.Core.Bool.{Bool, true, false}
use borrow.Author.Rules.{rules}
use Rattle.std.specs.Bool.{MatchBool}
use Rattle.rules.specs.State.{Cell, line_at, values_of}
use Rattle.rules.specs.declared.Values.{Values}
use Rattle.answers.proofs.Ranges.{found_in_range}
use Rattle.placing.specs.Helpers.{Finds}
use Rattle.placing.proofs.common.any_line.Goals as goal

finds : {c : Cell} {Answers : Values → Bool → Type 0} (found : Bool) → MatchBool found ((n : ℕ) × (n < 64) × Answers (values_of (line_at c n)) true) ((n : ℕ) → n < 64 → Answers (values_of (line_at c n)) false) → Finds c Answers found
finds {c} {Answers} true m = record { some_line = λ e. m; no_line = λ e. absurd cc }
finds {c} {Answers} false m = record { some_line = λ e. absurd cc; no_line = λ e. m }

pub returns : goal.returns
returns g c = finds _ (found_in_range 64 refl _ _ _ _ c.any.ensures.ran (λ x q k. search rules) (λ x q k. search rules))
