-- What the answers of the cell's calls have in plain numbers, and what cell the lent words hold after them. Assumes nothing.
use Rattle.std.specs.Prelude.{ℕ, ◌≡◌, List}
use Rattle.std.proofs.Math.Option.{Option, none, some}
use Rattle.answers.specs.Outcome.{Outcome, refused, accepted}
use Rattle.hops.specs.Hopping.{no_tuning}
use Rattle.maps.specs.Numbers.{no_numbers, standing_numbers}
use Rattle.storage.specs.Words.{cell_of}
use Rattle.cell.specs.Leaves.{Untouched}
use Rattle.rules.specs.Calls.{Step}
use Rattle.rules.specs.OnAir.{Slot}
use Rattle.rules.specs.Who.{Match}
use Rattle.c_answers.specs.declared.TdmaAnswer.{TdmaAnswer}
use Rattle.c_answers.specs.declared.TdmaLine.{TdmaLine}
use Rattle.c_answers.specs.declared.TdmaWho.{TdmaWho}
use Rattle.c_answers.specs.Numbers.{answer_numbers}
pub use Rattle.c_answers.specs.Numbers.{line_fields, nobody, page_numbers}

-- the answer, and the cell that the words hold after a call, are the definition's
abbrev pub Left : TdmaAnswer → List ℕ → Step → Type 0
Left r words s = (r ≡ answer_numbers s.refusal) × (cell_of words ≡ s.cell)

-- and where the call is refused, no word has changed
abbrev pub Done : TdmaAnswer → List ℕ → List ℕ → Step → Type 0
Done r before after s = Left r after s × Untouched s.refusal before after

-- refused, every number but the refusal is 0
abbrev pub line_numbers : Outcome Slot → TdmaLine
line_numbers (refused r) = line_fields no_tuning 0 (no_numbers r.number)
line_numbers (accepted s) = line_fields s.tuning s.owner (standing_numbers s.standing)

-- the line, and its answer as `tdma_line` has it
abbrev pub match_numbers : Match → TdmaWho
match_numbers f = record { refusal = 0; found = 1; line = f.line; answer = line_numbers (accepted f.slot) }

abbrev pub who_numbers : Outcome (Option Match) → TdmaWho
who_numbers (refused r) = nobody r.number
who_numbers (accepted none) = nobody 0
who_numbers (accepted (some f)) = match_numbers f
