use Rattle.std.proofs.Common.{◌≡◌, ℕ, ◌+◌, length}
use Rattle.layouts.specs.Rows.{differs}
use Rattle.bursts.specs.Helpers.{fields_row, NoneWrong}
use Rattle.bursts.proofs.Turns.{row_from}
use Rattle.bursts.proofs.fields.first_wrong.Given as goal

abbrev pub invariant-loop-field : goal.invariant-loop-field
invariant-loop-field l =
    (length l.left ≡ length (row_from l.field-index l.fields)) × (l.at + length l.left ≡ length l.burst) × NoneWrong (fields_row l.fields) l.burst l.at
    × ((k : ℕ) → differs (fields_row l.fields) l.burst (l.at + k) ≡ differs (row_from l.field-index l.fields) l.left k)
