use Rattle.std.proofs.Common.{◌≡◌, ◌+◌, ◌++◌, length, take}
use Rattle.layouts.specs.Rows.{room, built}
use Rattle.bursts.specs.Helpers.{fields_row}
use Rattle.bursts.proofs.Turns.{row_from}
use Rattle.bursts.proofs.fields.filled.Given as goal

abbrev pub invariant-loop-field : goal.invariant-loop-field
invariant-loop-field l =
    (length l.burst ≡ 148) × (l.at + length (row_from l.field-index l.fields) ≡ length (fields_row l.fields)) × (room (row_from l.field-index l.fields) ≡ length l.left)
    × (built (fields_row l.fields) l.payload ≡ take l.at l.burst ++ built (row_from l.field-index l.fields) l.left)
