use Rattle.std.proofs.Common.{◌≡◌, ◌+◌, ◌++◌, length, take}
use Rattle.layouts.specs.Rows.{room, taken}
use Rattle.bursts.specs.Helpers.{fields_row}
use Rattle.bursts.proofs.Turns.{row_from}
use Rattle.bursts.proofs.fields.gather.Given as goal

abbrev pub invariant-loop-field : goal.invariant-loop-field
invariant-loop-field l =
    (l.at + room (row_from l.field-index l.fields) ≡ length l.payload) × (length (row_from l.field-index l.fields) ≡ length l.left)
    × (taken (fields_row l.fields) l.burst ≡ take l.at l.payload ++ taken (row_from l.field-index l.fields) l.left)
