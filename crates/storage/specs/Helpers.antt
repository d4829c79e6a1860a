-- What the helpers of the code compute. No part of what is promised to a caller of the cell. Assumes nothing.
use Rattle.std.specs.Prelude.{ℕ, cond, List, ltb, length}
use Rattle.rules.specs.declared.Parameters.{Parameters}
use Rattle.rules.specs.State.{Cell, empty}

-- the cell that is put in place of another: none where the list is too long to be stored
abbrev pub started_from : Cell → List ℕ → Parameters → Cell
started_from before ca p = cond (ltb 64 (length ca)) before (empty ca p.c0 p.bcc p.ag p.p)
