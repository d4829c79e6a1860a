-- The cell as a value. Assumes nothing.
use Rattle.std.specs.Prelude.{ℕ, List}
use Rattle.cell.specs.declared.value.Cell.{Cell}

-- the words that it keeps, which nobody but the methods can reach
abbrev pub kept : Cell → List ℕ
kept c = c.words
