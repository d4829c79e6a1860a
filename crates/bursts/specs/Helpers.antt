-- What the helpers of the code compute. No part of what is promised to a caller. Assumes nothing.
use Rattle.std.specs.Prelude.{ℕ, ◌≡◌, ◌<◌, true, false, List, [], ◌∷◌, ◌++◌, map, length, replicate, Option, Some, None}
use Rattle.std.proofs.Math.Option.{some, none}
use Rattle.bursts.specs.declared.field.Field.{Field}
use Rattle.layouts.specs.Layouts.{bits}
use Rattle.layouts.specs.Rows.{Row, differs}

-- the code's fields: a word in so many bits, first bit highest, or room for as many payload bits
abbrev pub width : Field → ℕ
width (Field.Fixed n word) = n
width (Field.Room n) = n

abbrev pub payload_of : Field → ℕ
payload_of (Field.Fixed n word) = 0
payload_of (Field.Room n) = n

unfoldable pub field_row : Field → Row
field_row (Field.Fixed n word) = map some (bits n word)
field_row (Field.Room n) = replicate n none

unfoldable pub fields_row : List Field → Row
fields_row [] = []
fields_row (f ∷ fs) = field_row f ++ fields_row fs

-- no fixed bit below bit number n differs
abbrev pub NoneWrong : Row → List ℕ → ℕ → Type 0
NoneWrong row burst n = (k : ℕ) → k < n → differs row burst k ≡ false

-- the first bit number where a fixed bit differs, if there is one
abbrev pub FirstWrong : Row → List ℕ → Option ℕ → Type 0
FirstWrong row burst (Some n) = (n < length row) × (differs row burst n ≡ true) × NoneWrong row burst n
FirstWrong row burst None = NoneWrong row burst (length row)
