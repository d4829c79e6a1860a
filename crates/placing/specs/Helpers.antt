-- What the helpers of the code compute. No part of what is promised to a caller. Assumes nothing.
use Rattle.std.specs.Prelude.{ℕ, ◌<◌, ◌≡◌, Bool, true, false}
use Rattle.answers.specs.Ranges.{line_count}
use Rattle.rules.specs.State.{Cell, line_at, values_of}
use Rattle.rules.specs.declared.Values.{Values}

-- found tells whether some line passes a test, of which it is known what it answers
pub record Finds (c : Cell) (Answers : Values → Bool → Type 0) (found : Bool) : Type 0 where
  pub some_line : found ≡ true → (n : ℕ) × (n < line_count) × Answers (values_of (line_at c n)) true
  pub no_line : found ≡ false → (n : ℕ) → n < line_count → Answers (values_of (line_at c n)) false
