-- What the answers of the bursts' calls have in plain numbers, and what the lent bytes are after them. Assumes nothing.
use Rattle.std.specs.Prelude.{ℕ, ◌≡◌, List}
use Rattle.layouts.specs.Bursts.{Written}
use Rattle.c_answers.specs.declared.TdmaAnswer.{TdmaAnswer}
use Rattle.c_answers.specs.Numbers.{answer_numbers}

-- the answer and the lent bytes after a call are the definition's
abbrev pub Wrote : TdmaAnswer → List ℕ → Written → Type 0
Wrote r bytes w = (r ≡ answer_numbers w.refusal) × (bytes ≡ w.bytes)
