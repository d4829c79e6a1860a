-- What the code of a call that changes the cell promises: of its answer, of the cell in the words after it, and of the words. Assumes nothing.
use Rattle.std.specs.Prelude.{ℕ, ◌≡◌, List, Result}
use Rattle.std.proofs.Math.Option.{Option, none, some}
use Rattle.answers.specs.Outcome.{Refused}
use Rattle.answers.specs.Refusals.{refusal_in}
use Rattle.answers.specs.declared.Refusal.{Refusal}
use Rattle.storage.specs.Words.{cell_of}
use Rattle.rules.specs.Calls.{Step, changed}

-- "a refused call hands back the cell exactly as it came" (the mission): no word has changed
abbrev pub Untouched : Option Refused → List ℕ → List ℕ → Type 0
Untouched none before after = Unit
Untouched (some r) before after = after ≡ before

-- the answer and the cell in the words after the call are the definition's; and where it is refused, no word has changed
abbrev pub Leaves : Result Unit Refusal → List ℕ → List ℕ → Step → Type 0
Leaves r before after s = (changed r (cell_of after) ≡ s) × Untouched (refusal_in r) before after
