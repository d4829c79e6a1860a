-- The third demand, and what is reached, of the cell as a value: of whatever `Cell::start` and the methods hand back. proofs/OfCell.antt.
-- Assumes nothing.
use Rattle.std.specs.Prelude.{ℕ, ◌≡◌, List, [], ◌∷◌}
use Rattle.storage.specs.Words.{cell_of}
use Rattle.rules.specs.Calls.{start_of, changed}
use Rattle.rules.specs.CollisionFree.{calling}
use Rattle.rules.specs.History.{Call}
use Rattle.rules.specs.Reached.{Reached}
use Rattle.cell.specs.Leaves.{Leaves}
use Rattle.cell.specs.OfCode.{Answered, Delivered, handed}
use Rattle.cell.specs.declared.value.Cell.{Cell}
use Rattle.cell.specs.declared.value.Changed.{Changed}
use Rattle.cell.specs.Value.{kept}

-- a call of a method, and the answer and the cell that it handed back
pub record Handed : Type 0 where
  pub call : Call
  pub back : Changed

-- each method was called on the cell that the one before it handed back, and kept its promise
unfoldable pub Promised : Cell → List Handed → Type 0
Promised cell [] = Unit
Promised cell (h ∷ more) = Leaves h.back.answer (kept cell) (kept h.back.cell) (calling (cell_of (kept cell)) h.call) × Promised h.back.cell more

-- the same as calls on words
unfoldable pub on_words : List Handed → List Answered
on_words [] = []
on_words (h ∷ more) = record { call = h.call; answer = h.back.answer; words = kept h.back.cell } ∷ on_words more

-- the third demand, of whatever Cell::start and the methods open, close, seize, release and line hand back
unfoldable pub ThirdDemandOfCell : Type 0
ThirdDemandOfCell =
    (ca : List ℕ) (c0 bcc ag p : ℕ) (begun : Changed) → changed begun.answer (cell_of (kept begun.cell)) ≡ start_of ca c0 bcc ag p
    → (calls : List Handed) → Promised begun.cell calls → Delivered (cell_of (kept begun.cell)) (handed (kept begun.cell) [] (on_words calls))

-- and so is every cell that the methods hand back, if they keep their promises
unfoldable pub ReachedByCell : Type 0
ReachedByCell =
    (ca : List ℕ) (c0 bcc ag p : ℕ) (begun : Changed) → changed begun.answer (cell_of (kept begun.cell)) ≡ start_of ca c0 bcc ag p
    → (calls : List Handed) → Promised begun.cell calls → Reached (handed (kept begun.cell) [] (on_words calls)).cell
