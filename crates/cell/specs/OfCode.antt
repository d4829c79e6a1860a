-- The third demand, and what is reached, of the code: all that is known of it is what its functions promise. proofs/OfCode.antt. Assumes nothing.
use Rattle.std.specs.Prelude.{ℕ, ◌<◌, ◌≡◌, List, [], ◌∷◌, Result}
use Rattle.std.proofs.Math.Option.{some}
use Rattle.answers.specs.Outcome.{accepted}
use Rattle.answers.specs.Ranges.{hyperframe}
use Rattle.answers.specs.Refusals.{outcome_by}
use Rattle.answers.specs.declared.Refusal.{Refusal}
use Rattle.slots.specs.declared.OnAir.{OnAir}
use Rattle.onair.specs.Told.{slot_in}
use Rattle.storage.specs.Words.{cell_of}
use Rattle.rules.specs.State.{Cell}
use Rattle.rules.specs.declared.Values.{Values}
use Rattle.rules.specs.Calls.{start_of, changed}
use Rattle.rules.specs.OnAir.{line_of}
use Rattle.rules.specs.History.{Call, Made, opened_with}
use Rattle.rules.specs.CollisionFree.{CollisionFree, Run, calling, made, slot_from}
use Rattle.rules.specs.Reached.{Reached}
use Rattle.cell.specs.Leaves.{Leaves}

-- a call, what the code answered, and the words that it left
pub record Answered : Type 0 where
  pub call : Call
  pub answer : Result Unit Refusal
  pub words : List ℕ

-- each call was made on the words that the one before it left, and its function kept its promise
unfoldable pub Promised : List ℕ → List Answered → Type 0
Promised words [] = Unit
Promised words (a ∷ more) = Leaves a.answer words a.words (calling (cell_of words) a.call) × Promised a.words more

-- less than that: the answer, and the cell in the words that the call left, are the definition's, whatever became of the words
unfoldable pub Followed : List ℕ → List Answered → Type 0
Followed words [] = Unit
Followed words (a ∷ more) = (changed a.answer (cell_of a.words) ≡ calling (cell_of words) a.call) × Followed a.words more

-- the last cell, and the history
unfoldable pub handed : List ℕ → List Made → List Answered → Run
handed words past [] = record { cell = cell_of words; past = past }
handed words past (a ∷ more) = handed a.words (made a.call (changed a.answer (cell_of a.words)) ∷ past) more

pub record Delivered (first : Cell) (end : Run) : Type 0 where
  pub collision_free : CollisionFree first end.past end.cell
  -- and `line`, asked of the last cell, shows that
  pub line : (n : ℕ) (v : Values) (fn direction : ℕ) → opened_with end.past n ≡ some v → fn < hyperframe → direction < 2
      → (answer : Result OnAir Refusal) → outcome_by slot_in answer ≡ line_of end.cell n fn direction → outcome_by slot_in answer ≡ accepted (slot_from first end.past n v fn direction)

-- the third demand, of whatever start, open, close, seize, release and line hand back
unfoldable pub ThirdDemandOfCode : Type 0
ThirdDemandOfCode =
    (ca : List ℕ) (c0 bcc ag p : ℕ) (answer : Result Unit Refusal) (words : List ℕ) → changed answer (cell_of words) ≡ start_of ca c0 bcc ag p
    → (calls : List Answered) → Promised words calls → Delivered (cell_of words) (handed words [] calls)

-- and so is every cell that the code hands back, if its functions keep their promises
unfoldable pub ReachedByCode : Type 0
ReachedByCode =
    (ca : List ℕ) (c0 bcc ag p : ℕ) (answer : Result Unit Refusal) (words : List ℕ) → changed answer (cell_of words) ≡ start_of ca c0 bcc ag p
    → (calls : List Answered) → Promised words calls → Reached (handed words [] calls).cell

-- ---- both from less than what is promised

unfoldable pub ThirdDemandOfFollowed : Type 0
ThirdDemandOfFollowed =
    (ca : List ℕ) (c0 bcc ag p : ℕ) (answer : Result Unit Refusal) (words : List ℕ) → changed answer (cell_of words) ≡ start_of ca c0 bcc ag p
    → (calls : List Answered) → Followed words calls → Delivered (cell_of words) (handed words [] calls)

unfoldable pub ReachedByFollowed : Type 0
ReachedByFollowed =
    (ca : List ℕ) (c0 bcc ag p : ℕ) (answer : Result Unit Refusal) (words : List ℕ) → changed answer (cell_of words) ≡ start_of ca c0 bcc ag p
    → (calls : List Answered) → Followed words calls → Reached (handed words [] calls).cell
