-- The third demand, of what C calls: any answers of tdma_start, tdma_open, tdma_close, tdma_seize, tdma_release and tdma_line, and any words left, such that
-- each is what the contract of its function promises. The statement; proofs/ThirdDemand.antt proves it. Assumes nothing.
use Rattle.std.specs.Prelude.{ℕ, ◌<◌, ◌≡◌, List, [], ◌∷◌, eqb}
use Rattle.std.proofs.Math.Option.{some}
use Rattle.answers.specs.Outcome.{accepted}
use Rattle.answers.specs.Ranges.{hyperframe}
use Rattle.rules.specs.State.{Cell}
use Rattle.rules.specs.declared.Values.{Values}
use Rattle.storage.specs.Words.{cell_of}
use Rattle.rules.specs.Calls.{start_of}
use Rattle.rules.specs.OnAir.{line_of}
use Rattle.rules.specs.History.{Call, Made, opened_with}
use Rattle.rules.specs.Reached.{Reached}
use Rattle.rules.specs.CollisionFree.{CollisionFree, Run, calling, slot_from}
use Rattle.c_answers.specs.declared.TdmaAnswer.{TdmaAnswer}
use Rattle.c_answers.specs.declared.TdmaLine.{TdmaLine}
use Rattle.tdma.specs.Cells.{Left, Done, line_numbers}

-- a call, the answer that C got, and the words that it left
pub record Answered : Type 0 where
  pub call : Call
  pub answer : TdmaAnswer
  pub words : List ℕ

-- each call was made on the words that the one before it left, and its function kept its promise
unfoldable pub Promised : List ℕ → List Answered → Type 0
Promised words [] = Unit
Promised words (a ∷ more) = Done a.answer words a.words (calling (cell_of words) a.call) × Promised a.words more

-- "whether each was accepted": C sees it by `refusal`, which is 0
abbrev pub made : Answered → Made
made a = record { call = a.call; accepted = eqb a.answer.refusal 0 }

-- the last cell, and the history
unfoldable pub handed : List ℕ → List Made → List Answered → Run
handed words past [] = record { cell = cell_of words; past = past }
handed words past (a ∷ more) = handed a.words (made a ∷ past) more

pub record Delivered (first : Cell) (end : Run) : Type 0 where
  pub collision_free : CollisionFree first end.past end.cell
  -- and tdma_line, asked of the last words, shows that
  pub line : (n : ℕ) (v : Values) (fn direction : ℕ) → opened_with end.past n ≡ some v → fn < hyperframe → direction < 2
      → (answer : TdmaLine) → answer ≡ line_numbers (line_of end.cell n fn direction)
      → answer ≡ line_numbers (accepted (slot_from first end.past n v fn direction))

unfoldable pub ThirdDemandOfC : Type 0
ThirdDemandOfC =
    (ca : List ℕ) (c0 bcc ag p : ℕ) (answer : TdmaAnswer) (words : List ℕ) → Left answer words (start_of ca c0 bcc ag p)
    → (calls : List Answered) → Promised words calls → Delivered (cell_of words) (handed words [] calls)

-- and so is every cell that C is handed, if the functions keep their promises
unfoldable pub ReachedByC : Type 0
ReachedByC =
    (ca : List ℕ) (c0 bcc ag p : ℕ) (answer : TdmaAnswer) (words : List ℕ) → Left answer words (start_of ca c0 bcc ag p)
    → (calls : List Answered) → Promised words calls → Reached (handed words [] calls).cell
