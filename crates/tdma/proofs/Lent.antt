-- A call on lent bytes or words and the numbers of its answer, together. Assumes nothing.
use Prim.Native.Nat.{ℕ}
use mathlib.Core.Path.{◌≡◌, ap, ◌∙◌, subst}
use mathlib.Core.List.{List}
use mathlib.Core.Option.{Option}
use Rattle.std.specs.Prelude.{Result}
use Rattle.answers.specs.Outcome.{Refused}
use Rattle.answers.specs.Refusals.{refusal_in}
use Rattle.answers.specs.declared.Refusal.{Refusal}
use Rattle.layouts.specs.Bursts.{Written, wrote}
use Rattle.storage.specs.Words.{cell_of}
use Rattle.rules.specs.Calls.{Step, changed}
use Rattle.c_answers.specs.declared.TdmaAnswer.{TdmaAnswer}
use Rattle.c_answers.specs.Numbers.{answer_numbers}
use Rattle.cell.specs.Leaves.{Untouched, Leaves}
use Rattle.tdma.specs.Buffers.{Wrote}
use Rattle.tdma.specs.Cells.{Left, Done}

pub wrote_is : (a : Result Unit Refusal) {bytes : List ℕ} {w : Written} {r : TdmaAnswer} → r ≡ answer_numbers (refusal_in a) → wrote a bytes ≡ w → Wrote r bytes w
wrote_is a numbers e = (numbers ∙ ap (λ (w : Written). answer_numbers w.refusal) e, ap (λ (w : Written). w.bytes) e)

-- a start
pub left_is : (a : Result Unit Refusal) (words : List ℕ) {s : Step} {r : TdmaAnswer} → r ≡ answer_numbers (refusal_in a) → changed a (cell_of words) ≡ s → Left r words s
left_is a words numbers e = (numbers ∙ ap (λ (s : Step). answer_numbers s.refusal) e, ap (λ (s : Step). s.cell) e)

-- a call that changes the cell
pub done_is : (a : Result Unit Refusal) (before after : List ℕ) {s : Step} {r : TdmaAnswer} → r ≡ answer_numbers (refusal_in a) → Leaves a before after s → Done r before after s
done_is a before after numbers e =
    (left_is a after numbers e.0, subst (λ (o : Option Refused). Untouched o before after) (ap (λ (s : Step). s.refusal) e.0) e.1)
