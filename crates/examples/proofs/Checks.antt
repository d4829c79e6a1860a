-- How a check follows from what the library's functions promise and the drill sheet's row. Assumes nothing.
use Prim.Native.Nat.{ℕ}
use mathlib.Core.Path.{◌≡◌, refl, ap, ◌∙◌, sym, subst}
use mathlib.Core.List.{List, [], ◌∷◌}
use mathlib.Core.Option.{Option, none}
use Rattle.answers.specs.Outcome.{Refused, Outcome}
use Rattle.c_answers.specs.declared.TdmaAnswer.{TdmaAnswer}
use Rattle.c_answers.specs.declared.TdmaLine.{TdmaLine}
use Rattle.c_answers.specs.declared.TdmaWho.{TdmaWho}
use Rattle.c_answers.specs.Numbers.{refusal_number, refusal_value, answer_numbers}
use Rattle.tdma.specs.Cells.{line_numbers}
use Rattle.rules.specs.State.{Cell}
use Rattle.rules.specs.OnAir.{Slot, line_of}
use Rattle.rules.specs.History.{Call, Made}
use Rattle.rules.specs.CollisionFree.{calling, made, run, begin}
use Rattle.rules.specs.ExampleRun.{refusals}

-- a row asked of a cell: the function promises the definition's answer for the cell that it got, which is the sheet's
pub on_cell : {A B : Type 0} (numbers : Outcome A → B) (question : Cell → Outcome A) {answer : B} {cell defined : Cell} {o : Outcome A}
    → answer ≡ numbers (question cell) → cell ≡ defined → question defined ≡ o → answer ≡ numbers o
on_cell numbers question promise same row = promise ∙ ap (λ c. numbers (question c)) same ∙ ap numbers row

pub on_line : (n fn direction : ℕ) {answer : TdmaLine} {cell defined : Cell} {o : Outcome Slot}
    → answer ≡ line_numbers (line_of cell n fn direction) → cell ≡ defined → line_of defined n fn direction ≡ o → answer ≡ line_numbers o
on_line n fn direction = on_cell line_numbers (λ c. line_of c n fn direction)

-- equal answers of who have the same numbers beside the line's answer
pub equal_who : {a b : TdmaWho} → a ≡ b → (a.refusal ≡ b.refusal) × ((a.found ≡ b.found) × (a.line ≡ b.line))
equal_who e = (ap (λ (x : TdmaWho). x.refusal) e, (ap (λ (x : TdmaWho). x.found) e, ap (λ (x : TdmaWho). x.line) e))

-- ---- a list of accepted calls, each made on the cell that the one before it left

-- a call that the definition accepts is told as accepted
pub told : {a : TdmaAnswer} {r : Option Refused} → a ≡ answer_numbers r → r ≡ none → (a.refusal ≡ 0) × (a.value ≡ 0)
told e h = (ap (λ (x : TdmaAnswer). x.refusal) e ∙ ap refusal_number h, ap (λ (x : TdmaAnswer). x.value) e ∙ ap refusal_value h)

-- as many answers without a refusal as there are calls
unfoldable pub nones : List Call → List (Option Refused)
nones [] = []
nones (x ∷ xs) = none ∷ nones xs

-- these calls are left to be made on the cell: all are accepted, and they lead to the cell `end`
pub record Remaining (cell : Cell) (calls : List Call) (end : Cell) : Type 0 where
  pub past : List Made
  pub accepted : refusals cell calls ≡ nones calls
  pub ends : (run (record { cell = cell; past = past }) calls).cell ≡ end

-- after start, whose cell is the definition's
pub started : (first : Cell) (calls : List Call) {after : Cell} → after ≡ first → refusals first calls ≡ nones calls
    → Remaining after calls (run (begin first) calls).cell
started first calls e h =
    subst (λ (c : Cell). Remaining c calls (run (begin first) calls).cell) (sym e) (record { past = []; accepted = h; ends = refl })

-- after the next call, whose cell is the definition's
pub called : {cell after end : Cell} {x : Call} {xs : List Call} → Remaining cell (x ∷ xs) end → after ≡ (calling cell x).cell → Remaining after xs end
unfolding refusals run nones
called {cell} {after} {end} {x} {xs} l e =
    subst (λ (c : Cell). Remaining c xs end) (sym e)
    (record { past = made x (calling cell x) ∷ l.past; accepted = ap tail l.accepted; ends = l.ends })
  where
    tail : List (Option Refused) → List (Option Refused)
    tail [] = []
    tail (y ∷ ys) = ys

-- the next call is accepted
pub next_accepted : {a : TdmaAnswer} {cell end : Cell} {x : Call} {xs : List Call} → Remaining cell (x ∷ xs) end
    → a ≡ answer_numbers (calling cell x).refusal → (a.refusal ≡ 0) × (a.value ≡ 0)
unfolding refusals nones
next_accepted l e = told e (ap head l.accepted)
  where
    head : List (Option Refused) → Option Refused
    head [] = none
    head (y ∷ ys) = y

-- after the last call
pub ended : {cell end : Cell} → Remaining cell [] end → cell ≡ end
unfolding run
ended l = l.ends
