-- `put_start` meets its contract: all words are 0, then the first k are the entries, and at last the five numbers are put; of a list that is too
-- long nothing is written. Assumes nothing.
use mathlib.Core.Path.{◌≡◌, ap, ◌∙◌}
use Prim.Native.Nat.{ℕ, ◌+◌}
use lib.ListN.{get_or-eq_default}
use lib.Seq.{take_all}
use borrow.Author.Rules.{rules}
use Rattle.storage.specs.Words.{word, cell_of}
use Rattle.storage.proofs.Storage.{zeros_at, start_put, filled_start}
use Rattle.storage.proofs.put_start.Goals as goal

pub loop-k-init : goal.loop-k-init
loop-k-init c = (zeros_at c.fill.new.self _ (c.fill.ensures.after (λ y e. e)), search rules)

pub returns : goal.returns
returns c =
    let x = c.args in
    let l = c.loop-k in
    let e : (j : ℕ) → word l.cell j ≡ word x.ca.now j = λ j. l.invariant.0 j ∙ ap (λ xs. word xs j) (take_all l.k x.ca.now (search rules)) in
    filled_start l.cell x.ca.now x.parameters (λ j h. e j) (λ j h. e (69 + j) ∙ get_or-eq_default x.ca.now 0 (search rules)) l.invariant.1
    ∙ start_put (cell_of x.cell.now) x.ca.now x.parameters (search rules)
