-- `common::needed` meets its contract: a 6 two timeslots higher is looked for. Assumes nothing.
use Prim.Native.Nat.{◌+◌}
use borrow.Author.Rules.{rules}
use Rattle.rules.specs.Calls.{stands_in}
use Rattle.rules.specs.State.{line_at}
use Rattle.rules.proofs.Lines.{decides}
use Rattle.storage.specs.Words.{cell_of}
use Rattle.placing.proofs.Found.{any_found}
use Rattle.placing.proofs.common.needed.Goals as goal

pub returns-then-line : goal.returns-then-line
returns-then-line c =
    let x = c.args in
    let l = line_at (cell_of x.cell.now) x.n in
    let listed = rw c.values_at-line.ensures at c.if-line.true in
    decides _ _ _ listed (any_found (stands_in 6 (l.tn + 2)) _ c.any_line.ensures (λ other b k. search rules))
