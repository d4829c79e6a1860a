-- `put_line` meets its contract: the line's words are its mask in two halves, its numbers and eight zeros; past the last line nothing is written.
-- Assumes nothing.
use native.Mathlib.Omega.{arith}
use borrow.Author.Rules.{rules}
use Rattle.storage.proofs.Storage.{no_such_line, line_put}
use Rattle.storage.proofs.put_line.Goals as goal

pub returns-then-n-gt63 : goal.returns-then-n-gt63
returns-then-n-gt63 c = let x = c.args in no_such_line x.cell.now x.n _ c.if-n-gt63.true

pub returns : goal.returns
returns c =
    let x = c.args in
    line_put x.cell.now x.n x.values _ _ (search rules) (search rules) (omega arith) c.copy_from_slice.ensures.after
