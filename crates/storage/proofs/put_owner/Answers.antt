-- `put_owner` meets its contract: one word of line n changes; past the last line and the last subchannel nothing is written. Assumes nothing.
use borrow.Author.Rules.{rules}
use Rattle.storage.proofs.Storage.{no_such_owner, other_owner}
use Rattle.storage.proofs.put_owner.Goals as goal

pub returns-then-n-gt63 : goal.returns-then-n-gt63
returns-then-n-gt63 c = let x = c.args in no_such_owner x.cell.now x.n x.s x.owner c.then-n-gt63.either

pub returns : goal.returns
returns c = let x = c.args in other_owner x.cell.now x.n x.s x.owner (search rules) (search rules) (search rules)
