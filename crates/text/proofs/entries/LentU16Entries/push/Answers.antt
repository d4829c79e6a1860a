use Rattle.std.proofs.Common.{rules}
use Rattle.text.proofs.Filled.{one_filled, none_filled}
use Rattle.text.proofs.entries.LentU16Entries.push.Goals as goal

pub returns-then-self : goal.returns-then-self
returns-then-self c = (one_filled c.args.self.now.slice.now c.args.self.now.at _ c.args.entry (search rules) (search rules), search rules)

pub returns-else-self : goal.returns-else-self
returns-else-self c = (none_filled c.args.self.now.slice.now c.args.self.now.at c.args.entry (search rules), search rules)
