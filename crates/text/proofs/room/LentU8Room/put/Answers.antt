use Rattle.std.proofs.Common.{rules}
use Rattle.text.proofs.Filled.{filled}
use Rattle.text.proofs.room.LentU8Room.put.Goals as goal

pub returns : goal.returns
returns c =
    (filled c.args.self.now.slice.now c.args.text.now c.args.self.now.at _ _ _ (search rules) (search rules) (search rules) c.copy_from_slice.new.self _ (search rules), search rules)
