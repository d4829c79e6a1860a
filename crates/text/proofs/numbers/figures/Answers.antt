use Rattle.text.proofs.Puts.{put_first}
use Rattle.text.proofs.numbers.figures.Goals as goal

pub returns : goal.returns
returns g c = put_first (g.B.Room.buffer c.args.digits.now) (g.B.Room.buffer c.clear.new.self) _ _ c.clear.ensures c.put_each.ensures
