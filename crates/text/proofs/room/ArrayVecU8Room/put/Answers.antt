use Rattle.std.proofs.Common.{refl, arith}
use Rattle.std.proofs.lemmas.Grind.{common_steps}
use Rattle.wording.proofs.Written.{written-take}
use Rattle.text.proofs.room.ArrayVecU8Room.put.Goals as goal

pub returns : goal.returns
returns g c = (grind (arith, common_steps, written-take g.row.N c.args.self.now.items c.args.text.now c.min-fits.result), (refl, refl))
