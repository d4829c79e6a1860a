use Rattle.std.proofs.Common.{refl, arith}
use Rattle.std.proofs.lemmas.Grind.{common_steps}
use Rattle.wording.proofs.Written.{written_whole, written-full}
use Rattle.text.proofs.entries.ArrayVecU16Entries.push.Goals as goal

pub returns : goal.returns
returns g c = (grind (arith, common_steps, written_whole, written-full), (refl, refl))
