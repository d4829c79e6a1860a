use Rattle.std.proofs.Common.{take}
use Rattle.wording.specs.Print.{spaced}
use Rattle.text.specs.Room.{Put}
use Rattle.text.proofs.print.put_numbers.Given as goal

abbrev pub invariant-loop-n : goal.invariant-loop-n
invariant-loop-n g l = Put (g.B.Room.buffer l.fn.out) (g.B.Room.buffer l.out) (spaced (take l.n-index l.list))
