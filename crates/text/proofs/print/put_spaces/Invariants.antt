use Rattle.std.proofs.Common.{replicate}
use Rattle.text.specs.Room.{Put}
use Rattle.text.proofs.print.put_spaces.Given as goal

abbrev pub invariant-loop : goal.invariant-loop
invariant-loop g l = Put (g.B.Room.buffer l.fn.out) (g.B.Room.buffer l.out) (replicate l.counter 32)
