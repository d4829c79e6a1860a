use Rattle.std.proofs.Common.{◌≡◌, ◌++◌, map, take, drop}
use Rattle.text.proofs.room.LentU8Room.put_each.Given as goal

abbrev pub invariant-loop-byte : goal.invariant-loop-byte
invariant-loop-byte g l = l.byte-items ≡ map g.C.Change.changed (take l.byte-index l.initial.byte-items) ++ drop l.byte-index l.initial.byte-items
