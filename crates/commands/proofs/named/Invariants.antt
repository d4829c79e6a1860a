use Rattle.std.proofs.Common.{◌≡◌, map, drop}
use Rattle.wording.specs.Names.{named}
use Rattle.commands.proofs.named.Given as goal

abbrev pub invariant-loop-name : goal.invariant-loop-name
invariant-loop-name g l = named l.word (map (λ name. (name.0.now, name.1)) (drop l.name-index l.names)) ≡ named l.word (map (λ name. (name.0.now, name.1)) l.names)
