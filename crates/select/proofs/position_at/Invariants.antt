use Rattle.std.proofs.Common.{◌-◌, ◌^◌, ◌≤◌}
use Rattle.select.proofs.Halving.{Among}
use Rattle.select.proofs.position_at.Given as goal

abbrev pub invariant-loop-half : goal.invariant-loop-half
invariant-loop-half l = record { all : l.rest ≤ 64; room : 2 ^ (6 - l.half-index) ≤ l.rest; place : Among l.mask l.mai (64 - l.rest) (2 ^ (6 - l.half-index)) }
