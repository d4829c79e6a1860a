use Prim.Native.Nat.{ℕ, ◌-◌, ◌<◌, ◌≤◌}
use mathlib.Core.Path.{◌≡◌}
use mathlib.Core.Bool.{false}
use Rattle.storage.specs.Words.{cell_of}
use Rattle.rules.specs.Calls.{in_the_way}
use Rattle.placing.proofs.clash.in_the_way.Given as goal

abbrev pub invariant-loop-n : goal.invariant-loop-n
invariant-loop-n l = (l.n ≤ 64) × ((k : ℕ) → k < l.n → in_the_way (cell_of l.cell) l.values k ≡ false)

abbrev pub decreases-loop-n : goal.decreases-loop-n
decreases-loop-n l = 64 - l.n
