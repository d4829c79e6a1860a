use Prim.Native.Nat.{ℕ, ◌<◌}
use mathlib.Core.Path.{◌≡◌}
use mathlib.Core.Bool.{false}
use Rattle.storage.specs.Words.{cell_of}
use Rattle.rules.specs.Who.{line_is_on}
use Rattle.onair.proofs.seek.first_on.Given as goal

abbrev pub invariant-loop-n : goal.invariant-loop-n
invariant-loop-n l = (k : ℕ) → k < l.n → line_is_on (cell_of l.cell) l.tn l.sought l.number k ≡ false
