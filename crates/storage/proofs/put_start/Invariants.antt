use Prim.Native.Nat.{ℕ}
use mathlib.Core.Path.{◌≡◌}
use lib.ListN.{length, take}
use Rattle.storage.specs.Words.{word}
use Rattle.storage.proofs.put_start.Given as goal

abbrev pub invariant-loop-k : goal.invariant-loop-k
invariant-loop-k l = ((j : ℕ) → word l.cell j ≡ word (take l.k l.ca) j) × (length l.cell ≡ 1029)
