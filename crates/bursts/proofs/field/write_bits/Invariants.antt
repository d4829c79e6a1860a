use Prim.Native.Nat.{ℕ, ◌-◌, ◌/◌, ◌^◌}
use mathlib.Core.Path.{◌≡◌}
use lib.ListN.{length, drop}
use Rattle.layouts.specs.Layouts.{bits}
use Rattle.bursts.proofs.field.write_bits.Given as goal

-- the word without its last n - k bits
abbrev pub without : ℕ → ℕ → ℕ → ℕ
without n word k = word / 2 ^ (n - k)

abbrev pub invariant-loop-k : goal.invariant-loop-k
invariant-loop-k l = (l.rest ≡ without (length l.initial.to) l.word l.k) × (drop l.k l.to ≡ drop l.k (bits (length l.initial.to) l.word))
