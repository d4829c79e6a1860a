-- `field::bit` meets its contract: a word has no bit from 64 on. Assumes nothing.
use Prim.Native.Nat.{ℕ, ◌/◌, ◌%◌, ◌^◌, ◌<◌, ◌≤◌}
use mathlib.Core.Path.{◌≡◌, sym, ap}
use native.Mathlib.Nat.{div-eq_of_lt, lt_of_lt_of_le}
use borrow.Author.Rules.{rules}
use lib.Pow.{pow_mono}
use Rattle.bursts.proofs.field.bit.Goals as goal

no_bit : (word k : ℕ) → word < 2 ^ 64 → 64 ≤ k → 0 ≡ word / 2 ^ k % 2
no_bit word k h l = sym (ap (λ (n : ℕ). n % 2) (div-eq_of_lt (lt_of_lt_of_le h (pow_mono l))))

pub returns-then-k-gt63 : goal.returns-then-k-gt63
returns-then-k-gt63 c = no_bit c.args.word c.args.k (search rules) (search rules)
