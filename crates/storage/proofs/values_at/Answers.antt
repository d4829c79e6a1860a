-- `values_at` meets its contract: they are words of line n, the mask in two halves; past the last line they are 0. Assumes nothing.
use Prim.Native.Nat.{ℕ, ◌+◌, ◌*◌, ◌%◌, ◌^◌, ◌<◌}
use mathlib.Core.Path.{◌≡◌, sym, ap}
use native.Mathlib.Omega.{arith}
use borrow.Author.Rules.{rules}
use Rattle.rules.specs.State.{values_of}
use Rattle.storage.proofs.Storage.{values_in, line_past}
use Rattle.storage.proofs.values_at.Goals as goal

pub returns-then-n-gt63 : goal.returns-then-n-gt63
returns-then-n-gt63 c = let x = c.args in ap values_of (sym (line_past x.cell.now x.n (search rules)))

-- a mask by its halves
halves : {low high a b : ℕ} → low ≡ a → high ≡ b → b < 2 ^ 32 → low + high * 2 ^ 32 % 2 ^ 64 ≡ a + 2 ^ 32 * b
halves p q h = omega arith

pub returns : goal.returns
returns c =
    let x = c.args in
    values_in x.cell.now x.n (search rules) (halves c.from.ensures c.from-2.ensures (c.fits-cell (69 + 15 * x.n + 1)))
