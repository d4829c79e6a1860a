-- Tests over all numbers below a bound: whether all, some or how many pass, and the least that does. Assumes nothing.
use Rattle.std.specs.Prelude.{ℕ, zero, suc, ◌+◌, Bool, true, false, ◌&&◌, ◌||◌, cond}
use Rattle.std.proofs.Math.Option.{Option, none, some}

-- the test holds of every number below n
unfoldable pub all_below : (ℕ → Bool) → ℕ → Bool
all_below test zero = true
all_below test (suc n) = all_below test n && test n

-- the test holds of some number below n
unfoldable pub any_below : (ℕ → Bool) → ℕ → Bool
any_below test zero = false
any_below test (suc n) = any_below test n || test n

-- the least number below n that passes the test, or d where none does: each lower one that passes takes the place of a higher
unfoldable pub least : (ℕ → Bool) → ℕ → ℕ → ℕ
least test zero d = d
least test (suc n) d = least test n (cond (test n) n d)

-- the least number below n that passes the test, if one does
abbrev pub first_below : (ℕ → Bool) → ℕ → Option ℕ
first_below test n = cond (any_below test n) (some (least test n n)) none

-- how many numbers below n pass the test
unfoldable pub count_below : (ℕ → Bool) → ℕ → ℕ
count_below test zero = 0
count_below test (suc n) = count_below test n + cond (test n) 1 0
