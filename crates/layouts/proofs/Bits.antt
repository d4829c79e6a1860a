-- A number's bits, first bit highest: how many there are, and which stands where. Assumes nothing.
use Prim.Native.Nat.{ℕ, zero, suc, ◌+◌, ◌-◌, ◌/◌, ◌%◌, ◌^◌, ◌<◌}
use mathlib.Core.Path.{◌≡◌, refl, ap, ◌∙◌}
use native.Mathlib.Nat.{not-suc-le-zero, le_of_suc-le-suc, suc-add, add_comm}
use native.Mathlib.Omega.{arith}
use lib.ListN.{length, take, get_or}
use lib.Pow.{shr-shr}
use Rattle.layouts.specs.Layouts.{bits}

pub length_bits : (n word : ℕ) → length (bits n word) ≡ n
unfolding bits
length_bits zero word = refl
length_bits (suc n) word = ap suc (length_bits n word)

pub bit_at : (n word k : ℕ) → k < n → get_or (bits n word) k 0 ≡ word / 2 ^ (n - 1 - k) % 2
unfolding bits
bit_at zero word k h = absurd (not-suc-le-zero h)
bit_at (suc n) word zero h = ap (λ (m : ℕ). word / 2 ^ m % 2) (omega arith)
bit_at (suc n) word (suc k) h = bit_at n word k (le_of_suc-le-suc h) ∙ ap (λ (m : ℕ). word / 2 ^ m % 2) (omega arith)

-- the number's higher bits are its first
pub bits_high : (n m word : ℕ) → bits n (word / 2 ^ m) ≡ take n (bits (n + m) word)
unfolding bits
bits_high zero m word = refl
bits_high (suc n) m word =
    rw (suc-add n m, shr-shr word m n, add_comm m n, bits_high n m word) refl
