-- std's decimal digits are the format's. Assumes nothing.
use Rattle.std.proofs.Common.{◌≡◌, ℕ, zero, suc, ◌+◌, ◌*◌, ◌/◌, ◌%◌, ◌^◌, ◌<◌, List, [], ◌∷◌, ◌++◌, sym, ap, ◌∙◌, arith, inl, inr}
use native.Mathlib.Nat.{pow-suc}
use Rattle.std.proofs.lemmas.Bool.{cases_lt}
use Rattle.std.proofs.lemmas.Fmt.{decimal_digit, decimal_step}
use Rattle.std.specs.Fmt.{decimal as std_decimal}
use Rattle.wording.specs.Print.{decimal_of, decimal_within}
use Rattle.wording.proofs.Digits.{one_digit, more_digits}

within : (k n : ℕ) → n < 10 ^ suc k → n < 2 ^ 64 → std_decimal n ≡ decimal_within (suc k) n
within zero n h s = let low : n < 10 = omega (arith, h) in decimal_digit n low ∙ sym (one_digit 0 n low)
within (suc k) n h s = elim (cases_lt n 10) [
  | inl low ↦ decimal_digit n low ∙ sym (one_digit (suc k) n low)
  | inr high ↦
      let p : 10 ^ suc (suc k) ≡ 10 ^ suc k * 10 = pow-suc 10 (suc k) in
      decimal_step n high s ∙ ap (λ (ds : List ℕ). ds ++ ((48 + n % 10) ∷ [])) (within k (n / 10) (omega arith) (omega arith)) ∙ sym (more_digits (suc k) n high)
]

pub std_decimal-decimal : (n : ℕ) → n < 2 ^ 64 → std_decimal n ≡ decimal_of n
std_decimal-decimal n h = within 19 n (omega arith) h
