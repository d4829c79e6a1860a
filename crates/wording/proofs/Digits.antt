-- Laws of a number's digits and of the value of digits. Assumes nothing.
use Prim.Native.Nat.{ℕ, suc, ◌+◌, ◌/◌, ◌%◌, ◌^◌, ◌≤◌, ◌<◌}
use Rattle.std.specs.Prelude.{Ok, Err}
use mathlib.Core.Path.{◌≡◌, refl, ap}
use mathlib.Core.Bool.{Bool, true, cond}
use mathlib.Core.List.{List, [], ◌∷◌, ◌++◌}
use native.Mathlib.Omega.{arith}
use lib.ListN.{length}
use borrow.Author.Tests.{lt-ltb, le-ltb}
use Rattle.wording.specs.declared.Reason.TheVariants.{NotANumber, NumberTooLarge}
use Rattle.wording.specs.Numbers.{all_digits, is_number, value_from, within, number_of}
use Rattle.wording.specs.Print.{decimal_within}

-- ---- a word's

pub some_digits : (w : List ℕ) → 0 < length w → is_number w ≡ all_digits w
unfolding is_number
some_digits [] h = absurd (omega (arith, h))
some_digits (c ∷ w) h = refl

pub is_value : (n m : ℕ) → m ≡ n → n < 2 ^ 64 → within m ≡ Ok n
unfolding within
is_value n m e h = rw e (ap (λ (t : Bool). cond t (Ok n) (Err NumberTooLarge)) (lt-ltb n (2 ^ 64) h))

pub number_value : (w : List ℕ) → is_number w ≡ true → number_of w ≡ within (value_from 0 w)
unfolding number_of
number_value w e = ap (λ (t : Bool). cond t (within (value_from 0 w)) (Err NotANumber)) e

-- ---- a number's

pub one_digit : (f n : ℕ) → n < 10 → decimal_within (suc f) n ≡ (48 + n) ∷ []
unfolding decimal_within
one_digit f n h = ap (λ (t : Bool). cond t ((48 + n) ∷ []) (decimal_within f (n / 10) ++ ((48 + n % 10) ∷ []))) (lt-ltb n 10 h)

pub more_digits : (f n : ℕ) → 10 ≤ n → decimal_within (suc f) n ≡ decimal_within f (n / 10) ++ ((48 + n % 10) ∷ [])
unfolding decimal_within
more_digits f n h = ap (λ (t : Bool). cond t ((48 + n) ∷ []) (decimal_within f (n / 10) ++ ((48 + n % 10) ∷ []))) (le-ltb n 10 h)
