-- A number that is written reads as itself: its digits are digits, and have its value. Assumes nothing.
use Prim.Native.Nat.{ℕ, zero, suc, ◌+◌, ◌-◌, ◌*◌, ◌/◌, ◌%◌, ◌^◌, ◌<◌}
use mathlib.Core.Path.{◌≡◌, refl, ap, ◌∙◌}
use mathlib.Core.Bool.{Bool, true, false}
use mathlib.Core.List.{List, [], ◌∷◌, ◌++◌}
use native.Mathlib.Nat.{pow-suc}
use native.Mathlib.Omega.{arith}
use lib.Dec.{ltb}
use lib.ListN.{length, length-append}
use borrow.Author.Tests.{ltb-true, ltb-false, le-leb}
use Rattle.std.proofs.lemmas.List.Folds.{list_all-append}
use Rattle.answers.proofs.Tests.{and_both}
use Rattle.std.specs.Prelude.{Ok}
use Rattle.wording.specs.Numbers.{is_digit, all_digits, value_from, number_of}
use Rattle.wording.specs.Print.{decimal_of, decimal_within}
use Rattle.wording.proofs.Digits.{some_digits, number_value, is_value, one_digit, more_digits}

value_append : (xs ys : List ℕ) (m : ℕ) → value_from m (xs ++ ys) ≡ value_from (value_from m xs) ys
unfolding value_from
value_append [] ys m = refl
value_append (x ∷ xs) ys m = value_append xs ys (10 * m + (x - 48))

digits_append : (xs ys : List ℕ) → all_digits xs ≡ true → all_digits ys ≡ true → all_digits (xs ++ ys) ≡ true
digits_append xs ys h k = list_all-append is_digit xs ys ∙ and_both h k

one_value : (m d : ℕ) → value_from m ((48 + d) ∷ []) ≡ 10 * m + d
unfolding value_from
one_value m d = omega arith

one_is_digit : (d : ℕ) → d < 10 → all_digits ((48 + d) ∷ []) ≡ true
one_is_digit d h = and_both (and_both (le-leb 48 (48 + d) (omega arith)) (le-leb (48 + d) 57 (omega (arith, h)))) refl

value_decimal : (k n : ℕ) → n < 10 ^ k → value_from 0 (decimal_within k n) ≡ n
unfolding value_from decimal_within
value_decimal zero n h = omega (arith, h)
value_decimal (suc k) n h = go (ltb n 10) refl (value_decimal k (n / 10))
  where
    go : (t : Bool) → ltb n 10 ≡ t → (n / 10 < 10 ^ k → value_from 0 (decimal_within k (n / 10)) ≡ n / 10) → value_from 0 (decimal_within (suc k) n) ≡ n
    go true e ih = ap (value_from 0) (one_digit k n (ltb-true n 10 e)) ∙ one_value 0 n ∙ omega arith
    go false e ih =
        let p : 10 ^ suc k ≡ 10 ^ k * 10 = pow-suc 10 k in
        ap (value_from 0) (more_digits k n (ltb-false n 10 e))
        ∙ value_append (decimal_within k (n / 10)) _ 0
        ∙ ap (λ (m : ℕ). value_from m ((48 + n % 10) ∷ [])) (ih (omega (arith, p, h)))
        ∙ one_value (n / 10) (n % 10)
        ∙ omega arith

digits_decimal : (k n : ℕ) → all_digits (decimal_within k n) ≡ true
unfolding decimal_within
digits_decimal zero n = refl
digits_decimal (suc k) n = go (ltb n 10) refl (digits_decimal k (n / 10))
  where
    go : (t : Bool) → ltb n 10 ≡ t → all_digits (decimal_within k (n / 10)) ≡ true → all_digits (decimal_within (suc k) n) ≡ true
    go true e ih = ap all_digits (one_digit k n (ltb-true n 10 e)) ∙ one_is_digit n (ltb-true n 10 e)
    go false e ih =
        ap all_digits (more_digits k n (ltb-false n 10 e)) ∙ digits_append (decimal_within k (n / 10)) _ ih (one_is_digit (n % 10) (omega arith))

some : (k n : ℕ) → 0 < length (decimal_within (suc k) n)
some k n = go (ltb n 10) refl
  where
    go : (t : Bool) → ltb n 10 ≡ t → 0 < length (decimal_within (suc k) n)
    go true e = let l : length (decimal_within (suc k) n) ≡ 1 = ap length (one_digit k n (ltb-true n 10 e)) in omega (arith, l)
    go false e =
        let l : length (decimal_within (suc k) n) ≡ length (decimal_within k (n / 10)) + 1 = ap length (more_digits k n (ltb-false n 10 e)) ∙ length-append (decimal_within k (n / 10)) _ in
        omega (arith, l)

-- what `put_number` writes, `number` reads
pub reads_back : (n : ℕ) → n < 2 ^ 64 → number_of (decimal_of n) ≡ Ok n
reads_back n h =
    number_value (decimal_of n) (some_digits (decimal_of n) (some 19 n) ∙ digits_decimal 20 n) ∙ is_value n (value_from 0 (decimal_of n)) (value_decimal 20 n (omega (arith, h))) h
