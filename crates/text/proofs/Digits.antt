-- Laws of the value of digits. Assumes nothing.
use Rattle.std.proofs.Common.{◌≡◌, ℕ, ◌+◌, ◌-◌, ◌*◌, ◌^◌, ◌<◌, ◌≤◌, Bool, false, cond, List, [], ◌∷◌, length, drop, get_or, Ok, Err, refl, sym, ap, ◌∙◌, add-one, arith, le_trans, drop-cons}
use native.Mathlib.Nat.{le_refl}
use lib.ListN.{drop_of_length-le}
use borrow.Author.Tests.{le-ltb}
use Rattle.wording.specs.declared.Reason.TheVariants.{NotANumber, NumberTooLarge}
use Rattle.wording.proofs.Digits.{is_value}
use Rattle.wording.specs.Numbers.{is_number, value_from, within, number_of}

-- ---- a word's value

pub is_number-nothing : (w : List ℕ) → length w ≡ 0 → is_number w ≡ false
unfolding is_number
is_number-nothing [] h = refl
is_number-nothing (c ∷ w) h = absurd (omega (arith, h))

value_more : (w : List ℕ) (i n : ℕ) → i < length w → value_from n (drop i w) ≡ value_from (10 * n + (get_or w i 0 - 48)) (drop (i + 1) w)
unfolding value_from
value_more w i n h = rw (add-one i, drop-cons w i 0 h) refl

value_end : (w : List ℕ) (i n : ℕ) → length w ≤ i → value_from n (drop i w) ≡ n
unfolding value_from
value_end w i n h = ap (value_from n) (drop_of_length-le w {i = i} h)

-- more digits make no smaller number
value_grows : (w : List ℕ) (n : ℕ) → n ≤ value_from n w
unfolding value_from
value_grows [] n = le_refl n
value_grows (c ∷ w) n = le_trans (omega arith) (value_grows w (10 * n + (c - 48)))

-- the loop over a word: what the characters before i are worth is n
module _ (w : List ℕ) (i n : ℕ) (inv : value_from n (drop i w) ≡ value_from 0 w) where
  pub value_overflows : i < length w → 2 ^ 64 ≤ 10 * n + (get_or w i 0 - 48) → Err NumberTooLarge ≡ within (value_from 0 w)
  unfolding within
  value_overflows h large =
      let grown : 10 * n + (get_or w i 0 - 48) ≤ value_from 0 w = rw (sym inv, value_more w i n h) (value_grows (drop (i + 1) w) (10 * n + (get_or w i 0 - 48))) in
      sym (ap (λ (t : Bool). cond t (Ok (value_from 0 w)) (Err NumberTooLarge)) (le-ltb (value_from 0 w) (2 ^ 64) (omega arith)))

  pub value_kept : (m : ℕ) → i < length w → m ≡ 10 * n + (get_or w i 0 - 48) → value_from m (drop (i + 1) w) ≡ value_from 0 w
  value_kept m h e = ap (λ (k : ℕ). value_from k (drop (i + 1) w)) e ∙ sym (value_more w i n h) ∙ inv

  pub value_done : length w ≤ i → n < 2 ^ 64 → Ok n ≡ within (value_from 0 w)
  value_done h s = sym (is_value n (value_from 0 w) (sym inv ∙ value_end w i n h) s)

pub number_none : (w : List ℕ) → is_number w ≡ false → number_of w ≡ Err NotANumber
unfolding number_of
number_none w e = ap (λ (t : Bool). cond t (within (value_from 0 w)) (Err NotANumber)) e
