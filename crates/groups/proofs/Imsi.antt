-- What an IMSI's digits show: there are three, and the last three are a number below 1,000. Assumes nothing.
use Prim.Native.Nat.{ℕ, ◌-◌, ◌≤◌, ◌<◌}
use mathlib.Core.Path.{◌≡◌}
use mathlib.Core.Bool.{true, ◌&&◌}
use mathlib.Core.List.{List}
use native.Mathlib.Omega.{arith}
use lib.Dec.{leb}
use lib.ListN.{length, get_or}
use borrow.Author.Tests.{leb-true}
use Rattle.answers.specs.Search.{all_below}
use Rattle.answers.proofs.Search.{all_at}
use Rattle.answers.proofs.Tests.{and_left, and_right}
use Rattle.groups.specs.Paging.{last_three, is_imsi}

module _ (digits : List ℕ) (e : is_imsi digits ≡ true) where
  pub three_digits : 3 ≤ length digits
  three_digits = leb-true 3 (length digits) (and_left (leb 3 (length digits)) _ e)

  digit_below : (k : ℕ) → k < length digits → get_or digits k 0 ≤ 9
  digit_below k h =
      leb-true _ 9
      (all_at (λ (k : ℕ). leb (get_or digits k 0) 9) (length digits)
      (and_right (leb (length digits) 15) _ (and_right (leb 3 (length digits)) (leb (length digits) 15 && all_below (λ (k : ℕ). leb (get_or digits k 0) 9) (length digits)) e)) k h)

  pub last_three_below : last_three digits < 1000
  last_three_below =
      let l = three_digits in
      omega (arith, digit_below (length digits - 3) (omega arith), digit_below (length digits - 2) (omega arith), digit_below (length digits - 1) (omega arith))
