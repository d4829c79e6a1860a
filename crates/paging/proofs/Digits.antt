-- The digits of an IMSI are tested as a list. Assumes nothing.
use Prim.Native.Nat.{ℕ, zero, suc, ◌+◌, ◌≤◌}
use mathlib.Core.Path.{◌≡◌, refl, sym, ap, ap₂, ◌∙◌}
use mathlib.Core.Bool.{Bool, ◌&&◌}
use mathlib.Core.List.{List}
use native.Mathlib.Omega.{arith}
use lib.Dec.{leb}
use lib.ListN.{length, get_or}
use borrow.Author.Tests.{le-leb}
use Rattle.std.specs.Prelude.{take}
use Rattle.std.specs.List.{list_all}
use Rattle.std.proofs.Math.Seq.{take-length}
use Rattle.std.proofs.lemmas.List.Folds.{list_all_more}
use Rattle.answers.specs.Search.{all_below}
use Rattle.groups.specs.Paging.{is_imsi}

abbrev is_digit : ℕ → Bool
is_digit d = leb d 9

-- the digits below i
front : (digits : List ℕ) (i : ℕ) → i ≤ length digits → all_below (λ k. is_digit (get_or digits k 0)) i ≡ list_all is_digit (take i digits)
unfolding all_below
front digits zero h = refl
front digits (suc i) h =
    let e : i + 1 ≡ suc i = omega arith in
    ap (λ (t : Bool). t && is_digit (get_or digits i 0)) (front digits i (omega arith))
    ∙ (sym (list_all_more is_digit digits i 0 (omega arith)) ∙ ap (λ (k : ℕ). list_all is_digit (take k digits)) e)

pub all_digits : (digits : List ℕ) → 3 ≤ length digits → length digits ≤ 15 → is_imsi digits ≡ list_all is_digit digits
all_digits digits l h =
    ap₂ (λ (s t : Bool). s && (t && all_below (λ k. is_digit (get_or digits k 0)) (length digits))) (le-leb 3 (length digits) l) (le-leb (length digits) 15 h)
    ∙ (front digits (length digits) (omega arith) ∙ ap (list_all is_digit) (take-length digits))
