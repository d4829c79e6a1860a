-- A sum of ones, one for each number below a bound that passes a test, is their count. Assumes nothing.
use Rattle.std.proofs.Common.{◌≡◌, ℕ, zero, suc, ◌+◌, ◌<◌, ◌≤◌, List, [], ◌∷◌, map, Bool, true, false, cond, refl, sym, ap, ◌∙◌, arith, add-one}
use mir.Val.{bool_byte}
use Rattle.std.specs.List.{range_with_len, sum}
use Rattle.std.proofs.lemmas.List.FromFn.{map-range_with_len_more}
use Rattle.std.proofs.lemmas.List.Sums.{fold-append}
use Rattle.answers.specs.Search.{count_below}
use Rattle.answers.proofs.Count.{one_le}

as_number : (b : Bool) → bool_byte b ≡ cond b 1 0
as_number true = refl
as_number false = refl

module _ (test : ℕ → Bool) where
  abbrev pub ones : ℕ → List ℕ
  ones n = map (λ (k : ℕ). bool_byte (test k)) (range_with_len 0 n)

  pub counted : (n : ℕ) → sum (ones n) ≡ count_below test n
  unfolding count_below
  counted zero = refl
  counted (suc n) =
      ap (λ (k : ℕ). sum (ones k)) (sym (add-one n))
      ∙ ap sum (map-range_with_len_more (λ (k : ℕ). bool_byte (test k)) 0 n n (omega arith))
      ∙ fold-append ◌+◌ 0 (ones n) (bool_byte (test n) ∷ [])
      ∙ ap (λ (m : ℕ). m + bool_byte (test n)) (counted n)
      ∙ ap (λ (m : ℕ). count_below test n + m) (as_number (test n))

  at_most : (n : ℕ) → count_below test n ≤ n
  unfolding count_below
  at_most zero = omega arith
  at_most (suc n) = let least = one_le (test n) in omega (arith, at_most n, least)

  pub few : (n : ℕ) → n < 4294967296 → sum (ones n) < 4294967296
  few n h = omega (arith, h, counted n, at_most n)
