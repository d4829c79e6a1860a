-- When `map` is refused: the range of each number. Assumes nothing.
use Prim.Native.Nat.{ℕ, ◌<◌}
use mathlib.Core.Path.{◌≡◌, refl, sym, ◌∙◌, subst}
use mathlib.Core.List.{List}
use mathlib.Core.Bool.{Bool, true, false, not}
use native.Mathlib.Omega.{arith}
use lib.Dec.{ltb}
use borrow.Author.Tests.{ne_eqb, ltb-true, ltb-false, leb-false}
use Rattle.answers.specs.Outcome.{Outcome, alone, refused, accepted, any_of}
use Rattle.answers.specs.Ranges.{hyperframe, no_fn, no_tn, no_direction}
use Rattle.answers.proofs.Decide.{holds_none, first, rest, accepts}
use Rattle.answers.proofs.Tests.{refute, not_both}
use Rattle.maps.specs.Channels.{Standing}
use Rattle.maps.specs.Combinations.{combinations, among, is_combination, rows_of}
use Rattle.maps.specs.Map.{out_of_range, map_of}
use Rattle.maps.specs.Numbers.{numbers_of, bytes, numbers_at}
use Rattle.maps.specs.Rows.{standing}
use Rattle.maps.proofs.Unpacked.{numbers_back}

-- ---- which numbers are a combination's

pub combination_above : (c : ℕ) → 7 < c → not (is_combination c) ≡ true
unfolding combinations among
combination_above c h =
    simp (ne_eqb c 1 (λ q. omega arith), ne_eqb c 2 (λ q. omega arith), ne_eqb c 4 (λ q. omega arith), ne_eqb c 5 (λ q. omega arith), ne_eqb c 6 (λ q. omega arith), ne_eqb c 7 (λ q. omega arith))

pub combination_zero : (c : ℕ) → c ≡ 0 → not (is_combination c) ≡ true
unfolding combinations among
combination_zero c e = rw e refl

pub combination_three : (c : ℕ) → c ≡ 3 → not (is_combination c) ≡ true
unfolding combinations among
combination_three c e = rw e refl

-- ---- the numbers of a request that is not refused

combination_below : (c : ℕ) → not (is_combination c) ≡ false → c < 8
combination_below c e = let h = ltb-false 7 c (refute (ltb 7 c) (λ t. not_both (combination_above c (ltb-true 7 c t)) e)) in omega (arith, h)

module _ (c tn n d : ℕ) where
  module _ (e : any_of (out_of_range c tn n d) ≡ false) where
    none : (not (is_combination c) ≡ false) × ((no_tn tn ≡ false) × ((no_fn n ≡ false) × ((no_direction d ≡ false) × Unit {0})))
    none = holds_none (out_of_range c tn n d) e

    pub combination_range : (0 < c) × (c < 8) × (c ≡ 3 → ⊥)
    combination_range =
        let z : c ≡ 0 → ⊥ = λ q. not_both (combination_zero c q) none.0 in
        (omega (arith, z), combination_below c none.0, λ q. not_both (combination_three c q) none.0)

    pub other_ranges : (tn < 8) × (n < hyperframe) × (d < 2)
    other_ranges =
        let a = ltb-false 7 tn none.1.0 in
        let b = leb-false hyperframe n none.1.1.0 in
        let f = ltb-false 1 d none.1.1.1.0 in
        (omega (arith, a), omega (arith, b), omega (arith, f))

    pub accepted_map : map_of c tn n d ≡ accepted (standing (rows_of c tn d) n)
    unfolding map_of
    accepted_map = rest _ _ _ e ∙ accepts _

  pub refused_map : any_of (out_of_range c tn n d) ≡ true → map_of c tn n d ≡ refused (alone 3)
  unfolding map_of
  refused_map e = first _ _ _ e

  -- the bytes of every answer hold its numbers
  pub map_numbers : numbers_at (bytes (numbers_of (map_of c tn n d))) ≡ numbers_of (map_of c tn n d)
  unfolding numbers_of
  map_numbers = go (any_of (out_of_range c tn n d)) refl
    where
      kept : Outcome (List Standing) → Type 0
      kept m = numbers_at (bytes (numbers_of m)) ≡ numbers_of m

      go : (b : Bool) → any_of (out_of_range c tn n d) ≡ b → kept (map_of c tn n d)
      go true e = subst kept (sym (refused_map e)) refl
      go false e = subst kept (sym (accepted_map e)) (numbers_back tn (other_ranges e).0 d (other_ranges e).2 n c)
