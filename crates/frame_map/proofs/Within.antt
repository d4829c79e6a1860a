-- Within the range the tables' remainders are the numbers themselves, and the bytes hold what stands in the frame. Assumes nothing.
use Prim.Native.Nat.{ℕ, ◌+◌, ◌/◌, ◌%◌, ◌≤◌, ◌<◌}
use mathlib.Core.Path.{◌≡◌, refl, sym, ap, ◌∙◌}
use mathlib.Core.Bool.{Bool, true, false, not}
use mathlib.Core.List.{List}
use native.Mathlib.Omega.{arith}
use borrow.Author.Tests.{le-ltb, lt-leb}
use Rattle.std.specs.Prelude.{Result, Ok, Err}
use Rattle.answers.specs.declared.Refusal.{Refusal}
use Rattle.answers.specs.Outcome.{any_of, decide}
use Rattle.answers.specs.Ranges.{hyperframe}
use Rattle.answers.specs.Refusals.{outcome_of, outcome_by}
use Rattle.answers.proofs.Decide.{first, none_holds, answered, decide_answered}
use Rattle.maps.specs.Channels.{Standing}
use Rattle.maps.specs.Combinations.{is_combination, rows_of}
use Rattle.maps.specs.Map.{out_of_range, map_causes, map_of}
use Rattle.maps.specs.Numbers.{standing_numbers, bytes, numbers_at, standing_of}
use Rattle.maps.specs.Rows.{standing}
use Rattle.maps.proofs.Range.{combination_range, other_ranges}
use Rattle.maps.proofs.Unpacked.{standing_back}
use Rattle.maps.proofs.Words.{both_directions, all_timeslots}

abbrev bytes_of : List Standing → ℕ
bytes_of xs = bytes (standing_numbers xs)

module _ (c tn n d : ℕ) where
  module _ (k : is_combination c ≡ true) (t : tn ≤ 7) (f : n < hyperframe) (u : d ≤ 1) where
    none : any_of (out_of_range c tn n d) ≡ false
    none = none_holds (out_of_range c tn n d) (ap not k, (le-ltb 7 tn t, (lt-leb hyperframe n f, (le-ltb 1 d u, tt))))

    pub control_bytes : 3 < c → bytes_of (standing (rows_of (4 + c % 4) 0 (d % 2)) n) ≡ bytes_of (standing (rows_of c tn d) n)
    control_bytes h =
        let a = combination_range c tn n d none in
        let p : 4 + c % 4 ≡ c = omega (arith, a.1) in
        let q : d % 2 ≡ d = omega arith in
        ap bytes_of (cc (p, q)) ∙ ap bytes_of (all_timeslots tn d n c (omega arith))

    pub traffic_bytes : c ≤ 3 → bytes_of (standing (rows_of (1 + c / 2 % 2) (tn % 8) 0) n) ≡ bytes_of (standing (rows_of c tn d) n)
    traffic_bytes h =
        let a = combination_range c tn n d none in
        let e = a.2 in
        let p : 1 + c / 2 % 2 ≡ c = omega (arith, a.0, e) in
        let q : tn % 8 ≡ tn = omega arith in
        ap bytes_of (cc (p, q)) ∙ ap bytes_of (both_directions tn d n c (omega (arith, e)))

  by_answered : {A B : Type 0} (f : A → B) (r : Result A Refusal) → outcome_by f r ≡ answered f (outcome_of r)
  by_answered f (Ok a) = refl
  by_answered f (Err e) = refl

  pub mapped : (r : Result ℕ Refusal) → outcome_of r ≡ decide (map_causes c tn n d) (bytes_of (standing (rows_of c tn d) n))
      → outcome_by (λ b. standing_of (numbers_at b)) r ≡ map_of c tn n d
  unfolding map_of
  mapped r e =
      by_answered _ r ∙ (ap (answered (λ (b : ℕ). standing_of (numbers_at b))) e
      ∙ (sym (decide_answered (λ (b : ℕ). standing_of (numbers_at b)) (map_causes c tn n d) _) ∙ go (any_of (out_of_range c tn n d)) refl))
    where
      go : (b : Bool) → any_of (out_of_range c tn n d) ≡ b
          → decide (map_causes c tn n d) (standing_of (numbers_at (bytes_of (standing (rows_of c tn d) n)))) ≡ decide (map_causes c tn n d) (standing (rows_of c tn d) n)
      go true q = first _ _ _ q ∙ sym (first _ _ _ q)
      go false q = ap (decide (map_causes c tn n d)) (standing_back tn (other_ranges c tn n d q).0 d (other_ranges c tn n d q).2 n c)
