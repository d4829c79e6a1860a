-- `field::first_other` meets its contract: the place that `position` finds is the first where the word's bit is another. Assumes nothing.
use Rattle.std.proofs.Common.{◌≡◌, ℕ, ◌-◌, ◌/◌, ◌%◌, ◌^◌, ◌<◌, ◌≤◌, List, length, get_or, false, not, eqb, map, ap, ◌∙◌, subst, refl, arith, rules, tests}
use Rattle.std.specs.Prelude.{Option, Some, None}
use Rattle.std.proofs.Math.Option.{some}
use Rattle.std.specs.List.{range_with_len, AllWithin, HoldsAt}
use Rattle.std.specs.Option.{MatchOption}
use Rattle.std.proofs.lemmas.Iterator.{IsFirst-from_position, YieldsList-from_range}
use Rattle.std.proofs.lemmas.List.FromFn.{length-range_with_len, get_or-range_with_len}
use lib.ListN.{length-map}
use borrow.Author.Tests.{eq-eqb, ne_eqb}
use Rattle.layouts.specs.Layouts.{bits}
use Rattle.layouts.specs.Rows.{differs}
use Rattle.layouts.proofs.Bits.{length_bits, bit_at}
use Rattle.bursts.specs.Helpers.{FirstWrong}
use Rattle.bursts.proofs.FieldRows.{states_at}
use Rattle.bursts.proofs.field.first_other.Goals as goal

module _ (word : ℕ) (s : List ℕ) where
  abbrev Same : ℕ → Type 0
  Same k = get_or s k 0 ≡ word / 2 ^ (length s - 1 - k) % 2

  abbrev places : List ℕ
  places = range_with_len 0 (length s)

  abbrev Differs : ℕ → Type 0
  Differs k = Same k → ⊥

  at_place : (P : ℕ → Type 0) (k : ℕ) → k < length s → HoldsAt P places k → P k
  at_place P k h p = subst P (get_or-range_with_len 0 (length s) k 0 h ∙ omega arith) (p 0)

  compared : (k : ℕ) → k < length s → differs (map some (bits (length s) word)) s k ≡ not (eqb (get_or s k 0) (word / 2 ^ (length s - 1 - k) % 2))
  compared k h =
      states_at (bits (length s) word) s k (omega (arith, h, length_bits (length s) word)) ∙ ap (λ (b : ℕ). not (eqb (get_or s k 0) b)) (bit_at (length s) word k h)

  alike : (n : ℕ) → n ≤ length s → AllWithin Same places 0 n → (k : ℕ) → k < n → differs (map some (bits (length s) word)) s k ≡ false
  alike n le all k h = compared k (omega arith) ∙ ap not (eq-eqb _ _ (at_place Same k (omega arith) (λ d. all k d (omega arith) h)))

  first_is : (r : Option ℕ) → MatchOption r (AllWithin Same places 0 (length places)) (λ i. (i < length places) × HoldsAt Differs places i × AllWithin Same places 0 i)
      → FirstWrong (map some (bits (length s) word)) s r
  first_is (Some i) h =
      let n = length-range_with_len 0 (length s) in
      let inside : i < length s = omega (arith, h.0, n) in (
        omega (arith, inside, length-map (bits (length s) word) some, length_bits (length s) word),
        compared i inside ∙ ap not (ne_eqb _ _ (at_place Differs i inside h.1)),
        alike i (omega arith) h.2,
      )
  first_is None h =
      let n = length-range_with_len 0 (length s) in
      λ k l. alike (length s) (omega arith) (λ i d a b. h i d a (omega (arith, b, n))) k (omega (arith, l, length-map (bits (length s) word) some, length_bits (length s) word))

pub returns : goal.returns
returns c =
    first_is c.args.word c.args.s.now _
    (IsFirst-from_position _ _ _ (Differs c.args.word c.args.s.now) (Same c.args.word c.args.s.now) c.position.ensures.ran (YieldsList-from_range 0 _ _ refl (omega arith))
    (λ x q k. search (rules, tests)) (λ x q k. search (rules, tests)))
