-- What `any_line` finds, where the closure computes a test; and where C0 is sought. Assumes nothing.
use Prim.Native.Nat.{ℕ, ◌^◌, ◌<◌, min}
use mathlib.Core.Path.{◌≡◌, refl, sym, ◌∙◌}
use mathlib.Core.Bool.{Bool, true, false, ◌&&◌}
use mathlib.Core.Logic.{⊎_elim}
use native.Mathlib.Decide.{dec_lt}
use native.Mathlib.Omega.{arith}
use lib.Dec.{eqb}
use lib.ListN.{get_or}
use Rattle.answers.specs.Search.{any_below}
use Rattle.answers.proofs.Search.{First, first_or_none, any_at, any_none}
use Rattle.answers.proofs.Tests.{and_left}
use Rattle.hops.specs.Masks.{contains}
use Rattle.hops.proofs.Bits.{contains_bit, bit_past}
use Rattle.rules.specs.State.{Cell, LineState, line_at, values_of}
use Rattle.rules.specs.declared.Values.{Values}
use Rattle.rules.specs.Calls.{any_line, has_c0}
use Rattle.placing.specs.Helpers.{Finds}

pub any_found : {c : Cell} {Answers : Values → Bool → Type 0} (test : LineState → Bool) (found : Bool) → Finds c Answers found
    → ((l : LineState) (b : Bool) → Answers (values_of l) b → b ≡ test l) → found ≡ any_line c test
any_found {c} test true f computes = let m = f.some_line refl in sym (any_at (λ k. test (line_at c k)) 64 m.0 m.1 (sym (computes _ true m.2)))
any_found {c} test false f computes = sym (any_none (λ k. test (line_at c k)) 64 (λ k h. sym (computes _ false (f.no_line refl k h))))

-- a mask of 64 bits has no one past them, however long CA is said to be
pub clipped : (c : Cell) (mask n : ℕ) → mask < 2 ^ 64 → n ≡ min c.size 64 → any_below (λ p. contains mask p && eqb (get_or c.ca p 0) c.c0) n ≡ has_c0 c mask
clipped c mask n h e = ⊎_elim (λ w. any_at test n w.place (below w) w.passes ∙ sym (any_at test c.size w.place w.below w.passes))
    (λ f. any_none test n (λ k l. f k (omega (arith, l, e))) ∙ sym (any_none test c.size f)) (first_or_none test c.size)
  where
    test : ℕ → Bool
    test p = contains mask p && eqb (get_or c.ca p 0) c.c0

    below : (w : First test c.size) → w.place < n
    below w = go (dec_lt w.place 64)
      where
        go : Dec (w.place < 64) → w.place < n
        go (yes l) = let b = w.below in omega (arith, l, e, b)
        go (no l) = absurd (let o = contains_bit mask w.place (and_left (contains mask w.place) _ w.passes) in let z = bit_past mask w.place h (omega arith) in omega (arith, o, z))
