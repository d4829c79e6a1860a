-- A take that is refused with 15 tells the lowest bit number where a fixed bit differs, and one that is accepted had none. Assumes nothing.
use Prim.Native.Nat.{ℕ, ◌<◌}
use mathlib.Core.Path.{◌≡◌, refl, sym, ap, ◌∙◌}
use mathlib.Core.Bool.{Bool, true, false}
use mathlib.Core.List.{List, [], ◌∷◌}
use mathlib.Core.Option.{some}
use mathlib.Core.Logic.{⊎_elim}
use native.Mathlib.Decide.{dec_lt}
use native.Mathlib.Omega.{arith}
use lib.ListN.{length}
use Rattle.answers.specs.Outcome.{Refused, any_of, decide}
use Rattle.answers.proofs.Decide.{first, rest, accepts}
use Rattle.answers.proofs.Search.{First, first_or_none, least_first, any_at, any_none}
use Rattle.answers.proofs.Tests.{or_left, or_none}
use Rattle.layouts.specs.Layouts.{normal, synchronization, access}
use Rattle.layouts.specs.Rows.{Row, row_of, taken, differs}
use Rattle.layouts.specs.Bursts.{Written, written, malformed, fixed_bit, take_causes, take_of, take_normal_of}
use Rattle.layouts.specs.Claims.{FixedBits, AllFixedBits}
use Rattle.layouts.proofs.Accepted.{accepted_shows}
use Rattle.layouts.proofs.Undo.{differs_nowhere}
use Rattle.layouts.proofs.NormalCalls.{take_normal_refuses, take_normal_is}

-- what refusal 15 is to tell
abbrev Lowest : Row → List ℕ → Refused → Type 0
Lowest row burst r = (n : ℕ) × (r.values ≡ n ∷ []) × (n < length row) × (differs row burst n ≡ true) × ((k : ℕ) → k < n → differs row burst k ≡ false)

module _ (row : Row) (burst payload : List ℕ) where
  -- it does, where nothing is malformed
  fixed_bit_lowest : (r : Refused) → (written payload (decide (fixed_bit row burst ∷ []) (taken row burst))).refusal ≡ some r → Lowest row burst r
  unfolding any_of
  fixed_bit_lowest r e = ⊎_elim found clear (first_or_none (differs row burst) (length row))
    where
      found : First (differs row burst) (length row) → Lowest row burst r
      found w =
          let s = first (fixed_bit row burst) [] (taken row burst) (or_left false (any_at (differs row burst) (length row) w.place w.below w.passes)) in
          let l = least_first (differs row burst) (length row) 0 w in
          let q : r ≡ (fixed_bit row burst).refusal = cc in
          (w.place, cc, w.below, w.passes, w.none)

      clear : ((k : ℕ) → k < length row → differs row burst k ≡ false) → Lowest row burst r
      clear f =
          let s = rest (fixed_bit row burst) [] (taken row burst) (or_none (any_none (differs row burst) (length row) f) refl) ∙ accepts (taken row burst) in
          absurd (let z : ◌≡◌ {A = ℕ} 0 1 = cc in omega arith)

  lowest_told : (r : Refused) → (take_of row burst payload).refusal ≡ some r → r.number ≡ 15 → Lowest row burst r
  unfolding take_of
  lowest_told r e number = go (any_of (malformed row burst payload burst).conditions) refl
    where
      go : (t : Bool) → any_of (malformed row burst payload burst).conditions ≡ t → Lowest row burst r
      go true h =
          let s = first (malformed row burst payload burst) (fixed_bit row burst ∷ []) (taken row burst) h in
          let z : ◌≡◌ {A = ℕ} 14 15 = cc in absurd (omega arith)
      go false h =
          fixed_bit_lowest r (let s = rest (malformed row burst payload burst) (fixed_bit row burst ∷ []) (taken row burst) h in cc)

-- once for all rows
fixed_bits : (row : Row) → FixedBits row (take_of row)
unfolding take_of
fixed_bits row =
    record {
      lowest = lowest_told row;
      none_differs = λ burst payload e. differs_nowhere row burst (accepted_shows payload (taken row burst) (take_causes row burst payload) e).1.1.0.0;
    }

-- a TSC above 7 is refused with 3, and below 8 the call is that of the row
normal_fixed_bits : (tsc : ℕ) → FixedBits (row_of (normal tsc)) (take_normal_of tsc)
normal_fixed_bits tsc = go (dec_lt tsc 8)
  where
    go : Dec (tsc < 8) → FixedBits (row_of (normal tsc)) (take_normal_of tsc)
    go (yes h) =
        record {
          lowest = λ burst payload r e. (fixed_bits (row_of (normal tsc))).lowest burst payload r (ap (λ (w : Written). w.refusal) (sym (take_normal_is tsc h burst payload)) ∙ e);
          none_differs = λ burst payload e. (fixed_bits (row_of (normal tsc))).none_differs burst payload (ap (λ (w : Written). w.refusal) (sym (take_normal_is tsc h burst payload)) ∙ e);
        }
    go (no h) =
        record {
          lowest = λ burst payload r e n. let q = take_normal_refuses tsc (omega arith) burst payload in let z : ◌≡◌ {A = ℕ} 3 15 = cc in absurd (omega arith);
          none_differs = λ burst payload e. let q = take_normal_refuses tsc (omega arith) burst payload in absurd (let z : ◌≡◌ {A = ℕ} 0 1 = cc in omega arith);
        }

pub all_fixed_bits : AllFixedBits
all_fixed_bits = record { normal = normal_fixed_bits; synchronization = fixed_bits (row_of synchronization); access = fixed_bits (row_of access) }
