-- Every burst that is built has its length, and every payload that is taken its count. Assumes nothing.
use Prim.Native.Nat.{ℕ}
use mathlib.Core.Path.{◌≡◌, refl, ap, ◌∙◌}
use mathlib.Core.List.{List, ◌∷◌}
use mathlib.Core.Option.{none}
use lib.ListN.{length}
use Rattle.answers.specs.Outcome.{Cause, decide}
use Rattle.layouts.specs.Layouts.{bits, normal, frequency_correction, synchronization, dummy, access}
use Rattle.layouts.specs.Rows.{Row, row_of, room, built, taken}
use Rattle.layouts.specs.Bursts.{Written, written, no_code, build_causes, take_causes, build_of, take_of, build_normal_of, take_normal_of}
use Rattle.layouts.specs.Claims.{Sizes, AllSizes}
use Rattle.layouts.proofs.Accepted.{accepted_shows}
use Rattle.layouts.proofs.Undo.{length_built, length_taken}

length_written : (lent answer : List ℕ) (cs : List Cause) (n : ℕ) → length answer ≡ n → (written lent (decide cs answer)).refusal ≡ none
    → length (written lent (decide cs answer)).bytes ≡ n
length_written lent answer cs n h e = ap (λ (w : Written). length w.bytes) (accepted_shows lent answer cs e).0 ∙ h

-- of any calls that write what is built of a row and what is taken from it
module _ (row : Row) (size count : ℕ) (long : length row ≡ size) (wide : room row ≡ count) (causes others : List ℕ → List ℕ → List Cause) where
  sizes : Sizes row size count (λ payload lent. written lent (decide (causes payload lent) (built row payload))) (λ burst lent. written lent (decide (others burst lent) (taken row burst)))
  sizes =
      record {
        bits = long;
        payload_bits = wide;
        burst = λ payload lent. length_written lent (built row payload) (causes payload lent) size (length_built row payload ∙ long);
        payload = λ burst lent. length_written lent (taken row burst) (others burst lent) count (length_taken row burst ∙ wide);
      }

-- with no other cause
pub plain : (row : Row) (size count : ℕ) → length row ≡ size → room row ≡ count → Sizes row size count (build_of row) (take_of row)
unfolding build_of take_of
plain row size count long wide = sizes row size count long wide (build_causes row) (take_causes row)

normal_sizes : (tsc : ℕ) → Sizes (row_of (normal tsc)) 148 116 (build_normal_of tsc) (take_normal_of tsc)
unfolding row_of room bits normal build_normal_of take_normal_of
normal_sizes tsc =
    sizes (row_of (normal tsc)) 148 116 refl refl (λ payload burst. no_code tsc ∷ build_causes (row_of (normal tsc)) payload burst)
    (λ burst payload. no_code tsc ∷ take_causes (row_of (normal tsc)) burst payload)

pub all_sizes : AllSizes
unfolding row_of room bits frequency_correction synchronization dummy access
all_sizes =
    record {
      normal = normal_sizes;
      synchronization = plain (row_of synchronization) 148 78 refl refl;
      access = plain (row_of access) 88 36 refl refl;
      frequency_correction = plain (row_of frequency_correction) 148 0 refl refl;
      dummy = plain (row_of dummy) 148 0 refl refl;
    }
