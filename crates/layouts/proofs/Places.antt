-- The payload of a burst that is built stands in the bit numbers that clause 5.2 gives it: laws over any fields, then the three layouts.
-- Assumes nothing.
use Prim.Native.Nat.{ℕ, zero, suc, ◌+◌, ◌≤◌}
use mathlib.Core.Path.{◌≡◌, refl, sym, ap, ◌∙◌}
use mathlib.Core.List.{List, [], ◌∷◌, ◌++◌, map}
use mathlib.Core.Option.{none, some}
use native.Mathlib.Omega.{arith}
use lib.ListN.{length, take, drop, replicate, length-drop}
use lib.Seq.{drop-drop}
use Rattle.layouts.specs.Layouts as layouts
use Rattle.layouts.specs.Layouts.{bits, training, normal, synchronization, access}
use Rattle.layouts.specs.Rows.{Row, row_of, built}
use Rattle.layouts.specs.Claims.{Places}

-- a field of n payload bits has the next n, and what follows is built of the others
payload_in : (n : ℕ) (rest : Row) (payload : List ℕ) → n ≤ length payload → take n (built (replicate n none ++ rest) payload) ≡ take n payload
unfolding built
payload_in zero rest payload h = refl
payload_in (suc n) rest [] h = absurd (omega arith)
payload_in (suc n) rest (e ∷ payload) h = ap (λ (l : List ℕ). e ∷ l) (payload_in n rest payload (omega arith))

after_payload : (n : ℕ) (rest : Row) (payload : List ℕ) → n ≤ length payload → drop n (built (replicate n none ++ rest) payload) ≡ built rest (drop n payload)
unfolding built
after_payload zero rest payload h = refl
after_payload (suc n) rest [] h = absurd (omega arith)
after_payload (suc n) rest (e ∷ payload) h = after_payload n rest payload (omega arith)

after_fixed : (states : List ℕ) (rest : Row) (payload : List ℕ) → drop (length states) (built (map some states ++ rest) payload) ≡ built rest payload
unfolding built
after_fixed [] rest payload = refl
after_fixed (s ∷ states) rest payload = after_fixed states rest payload

-- two fields of payload bits, with fixed bits between them
module _ (n m : ℕ) (states : List ℕ) (rest : Row) (payload : List ℕ) (h : n + m ≤ length payload) where
  abbrev both : List ℕ
  both = built (replicate n none ++ (map some states ++ (replicate m none ++ rest))) payload

  first_half : take n both ≡ take n payload
  first_half = payload_in n (map some states ++ (replicate m none ++ rest)) payload (omega arith)

  second_half : take m (drop (n + length states) both) ≡ take m (drop n payload)
  second_half =
      ap (take m) (sym (drop-drop (length states) n both) ∙ (ap (drop (length states)) (after_payload n _ payload (omega arith)) ∙ after_fixed states (replicate m none ++ rest) (drop n payload)))
      ∙ payload_in m rest (drop n payload) (simp length-drop (omega arith))

pub places : Places
unfolding row_of built normal synchronization access bits
places =
    record {
      normal = λ tsc payload h. (first_half 58 58 (training tsc) (row_of (layouts.tail ∷ [])) payload (omega arith), second_half 58 58 (training tsc) (row_of (layouts.tail ∷ [])) payload (omega arith));
      synchronization = λ payload h. (
        first_half 39 39 (bits 64 0xB962040F2D45761B) (row_of (layouts.tail ∷ [])) payload (omega arith),
        second_half 39 39 (bits 64 0xB962040F2D45761B) (row_of (layouts.tail ∷ [])) payload (omega arith),
      );
      access = λ payload h. payload_in 36 (row_of (layouts.tail ∷ [])) payload (omega arith);
    }
