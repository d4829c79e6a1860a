-- What is claimed of the bursts beside the promises of the calls. Assumes nothing.
use Rattle.std.specs.Prelude.{ℕ, ◌+◌, ◌*◌, ◌^◌, ◌<◌, ◌≤◌, ◌≡◌, true, false, List, [], ◌∷◌, length, take, drop, get_or, Result, Ok}
use Rattle.std.proofs.Math.Option.{none, some}
use mathlib.Core.List.{Memᴰ}
use Rattle.answers.specs.Outcome.{Refused, Cause, any_of}
use Rattle.answers.specs.Claims.{Caused, NoCause}
use Rattle.answers.specs.declared.Refusal.{Refusal}
use Rattle.layouts.specs.Layouts.{training_codes, training, normal, frequency_correction, synchronization, dummy, access}
use Rattle.layouts.specs.Rows.{Row, row_of, room, built, taken, differs}
use Rattle.layouts.specs.Bursts.{Written, wrote, no_code, build_causes, take_causes, build_of, take_of, build_normal_of, take_normal_of, build_synchronization_of, take_synchronization_of, build_access_of, take_access_of}

-- ---- "burst to payload and back, each undo the other"

-- an accepted call
abbrev pub done : List ℕ → Written
done bytes = record { refusal = none; bytes = bytes }

-- what a call reads and what is lent to it
abbrev pub Call : Type 0
Call = List ℕ → List ℕ → Written

-- whatever was lent: the burst that build wrote is taken apart into the payload that it was built of, and the payload that take wrote is built
-- into the burst that it was taken from
pub record UndoEachOther (building taking : Call) : Type 0 where
  pub take_undoes_build : (payload burst lent : List ℕ) → (building payload burst).refusal ≡ none → length lent ≡ length payload
      → taking (building payload burst).bytes lent ≡ done payload
  pub build_undoes_take : (burst payload lent : List ℕ) → (taking burst payload).refusal ≡ none → length lent ≡ length burst
      → building (taking burst payload).bytes lent ≡ done burst

-- the same of the code, by its promises: r and s are the answers of two calls, one after the other, and the bytes are what those left
pub record UndoEachOtherByCode (building taking : Call) : Type 0 where
  pub take_undoes_build : (payload before burst lent after : List ℕ) (r s : Result Unit Refusal) → wrote r burst ≡ building payload before → wrote s after ≡ taking burst lent
      → r ≡ Ok tt → length lent ≡ length payload → (s ≡ Ok tt) × (after ≡ payload)
  pub build_undoes_take : (burst before payload lent after : List ℕ) (r s : Result Unit Refusal) → wrote r payload ≡ taking burst before → wrote s after ≡ building payload lent
      → r ≡ Ok tt → length lent ≡ length burst → (s ≡ Ok tt) × (after ≡ burst)

pub record RoundTrips : Type 0 where
  pub normal : (tsc : ℕ) → UndoEachOther (build_normal_of tsc) (take_normal_of tsc)
  pub synchronization : UndoEachOther build_synchronization_of take_synchronization_of
  pub access : UndoEachOther build_access_of take_access_of
  -- and so of the code, for any two calls of which it holds
  pub by_code : (building taking : Call) → UndoEachOther building taking → UndoEachOtherByCode building taking

-- ---- "15 a fixed bit differs, with its lowest bit number"

-- of a take that is refused with 15, and of one that is accepted
pub record FixedBits (row : Row) (taking : Call) : Type 0 where
  pub lowest : (burst payload : List ℕ) (r : Refused) → (taking burst payload).refusal ≡ some r → r.number ≡ 15
      → (n : ℕ) × (r.values ≡ n ∷ []) × (n < length row) × (differs row burst n ≡ true) × ((k : ℕ) → k < n → differs row burst k ≡ false)
  pub none_differs : (burst payload : List ℕ) → (taking burst payload).refusal ≡ none → (k : ℕ) → differs row burst k ≡ false

pub record AllFixedBits : Type 0 where
  pub normal : (tsc : ℕ) → FixedBits (row_of (normal tsc)) (take_normal_of tsc)
  pub synchronization : FixedBits (row_of synchronization) take_synchronization_of
  pub access : FixedBits (row_of access) take_access_of

-- ---- "The lowest number that applies is given, and only if its condition holds."

-- a call with these causes, which was lent these bytes and writes this answer, left w: refused, it had its cause, no lower number applied, and
-- no lent byte was written; accepted, it had no cause, and the answer is written
pub record FairCall (causes : List Cause) (lent answer : List ℕ) (w : Written) : Type 0 where
  pub caused : (r : Refused) → w.refusal ≡ some r → Caused causes r
  pub lowest : (r : Refused) → w.refusal ≡ some r → (c : Cause) → Memᴰ c causes → any_of c.conditions ≡ true → r.number ≤ c.refusal.number
  pub as_lent : (r : Refused) → w.refusal ≡ some r → w.bytes ≡ lent
  pub no_cause : w.refusal ≡ none → NoCause causes
  pub as_answered : w.refusal ≡ none → w.bytes ≡ answer

pub record FairCalls : Type 0 where
  pub of_build_normal : (tsc : ℕ) (payload burst : List ℕ)
      → FairCall (no_code tsc ∷ build_causes (row_of (normal tsc)) payload burst) burst (built (row_of (normal tsc)) payload) (build_normal_of tsc payload burst)
  pub of_take_normal : (tsc : ℕ) (burst payload : List ℕ)
      → FairCall (no_code tsc ∷ take_causes (row_of (normal tsc)) burst payload) payload (taken (row_of (normal tsc)) burst) (take_normal_of tsc burst payload)
  -- the other bursts
  pub of_build : (row : Row) (payload burst : List ℕ) → FairCall (build_causes row payload burst) burst (built row payload) (build_of row payload burst)
  pub of_take : (row : Row) (burst payload : List ℕ) → FairCall (take_causes row burst payload) payload (taken row burst) (take_of row burst payload)

-- ---- every burst has its length, and every payload its count

pub record Sizes (row : Row) (size count : ℕ) (building taking : Call) : Type 0 where
  pub bits : length row ≡ size
  pub payload_bits : room row ≡ count
  -- what an accepted call has written
  pub burst : (payload lent : List ℕ) → (building payload lent).refusal ≡ none → length (building payload lent).bytes ≡ size
  pub payload : (burst lent : List ℕ) → (taking burst lent).refusal ≡ none → length (taking burst lent).bytes ≡ count

-- "148 bits .. for normal (116 payload bits, by TSC) and synchronization (78); access has 88 bits (36). Frequency correction and dummy .."
pub record AllSizes : Type 0 where
  pub normal : (tsc : ℕ) → Sizes (row_of (normal tsc)) 148 116 (build_normal_of tsc) (take_normal_of tsc)
  pub synchronization : Sizes (row_of synchronization) 148 78 build_synchronization_of take_synchronization_of
  pub access : Sizes (row_of access) 88 36 build_access_of take_access_of
  pub frequency_correction : Sizes (row_of frequency_correction) 148 0 (build_of (row_of frequency_correction)) (take_of (row_of frequency_correction))
  pub dummy : Sizes (row_of dummy) 148 0 (build_of (row_of dummy)) (take_of (row_of dummy))

-- ---- the printed values

-- a list of bits as a number, "first bit highest"
unfoldable pub value : List ℕ → ℕ
value [] = 0
value (bit ∷ bits) = bit * 2 ^ length bits + value bits

-- n bits from bit number a on
abbrev pub from : ℕ → ℕ → List ℕ → List ℕ
from a n burst = take n (drop a burst)

-- what stands in every burst that is built, whatever its payload, by the bit numbers of clause 5.2
pub record Printed : Type 0 where
  pub training : (tsc : ℕ) (payload : List ℕ) → value (from 61 16 (built (row_of (normal tsc)) payload)) ≡ get_or training_codes tsc 0
  pub repeat : (tsc : ℕ) (payload : List ℕ) → from 77 10 (built (row_of (normal tsc)) payload) ≡ from 61 10 (built (row_of (normal tsc)) payload)
  pub extended_training : (payload : List ℕ) → value (from 42 64 (built (row_of synchronization) payload)) ≡ 0xB962040F2D45761B
  pub synch_sequence : (payload : List ℕ) → value (from 8 40 (built (row_of access) payload)) ≡ 0x4B7F99AA3C
  pub synch_last : (payload : List ℕ) → from 48 1 (built (row_of access) payload) ≡ 0 ∷ []
  pub mixed : value (from 3 136 (built (row_of dummy) [])) ≡ 0xFB760A4E09101F1C5C5C574A3339E9F12F
  pub mixed_last : from 139 6 (built (row_of dummy) []) ≡ 1 ∷ 0 ∷ 1 ∷ 0 ∷ 1 ∷ 0 ∷ []

-- "tail bits": (0, 0, 0) at both ends of every burst, but that an access burst begins with the "extended tail bits"
abbrev pub zeros : List ℕ
zeros = 0 ∷ 0 ∷ 0 ∷ []

pub record Tails : Type 0 where
  pub normal : (tsc : ℕ) (payload : List ℕ) → (from 0 3 (built (row_of (normal tsc)) payload) ≡ zeros) × (from 145 3 (built (row_of (normal tsc)) payload) ≡ zeros)
  pub synchronization : (payload : List ℕ) → (from 0 3 (built (row_of synchronization) payload) ≡ zeros) × (from 145 3 (built (row_of synchronization) payload) ≡ zeros)
  pub dummy : (from 0 3 (built (row_of dummy) []) ≡ zeros) × (from 145 3 (built (row_of dummy) []) ≡ zeros)
  pub access : (payload : List ℕ) → (from 0 8 (built (row_of access) payload) ≡ 0 ∷ 0 ∷ 1 ∷ 1 ∷ 1 ∷ 0 ∷ 1 ∷ 0 ∷ []) × (from 85 3 (built (row_of access) payload) ≡ zeros)

-- where the payload stands in every burst that is built, by the bit numbers of clause 5.2: "encrypted bits (e0 . e57)" in 3 to 60 and so on
pub record Places : Type 0 where
  pub normal : (tsc : ℕ) (payload : List ℕ) → length payload ≡ 116
      → (from 3 58 (built (row_of (normal tsc)) payload) ≡ from 0 58 payload) × (from 87 58 (built (row_of (normal tsc)) payload) ≡ from 58 58 payload)
  pub synchronization : (payload : List ℕ) → length payload ≡ 78
      → (from 3 39 (built (row_of synchronization) payload) ≡ from 0 39 payload) × (from 106 39 (built (row_of synchronization) payload) ≡ from 39 39 payload)
  pub access : (payload : List ℕ) → length payload ≡ 36 → from 49 36 (built (row_of access) payload) ≡ from 0 36 payload

-- the rows of the training sequence table of source document 001, clause 5.2.3, that are undamaged there
pub record StandardRows : Type 0 where
  pub row_0 : training 0 ≡ 0 ∷ 0 ∷ 1 ∷ 0 ∷ 0 ∷ 1 ∷ 0 ∷ 1 ∷ 1 ∷ 1 ∷ 0 ∷ 0 ∷ 0 ∷ 0 ∷ 1 ∷ 0 ∷ 0 ∷ 0 ∷ 1 ∷ 0 ∷ 0 ∷ 1 ∷ 0 ∷ 1 ∷ 1 ∷ 1 ∷ []
  pub row_1 : training 1 ≡ 0 ∷ 0 ∷ 1 ∷ 0 ∷ 1 ∷ 1 ∷ 0 ∷ 1 ∷ 1 ∷ 1 ∷ 0 ∷ 1 ∷ 1 ∷ 1 ∷ 1 ∷ 0 ∷ 0 ∷ 0 ∷ 1 ∷ 0 ∷ 1 ∷ 1 ∷ 0 ∷ 1 ∷ 1 ∷ 1 ∷ []
  pub row_2 : training 2 ≡ 0 ∷ 1 ∷ 0 ∷ 0 ∷ 0 ∷ 0 ∷ 1 ∷ 1 ∷ 1 ∷ 0 ∷ 1 ∷ 1 ∷ 1 ∷ 0 ∷ 1 ∷ 0 ∷ 0 ∷ 1 ∷ 0 ∷ 0 ∷ 0 ∷ 0 ∷ 1 ∷ 1 ∷ 1 ∷ 0 ∷ []
  pub row_4 : training 4 ≡ 0 ∷ 0 ∷ 0 ∷ 1 ∷ 1 ∷ 0 ∷ 1 ∷ 0 ∷ 1 ∷ 1 ∷ 1 ∷ 0 ∷ 0 ∷ 1 ∷ 0 ∷ 0 ∷ 0 ∷ 0 ∷ 0 ∷ 1 ∷ 1 ∷ 0 ∷ 1 ∷ 0 ∷ 1 ∷ 1 ∷ []
  pub row_5 : training 5 ≡ 0 ∷ 1 ∷ 0 ∷ 0 ∷ 1 ∷ 1 ∷ 1 ∷ 0 ∷ 1 ∷ 0 ∷ 1 ∷ 1 ∷ 0 ∷ 0 ∷ 0 ∷ 0 ∷ 0 ∷ 1 ∷ 0 ∷ 0 ∷ 1 ∷ 1 ∷ 1 ∷ 0 ∷ 1 ∷ 0 ∷ []
  pub row_7 : training 7 ≡ 1 ∷ 1 ∷ 1 ∷ 0 ∷ 1 ∷ 1 ∷ 1 ∷ 1 ∷ 0 ∷ 0 ∷ 0 ∷ 1 ∷ 0 ∷ 0 ∷ 1 ∷ 0 ∷ 1 ∷ 1 ∷ 1 ∷ 0 ∷ 1 ∷ 1 ∷ 1 ∷ 1 ∷ 0 ∷ 0 ∷ []
