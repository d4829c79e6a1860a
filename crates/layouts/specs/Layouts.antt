-- Document 01, "Bursts (5.2)": the layouts of clause 5.2, field by field, the lowest bit number first. Assumes nothing.
use Rattle.std.specs.Prelude.{ℕ, zero, suc, ◌/◌, ◌%◌, ◌^◌, List, [], ◌∷◌, ◌++◌, take, replicate, get_or}

-- a field of a burst: bits of fixed states, or as many payload bits ("encrypted bits")
pub data Field : Type 0 where
  Fixed : List ℕ → Field
  Payload : ℕ → Field

-- "hexadecimal, first bit highest": a number in n bits
unfoldable pub bits : ℕ → ℕ → List ℕ
bits zero number = []
bits (suc n) number = number / 2 ^ n % 2 ∷ bits n number

-- "tail bits": (0, 0, 0)
abbrev pub tail : Field
tail = Fixed (0 ∷ 0 ∷ 0 ∷ [])

-- the training codes: "their first 16 bits, first bit highest, hexadecimal"
abbrev pub training_codes : List ℕ
training_codes = 0x25C2 ∷ 0x2DDE ∷ 0x43BA ∷ 0x47B4 ∷ 0x1AE4 ∷ 0x4EB0 ∷ 0xA7D8 ∷ 0xEF12 ∷ []

-- "Bits 16–25 repeat bits 0–9."
abbrev pub training : ℕ → List ℕ
training tsc = bits 16 (get_or training_codes tsc 0) ++ take 10 (bits 16 (get_or training_codes tsc 0))

-- 5.2.3: tail bits, encrypted bits e0 to e57, training sequence bits, encrypted bits e58 to e115, tail bits
unfoldable pub normal : ℕ → List Field
normal tsc = tail ∷ Payload 58 ∷ Fixed (training tsc) ∷ Payload 58 ∷ tail ∷ []

-- 5.2.4: tail bits, fixed bits (0, 0 .. 0), tail bits
unfoldable pub frequency_correction : List Field
frequency_correction = tail ∷ Fixed (replicate 142 0) ∷ tail ∷ []

-- 5.2.5: tail bits, encrypted bits e0 to e38, extended training sequence bits, encrypted bits e39 to e77, tail bits
unfoldable pub synchronization : List Field
synchronization = tail ∷ Payload 39 ∷ Fixed (bits 64 0xB962040F2D45761B) ∷ Payload 39 ∷ tail ∷ []

-- 5.2.6: tail bits, mixed bits ("FB76..2F and then bits 101010"), tail bits
unfoldable pub dummy : List Field
dummy = tail ∷ Fixed (bits 136 0xFB760A4E09101F1C5C5C574A3339E9F12F ++ (1 ∷ 0 ∷ 1 ∷ 0 ∷ 1 ∷ 0 ∷ [])) ∷ tail ∷ []

-- 5.2.7: extended tail bits, synch. sequence bits ("4B7F99AA3C and one 0 bit"), encrypted bits e0 to e35, tail bits
unfoldable pub access : List Field
access = Fixed (0 ∷ 0 ∷ 1 ∷ 1 ∷ 1 ∷ 0 ∷ 1 ∷ 0 ∷ []) ∷ Fixed (bits 40 0x4B7F99AA3C ++ (0 ∷ [])) ∷ Payload 36 ∷ tail ∷ []
