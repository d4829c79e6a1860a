-- Both sides of each border of the bursts' calls, beside those of Examples.antt, with the exact answers or refusals and the lent bytes;
-- proofs/Borders.antt computes them. Assumes nothing.
use Rattle.std.specs.Prelude.{ℕ, ◌≡◌, List, [], ◌∷◌, ◌++◌, map, set}
use Rattle.std.proofs.Math.Option.{Option, none, some}
use Rattle.answers.specs.Outcome.{Refused, alone}
use Rattle.layouts.specs.Layouts.{training}
use Rattle.layouts.specs.Bursts.{Written, build_normal_of, take_normal_of, build_synchronization_of, take_synchronization_of, build_access_of, take_access_of, build_frequency_correction_of, build_dummy_of}
use Rattle.layouts.specs.Claims.{done, from, value}
use Rattle.layouts.specs.Examples.{all, refused_with}

-- the refusals of calls, if they are refused
abbrev pub refusals : List Written → List (Option Refused)
refusals calls = map (λ w. w.refusal) calls

-- refused with 15 and the bit number
abbrev pub bit : ℕ → Option Refused
bit n = some (record { number = 15; values = n ∷ [] })

-- calls with a length one too short, right, and one too long
abbrev pub one_length : List (Option Refused)
one_length = some (alone 14) ∷ none ∷ some (alone 14) ∷ []

-- calls with a byte 0, 1 and 2
abbrev pub bits_only : List (Option Refused)
bits_only = none ∷ none ∷ some (alone 14) ∷ []

-- the bursts with a payload of zeros, and with TSC 0
abbrev pub normal_burst : List ℕ
normal_burst = (build_normal_of 0 (all 0 116) (all 0 148)).bytes

abbrev pub synchronization_burst : List ℕ
synchronization_burst = (build_synchronization_of (all 0 78) (all 0 148)).bytes

abbrev pub access_burst : List ℕ
access_burst = (build_access_of (all 0 36) (all 0 88)).bytes

-- take of these, with another byte at one bit number
abbrev pub normal_with : ℕ → ℕ → Written
normal_with byte k = take_normal_of 0 (set normal_burst k byte) (all 0 116)

abbrev pub synchronization_with : ℕ → ℕ → Written
synchronization_with byte k = take_synchronization_of (set synchronization_burst k byte) (all 0 78)

abbrev pub access_with : ℕ → ℕ → Written
access_with byte k = take_access_of (set access_burst k byte) (all 0 36)

pub record Borders : Type 0 where
  -- "TSC (training code) 0–7": the other side of 8
  pub take_code_7 : take_normal_of 7 (build_normal_of 7 (all 1 116) (all 0 148)).bytes (all 0 116) ≡ done (all 1 116)
  -- "their first 16 bits, first bit highest, hexadecimal", of bursts that are built
  pub first_bits : map (λ tsc. value (from 61 16 (build_normal_of tsc (all 0 116) (all 0 148)).bytes)) (0 ∷ 1 ∷ 2 ∷ 3 ∷ 4 ∷ 5 ∷ 6 ∷ 7 ∷ [])
      ≡ 0x25C2 ∷ 0x2DDE ∷ 0x43BA ∷ 0x47B4 ∷ 0x1AE4 ∷ 0x4EB0 ∷ 0xA7D8 ∷ 0xEF12 ∷ []
  -- "Bits 16–25 repeat bits 0–9.": the two training codes that are damaged in source document 001
  pub training_3 : training 3 ≡ 0 ∷ 1 ∷ 0 ∷ 0 ∷ 0 ∷ 1 ∷ 1 ∷ 1 ∷ 1 ∷ 0 ∷ 1 ∷ 1 ∷ 0 ∷ 1 ∷ 0 ∷ 0 ∷ 0 ∷ 1 ∷ 0 ∷ 0 ∷ 0 ∷ 1 ∷ 1 ∷ 1 ∷ 1 ∷ 0 ∷ []
  pub training_6 : training 6 ≡ 1 ∷ 0 ∷ 1 ∷ 0 ∷ 0 ∷ 1 ∷ 1 ∷ 1 ∷ 1 ∷ 1 ∷ 0 ∷ 1 ∷ 1 ∷ 0 ∷ 0 ∷ 0 ∷ 1 ∷ 0 ∷ 1 ∷ 0 ∷ 0 ∷ 1 ∷ 1 ∷ 1 ∷ 1 ∷ 1 ∷ []
  -- "14 .. a burst or payload, read or to be written, of wrong length": the payload of 116, 78 and 36 bits, read and to be written ..
  pub payload_read : refusals (map (λ n. build_normal_of 0 (all 0 n) (all 1 148)) (115 ∷ 116 ∷ 117 ∷ [])) ++ refusals (map (λ n. build_synchronization_of (all 0 n) (all 1 148)) (77 ∷ 78 ∷ 79 ∷ []))
      ++ refusals (map (λ n. build_access_of (all 0 n) (all 1 88)) (35 ∷ 36 ∷ 37 ∷ []))
      ≡ one_length ++ one_length ++ one_length
  pub payload_written : refusals (map (λ n. take_normal_of 0 normal_burst (all 1 n)) (115 ∷ 116 ∷ 117 ∷ [])) ++ refusals (map (λ n. take_synchronization_of synchronization_burst (all 1 n)) (77 ∷ 78 ∷ 79 ∷ []))
      ++ refusals (map (λ n. take_access_of access_burst (all 1 n)) (35 ∷ 36 ∷ 37 ∷ []))
      ≡ one_length ++ one_length ++ one_length
  -- .. and the burst of 148 and 88
  pub burst_written : refusals (map (λ n. build_normal_of 0 (all 0 116) (all 1 n)) (147 ∷ 148 ∷ 149 ∷ [])) ++ refusals (map (λ n. build_synchronization_of (all 0 78) (all 1 n)) (147 ∷ 148 ∷ 149 ∷ []))
      ++ refusals (map (λ n. build_access_of (all 0 36) (all 1 n)) (87 ∷ 88 ∷ 89 ∷ []))
      ++ refusals (map (λ n. build_frequency_correction_of (all 1 n)) (147 ∷ 148 ∷ 149 ∷ [])) ++ refusals (map (λ n. build_dummy_of (all 1 n)) (147 ∷ 148 ∷ 149 ∷ []))
      ≡ one_length ++ one_length ++ one_length ++ one_length ++ one_length
  pub burst_read : refusals (take_normal_of 0 (from 0 147 normal_burst) (all 1 116) ∷ take_normal_of 0 normal_burst (all 1 116) ∷ take_normal_of 0 (normal_burst ++ (0 ∷ [])) (all 1 116) ∷ [])
      ++ refusals (take_access_of (from 0 87 access_burst) (all 1 36) ∷ take_access_of access_burst (all 1 36) ∷ take_access_of (access_burst ++ (0 ∷ [])) (all 1 36) ∷ [])
      ≡ one_length ++ one_length
  -- "or one that is read with a byte above 1": the first and the last of a payload, and of a burst; what is lent to be written may have any
  pub payload_bytes : refusals (map (λ x. build_access_of (x ∷ all 0 35) (all 255 88)) (0 ∷ 1 ∷ 2 ∷ [])) ++ refusals (map (λ x. build_access_of (all 0 35 ++ (x ∷ [])) (all 255 88)) (0 ∷ 1 ∷ 2 ∷ []))
      ≡ bits_only ++ bits_only
  pub burst_bytes : refusals (map (λ x. access_with x 49) (0 ∷ 1 ∷ 2 ∷ [])) ++ refusals (access_with 2 0 ∷ access_with 2 87 ∷ []) ≡ bits_only ++ (some (alone 14) ∷ some (alone 14) ∷ [])
  -- a refused call writes no byte
  pub byte_of_2 : take_access_of (all 2 88) (all 1 36) ≡ refused_with 14 [] (all 1 36)
  -- the bit numbers of clause 5.2, on both sides of each field's border: tail bits to 2 and from 145 on, encrypted bits 3 to 60 and 87 to 144,
  -- training sequence bits 61 to 86
  pub normal_bits : refusals (map (normal_with 1) (0 ∷ 2 ∷ 3 ∷ 60 ∷ 61 ∷ 87 ∷ 144 ∷ 145 ∷ 147 ∷ [])) ++ refusals (normal_with 0 86 ∷ [])
      ≡ bit 0 ∷ bit 2 ∷ none ∷ none ∷ bit 61 ∷ none ∷ none ∷ bit 145 ∷ bit 147 ∷ bit 86 ∷ []
  -- encrypted bits 3 to 41 and 106 to 144, extended training sequence bits 42 to 105
  pub synchronization_bits : refusals (map (synchronization_with 1) (0 ∷ 2 ∷ 3 ∷ 41 ∷ 106 ∷ 144 ∷ 145 ∷ 147 ∷ [])) ++ refusals (map (synchronization_with 0) (42 ∷ 105 ∷ []))
      ≡ bit 0 ∷ bit 2 ∷ none ∷ none ∷ none ∷ none ∷ bit 145 ∷ bit 147 ∷ bit 42 ∷ bit 105 ∷ []
  -- extended tail bits 0 to 7, synch. sequence bits 8 to 48, encrypted bits 49 to 84, tail bits 85 to 87
  pub access_bits : refusals (map (access_with 1) (0 ∷ 7 ∷ 8 ∷ 48 ∷ 49 ∷ 84 ∷ 85 ∷ 87 ∷ [])) ≡ bit 0 ∷ bit 7 ∷ bit 8 ∷ bit 48 ∷ none ∷ none ∷ bit 85 ∷ bit 87 ∷ []
