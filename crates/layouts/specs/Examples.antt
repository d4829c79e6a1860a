-- Calls with their exact answers, on both sides of each border: bursts that are accepted and refused. proofs/Examples.antt computes them.
-- Assumes nothing.
use Rattle.std.specs.Prelude.{ℕ, ◌≡◌, List, [], ◌∷◌, ◌++◌, replicate}
use Rattle.std.proofs.Math.Option.{none, some}
use Rattle.layouts.specs.Bursts.{Written, build_normal_of, take_normal_of, build_access_of, take_access_of, build_frequency_correction_of}
use Rattle.layouts.specs.Claims.{done}

-- so many bytes that are all the same
abbrev pub all : ℕ → ℕ → List ℕ
all byte n = replicate n byte

-- a refused call, which writes no lent byte
abbrev pub refused_with : ℕ → List ℕ → List ℕ → Written
refused_with number values lent = record { refusal = some (record { number = number; values = values }); bytes = lent }

pub record CallExamples : Type 0 where
  -- whatever was lent, all 0
  pub frequency_correction : build_frequency_correction_of (all 1 148) ≡ done (all 0 148)
  -- "TSC (training code) 0–7", "3 .. TSC .. out of range": TSC 7 and 8; 3 comes before 14
  pub code_7 : (build_normal_of 7 (all 0 116) (all 1 148)).refusal ≡ none
  pub code_8 : build_normal_of 8 [] (all 1 148) ≡ refused_with 3 [] (all 1 148)
  pub take_code_8 : take_normal_of 8 [] (all 1 116) ≡ refused_with 3 [] (all 1 116)
  -- "14 .. a burst or payload, read or to be written, of wrong length, or one that is read with a byte above 1": a payload of 35 and of 37 bits, a
  -- burst of 87 and of 89, and a byte above 1 at either end
  pub short_payload : build_access_of (all 0 35) (all 1 88) ≡ refused_with 14 [] (all 1 88)
  pub long_payload : build_access_of (all 0 37) (all 1 88) ≡ refused_with 14 [] (all 1 88)
  pub short_burst : build_access_of (all 0 36) (all 1 87) ≡ refused_with 14 [] (all 1 87)
  pub long_burst : build_access_of (all 0 36) (all 1 89) ≡ refused_with 14 [] (all 1 89)
  pub first_byte : build_access_of (2 ∷ all 1 35) (all 1 88) ≡ refused_with 14 [] (all 1 88)
  pub last_byte : build_access_of (all 1 35 ++ (2 ∷ [])) (all 1 88) ≡ refused_with 14 [] (all 1 88)
  -- "15 a fixed bit differs, with its lowest bit number": where all is 0, bit 2 is the first that differs; 14 comes before 15
  pub lowest_bit : take_access_of (all 0 88) (all 1 36) ≡ refused_with 15 (2 ∷ []) (all 1 36)
  pub short_and_wrong : take_access_of (all 0 87) (all 1 36) ≡ refused_with 14 [] (all 1 36)
  -- a burst that was built is accepted, and its payload written
  pub there_and_back : take_access_of (build_access_of (all 1 36) (all 0 88)).bytes (all 0 36) ≡ done (all 1 36)
