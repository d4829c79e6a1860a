-- Both sides of each border of paging, with the exact answers or refusals; proofs/Borders.antt computes them. Assumes nothing.
use Rattle.std.specs.Prelude.{ℕ, ◌≡◌, Bool, true, false, [], ◌∷◌, ◌++◌, map, replicate}
use Rattle.answers.specs.Outcome.{Outcome, refused, accepted, alone}
use Rattle.groups.specs.declared.PagingBlock.{PagingBlock}
use Rattle.groups.specs.Paging.{Common, common_in, paging_of}

-- K, whether a 5 is open, AG and P
abbrev pub given : ℕ → Bool → ℕ → ℕ → Common
given k combined ag p = record { K = k; combined = combined; AG = ag; P = p }

-- K common lines of 4 and 6, AG 0 and P 2: A is 9, n is 18
abbrev pub lines : ℕ → Common
lines k = given k false 0 2

-- a line of combination 5 and P 2, by AG: n is 6, 4 and 2
abbrev pub five : ℕ → Common
five ag = given 1 true ag 2

-- accepted, with TN, block and frame
abbrev pub to : ℕ → ℕ → ℕ → Outcome PagingBlock
to tn block frame = accepted (record { tn = tn; block = block; frame = frame })

-- an IMSI of three digits
abbrev pub page : Common → ℕ → ℕ → ℕ → ℕ → Outcome PagingBlock
page c x y z fn = paging_of c (x ∷ y ∷ z ∷ []) fn

pub record Borders : Type 0 where
  -- "I is the IMSI's last three digits as a number.": 3, 8 and 15 digits, 0 and 9
  pub imsi : (page (lines 1) 0 0 0 0 ≡ to 0 0 6) × (paging_of (lines 1) (replicate 5 9 ++ (0 ∷ 1 ∷ 7 ∷ [])) 0 ≡ to 0 8 97)
      × (paging_of (lines 1) (replicate 15 9) 0 ≡ to 0 0 57) × (paging_of (lines 1) (replicate 12 0 ++ (1 ∷ 2 ∷ 3 ∷ [])) 0 ≡ to 0 6 87)
  -- "3 .. an IMSI that isn't 3 to 15 digits, each 0 to 9"
  pub no_imsi : map (λ digits. paging_of (lines 1) digits 0) ([] ∷ replicate 2 0 ∷ replicate 16 0 ∷ (10 ∷ 0 ∷ 0 ∷ []) ∷ (0 ∷ 10 ∷ 0 ∷ []) ∷ (0 ∷ 0 ∷ 10 ∷ [])
      ∷ (10 ∷ replicate 14 0) ∷ [])
      ≡ refused (alone 3) ∷ refused (alone 3) ∷ refused (alone 3) ∷ refused (alone 3) ∷ refused (alone 3) ∷ refused (alone 3) ∷ refused (alone 3) ∷ []
  -- "FN is 0 to 2,715,647": "3 .. FN .. out of range"
  pub last_frame : page (lines 1) 0 0 0 2715647 ≡ to 0 0 6
  pub past_the_last : page (lines 1) 0 0 0 2715648 ≡ refused (alone 3)
  -- "2 .. AG or P out of range": AG 0 to 7, P 2 to 9
  pub parameters : map (λ c. page c 0 0 0 2715648) (given 1 false 7 2 ∷ given 1 false 8 2 ∷ given 1 false 0 1 ∷ given 1 false 0 9 ∷ given 1 false 0 10 ∷ [])
      ≡ refused (alone 3) ∷ refused (alone 2) ∷ refused (alone 2) ∷ refused (alone 3) ∷ refused (alone 2) ∷ []
  pub last_ag : (page (given 1 false 7 2) 0 0 0 0 ≡ to 0 7 42) × (page (given 1 false 7 9) 0 0 0 0 ≡ to 0 7 42)
  -- "8 common channel misplaced": a fifth line, a line beside a 5, a 5 with AG 3, and before 16
  pub misplaced : map (λ c. page c 0 0 0 0) (lines 5 ∷ given 2 true 0 2 ∷ five 3 ∷ given 0 true 3 2 ∷ [])
      ≡ refused (alone 8) ∷ refused (alone 8) ∷ refused (alone 8) ∷ refused (alone 8) ∷ []
  -- the lowest number is given
  pub lowest : page (given 5 false 8 10) 0 0 0 2715648 ∷ page (lines 5) 0 0 0 2715648 ∷ page (given 0 false 8 2) 0 0 0 0 ∷ [] ≡ refused (alone 2) ∷ refused (alone 3) ∷ refused (alone 2) ∷ []
  -- "16 paging with no common line open.", and 3 before it
  pub no_line : page (lines 0) 0 0 0 0 ∷ page (lines 0) 0 0 0 2715648 ∷ page (lines 0) 0 0 10 0 ∷ [] ≡ refused (alone 16) ∷ refused (alone 3) ∷ refused (alone 3) ∷ []
  -- "A = 9 − AG", "The TN is 2 × (r div n).", on the 4 and on each 6: the first and the last I of a TN
  pub on_four : (page (lines 4) 0 0 8 0 ≡ to 0 8 46) × (page (lines 4) 0 0 9 0 ≡ to 0 0 57) × (page (lines 4) 0 1 7 0 ≡ to 0 8 97)
  pub on_six : (page (lines 4) 0 1 8 0 ≡ to 2 0 6) × (page (lines 4) 0 3 5 0 ≡ to 2 8 97) × (page (lines 4) 0 3 6 0 ≡ to 4 0 6)
      × (page (lines 4) 0 5 4 0 ≡ to 6 0 6) × (page (lines 4) 0 7 1 0 ≡ to 6 8 97) × (page (lines 4) 0 7 2 0 ≡ to 0 0 6)
  -- "(3 − AG with a 5)"
  pub on_five : (page (five 0) 0 0 2 0 ≡ to 0 2 16) × (page (five 0) 0 0 3 0 ≡ to 0 0 57) × (page (five 0) 0 0 5 0 ≡ to 0 2 67) × (page (five 0) 0 0 6 0 ≡ to 0 0 6)
      × (page (five 1) 0 0 0 0 ≡ to 0 1 12) × (page (five 2) 0 0 0 0 ≡ to 0 2 16) × (page (five 2) 0 0 1 0 ≡ to 0 2 67)
  -- "the first frame at or after FN, past the turn to 0 if need be"
  pub at_or_after : (page (lines 1) 0 0 0 6 ≡ to 0 0 6) × (page (lines 1) 0 0 0 7 ≡ to 0 0 108) × (page (lines 1) 0 0 0 2715552 ≡ to 0 0 2715552) × (page (lines 1) 0 0 0 2715553 ≡ to 0 0 6)
  -- which combination the common line of a TN has: "4 and 5 need TN 0, 6 needs TN 2, 4 or 6"
  pub common_lines : common_in true 0 ∷ map (common_in false) (0 ∷ 2 ∷ 4 ∷ 6 ∷ []) ≡ 5 ∷ 4 ∷ 6 ∷ 6 ∷ 6 ∷ []
