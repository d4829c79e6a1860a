-- Both sides of each border of hopping, with the exact answers or refusals; proofs/Borders.antt computes them. Assumes nothing.
use Rattle.std.specs.Prelude.{ℕ, ◌≡◌, true, false, List, [], ◌∷◌, ◌++◌, map, replicate}
use Rattle.std.specs.List.{range_with_len}
use Rattle.answers.specs.Outcome.{Outcome, refused, accepted, alone}
use Rattle.hops.specs.Hopping.{nbin, position_of, hop_of}
use Rattle.hops.specs.Clash.{Physical, clash}
use Rattle.hops.specs.declared.Selection.{Selection}
use Rattle.hops.specs.declared.Tuning.{Tuning}

-- the ARFCNs 1, 2, 3, .., so many of them
abbrev pub arfcns : ℕ → List ℕ
arfcns count = range_with_len 1 count

-- the mask with all 64 ones, and the one with the highest alone
abbrev pub all_ones : ℕ
all_ones = 18446744073709551615

abbrev pub highest_one : ℕ
highest_one = 9223372036854775808

-- HSN 0 and MAIO 0, by CA's length and the mask
abbrev pub masked : ℕ → ℕ → Outcome Selection
masked size mask = position_of size mask 0 0 0

-- CA and mask have 64 positions, and MAIO is 0
abbrev pub hopped : ℕ → ℕ → Outcome Selection
hopped hsn fn = position_of 64 all_ones hsn 0 fn

-- HSN 0 and MAIO 0 in a cell with CA 5, 10, 0, by mask and frame
abbrev pub with_zero : ℕ → ℕ → Outcome Tuning
with_zero mask fn = hop_of (5 ∷ 10 ∷ 0 ∷ []) mask 0 0 fn

-- an accepted position: MAI and the position; of the mask with all ones the two are equal
abbrev pub at : ℕ → ℕ → Outcome Selection
at mai ca_position = accepted (record { mai = mai; position = ca_position })

abbrev pub both : ℕ → Outcome Selection
both mai = at mai mai

-- an accepted hop: the ARFCN, MAI and the position
abbrev pub on : ℕ → ℕ → ℕ → Outcome Tuning
on arfcn mai ca_position = accepted (record { arfcn = arfcn; mai = mai; position = ca_position })

abbrev pub line : ℕ → ℕ → ℕ → ℕ → Physical
line tn mask hsn maio = record { tn = tn; mask = mask; hsn = hsn; maio = maio }

pub record Borders : Type 0 where
  -- "An ARFCN is a channel number, 0 to 1023. The cell allocation CA is 1 to 64 ARFCNs, strictly ascending."
  pub allocation : map (λ ca. hop_of ca 1 0 0 0) ((0 ∷ []) ∷ (1023 ∷ []) ∷ (1 ∷ 1022 ∷ 1023 ∷ []) ∷ arfcns 64 ∷ [])
      ≡ on 0 0 0 ∷ on 1023 0 0 ∷ on 1 0 0 ∷ on 1 0 0 ∷ []
  -- "1 CA isn't as above."
  pub no_allocation : map (λ ca. hop_of ca 1 0 0 0) ([] ∷ (1024 ∷ []) ∷ (10 ∷ 1024 ∷ []) ∷ (20 ∷ 20 ∷ []) ∷ (10 ∷ 30 ∷ 20 ∷ []) ∷ arfcns 65 ∷ [])
      ≡ refused (alone 1) ∷ refused (alone 1) ∷ refused (alone 1) ∷ refused (alone 1) ∷ refused (alone 1) ∷ refused (alone 1) ∷ []
  -- document 02, No. 3: "ARFCN 0 last, after all others in ascending order": behind one, behind the largest, behind 63 others
  pub zero_last : map (λ ca. hop_of ca 1 0 0 0) ((5 ∷ 0 ∷ []) ∷ (1023 ∷ 0 ∷ []) ∷ (arfcns 63 ++ (0 ∷ [])) ∷ []) ≡ on 5 0 0 ∷ on 1023 0 0 ∷ on 1 0 0 ∷ []
  -- and before others, twice, and behind what is out of order, no ARFCN, or 64 already
  pub zero_out_of_place : map (λ ca. hop_of ca 1 0 0 0) ((0 ∷ 5 ∷ []) ∷ (0 ∷ 1023 ∷ []) ∷ (0 ∷ 0 ∷ []) ∷ (5 ∷ 0 ∷ 7 ∷ []) ∷ (5 ∷ 0 ∷ 0 ∷ []) ∷ (7 ∷ 5 ∷ 0 ∷ []) ∷ (1024 ∷ 0 ∷ [])
      ∷ (arfcns 64 ++ (0 ∷ [])) ∷ [])
      ≡ replicate 8 (refused (alone 1))
  -- "and mask bits count in it": of CA 5, 10, 0 bit 2 stands for ARFCN 0, in the masks 7, 6 and 4, and mask 3 is without; of 1 to 63 and 0 bit 63 does
  pub zero_in_mask : map (with_zero 7) (0 ∷ 1 ∷ 2 ∷ []) ++ map (with_zero 6) (0 ∷ 1 ∷ []) ++ map (with_zero 4) (0 ∷ 1 ∷ []) ++ map (with_zero 3) (0 ∷ 1 ∷ 2 ∷ [])
      ≡ on 5 0 0 ∷ on 10 1 1 ∷ on 0 2 2 ∷ on 10 0 1 ∷ on 0 1 2 ∷ on 0 0 2 ∷ on 0 0 2 ∷ on 5 0 0 ∷ on 10 1 1 ∷ on 5 0 0 ∷ []
  pub zero_at_63 : hop_of (arfcns 63 ++ (0 ∷ [])) all_ones 0 0 63 ∷ hop_of (arfcns 63 ++ (0 ∷ [])) highest_one 0 0 0 ∷ [] ≡ on 0 63 63 ∷ on 0 0 63 ∷ []
  -- of `position`, which takes CA's length: 0 and 65, and before 3 to 5
  pub no_length : masked 0 1 ∷ masked 1 1 ∷ masked 64 1 ∷ masked 65 1 ∷ position_of 0 0 64 64 2715648 ∷ position_of 65 0 64 64 2715648 ∷ []
      ≡ refused (alone 1) ∷ at 0 0 ∷ at 0 0 ∷ refused (alone 1) ∷ refused (alone 1) ∷ refused (alone 1) ∷ []
  -- "HSN is 0 to 63", "FN is 0 to 2,715,647": "3 .. HSN, .. FN .. out of range"
  pub ranges : position_of 4 7 63 0 0 ∷ position_of 4 7 64 0 0 ∷ position_of 4 7 0 0 2715647 ∷ position_of 4 7 0 0 2715648 ∷ []
      ≡ at 0 0 ∷ refused (alone 3) ∷ at 2 2 ∷ refused (alone 3) ∷ []
  -- "A mobile allocation is a 64-bit mask; bit p (p = 0 is worth 1) stands for CA position p."
  pub mask : masked 1 1 ∷ masked 4 8 ∷ masked 64 highest_one ∷ [] ≡ at 0 0 ∷ at 0 3 ∷ at 0 63 ∷ []
  -- "4 mask zero, or a one at or above CA's length.": and above the 64 bits of a mask, at 2^64 and 2^64 + 1
  pub no_mask : masked 4 0 ∷ masked 4 16 ∷ masked 4 24 ∷ masked 4 highest_one ∷ masked 63 highest_one ∷ masked 64 18446744073709551616 ∷ masked 4 18446744073709551617 ∷ []
      ≡ refused (alone 4) ∷ refused (alone 4) ∷ refused (alone 4) ∷ refused (alone 4) ∷ refused (alone 4) ∷ refused (alone 4) ∷ refused (alone 4) ∷ []
  -- "N is the count of its ones, .. MAIO is 0 to N − 1."
  pub maio : position_of 4 7 0 2 0 ∷ position_of 4 8 0 0 0 ∷ position_of 64 all_ones 0 63 0 ∷ [] ≡ at 2 2 ∷ at 0 3 ∷ at 63 63 ∷ []
  -- "5 MAIO not below N."
  pub no_maio : position_of 4 7 0 3 0 ∷ position_of 4 8 0 1 0 ∷ position_of 64 all_ones 0 64 0 ∷ [] ≡ refused (alone 5) ∷ refused (alone 5) ∷ refused (alone 5) ∷ []
  -- "The lowest number that applies is given": 1, 3, 4 before those above them
  pub lowest_of_hop : hop_of [] 0 64 64 2715648 ∷ hop_of (10 ∷ []) 0 64 64 0 ∷ [] ≡ refused (alone 1) ∷ refused (alone 3) ∷ []
  pub lowest_of_position : position_of 4 0 0 64 2715648 ∷ position_of 4 16 0 1 0 ∷ [] ≡ refused (alone 3) ∷ refused (alone 4) ∷ []
  -- "HSN = 0: MAI = (FN + MAIO) mod N"
  pub cyclic : map (hopped 0) (0 ∷ 63 ∷ 64 ∷ 65 ∷ []) ≡ map both (0 ∷ 63 ∷ 0 ∷ 1 ∷ [])
  -- "Otherwise M = T2 + RNTABLE[(HSN xor (T1 mod 64)) + T3]": T1 of 0, 63, 64, 65 and 2047
  pub random : map (hopped 1) (0 ∷ 84863 ∷ 84864 ∷ 86190 ∷ 2715647 ∷ []) ≡ map both (34 ∷ 42 ∷ 34 ∷ 48 ∷ 42 ∷ [])
  pub random_63 : map (hopped 63) (0 ∷ 84863 ∷ 84864 ∷ 86190 ∷ 2715647 ∷ []) ≡ map both (43 ∷ 34 ∷ 43 ∷ 40 ∷ 34 ∷ [])
  -- "NBIN is the number of bits needed to write N": N before and at each power of two
  pub bits : map nbin (1 ∷ 2 ∷ 3 ∷ 4 ∷ 7 ∷ 8 ∷ 15 ∷ 16 ∷ 31 ∷ 32 ∷ 63 ∷ 64 ∷ []) ≡ 1 ∷ 2 ∷ 2 ∷ 3 ∷ 3 ∷ 4 ∷ 4 ∷ 5 ∷ 5 ∷ 6 ∷ 6 ∷ 7 ∷ []
  -- document 02, No. 2: "MAI and the CA position beside the ARFCN": the ones are at positions 1, 3 and 63 of CA 1, 2, 3, .., MAI 0, 1 and 2
  pub holes : map (hop_of (arfcns 64) 9223372036854775818 0 0) (0 ∷ 1 ∷ 2 ∷ 3 ∷ []) ≡ on 2 0 1 ∷ on 4 1 3 ∷ on 64 2 63 ∷ on 2 0 1 ∷ []
  pub entries : map (hop_of (10 ∷ 20 ∷ 30 ∷ 40 ∷ []) 10 0 1) (0 ∷ 1 ∷ []) ≡ on 40 1 3 ∷ on 20 0 1 ∷ []
  -- "Two lines clash if TN is equal, the masks share a one, and it isn't so that masks and HSN are equal and MAIO differ."
  pub clashes : clash (line 0 6 1 0) (line 0 6 1 0) ∷ clash (line 0 6 1 0) (line 0 6 2 1) ∷ clash (line 0 6 1 0) (line 0 4 1 1)
      ∷ clash (line 7 1 0 0) (line 7 all_ones 0 1) ∷ clash (line 7 highest_one 0 0) (line 7 all_ones 0 1) ∷ []
      ≡ true ∷ true ∷ true ∷ true ∷ true ∷ []
  pub no_clash : clash (line 0 6 1 0) (line 1 6 1 0) ∷ clash (line 0 6 1 0) (line 0 6 1 1) ∷ clash (line 0 6 1 0) (line 0 9 1 0)
      ∷ clash (line 0 0 1 0) (line 0 0 1 0) ∷ []
      ≡ false ∷ false ∷ false ∷ false ∷ []
