-- Both sides of each border of the frame map, with the exact answers or refusals; proofs/Borders.antt computes them. Assumes nothing.
use Rattle.std.specs.Prelude.{ℕ, ◌≡◌, List, [], ◌∷◌, map}
use Rattle.answers.specs.Outcome.{Outcome, refused, accepted, alone}
use Rattle.maps.specs.declared.Kind.TheVariants.{Tch, Sacch, Sdcch, Fcch, Sch, Bcch, Ccch, Rach}
use Rattle.maps.specs.Channels.{Standing, kind_number, at}
use Rattle.maps.specs.Map.{map_of}
use Rattle.maps.specs.Numbers.{Numbers, numbers_of}

-- TN 0, by the combination, the direction and FN
abbrev pub down : ℕ → ℕ → Outcome (List Standing)
down combination fn = map_of combination 0 fn 0

abbrev pub up : ℕ → ℕ → Outcome (List Standing)
up combination fn = map_of combination 0 fn 1

-- refused with 3; idle; one burst
abbrev pub out : Outcome (List Standing)
out = refused (alone 3)

abbrev pub idle : Outcome (List Standing)
idle = accepted []

abbrev pub one : Standing → Outcome (List Standing)
one x = accepted (x ∷ [])

abbrev pub numbers : ℕ → ℕ → ℕ → ℕ → ℕ → ℕ → ℕ → ℕ → Numbers
numbers refusal channel subchannel blocks block place block2 place2 =
    record { refusal = refusal; channel = channel; subchannel = subchannel; blocks = blocks; block = block; place = place; block2 = block2; place2 = place2 }

pub record Borders : Type 0 where
  -- "combinations other than the six below" are left out: 0 to 8 in FN 25
  pub combinations : map (λ c. down c 25) (0 ∷ 1 ∷ 2 ∷ 3 ∷ 4 ∷ 5 ∷ 6 ∷ 7 ∷ 8 ∷ [])
      ≡ out ∷ idle ∷ one (at Sacch 1 0 0) ∷ out ∷ one (at Ccch 0 3 3) ∷ one (at Sdcch 0 0 3) ∷ one (at Ccch 0 3 3) ∷ one (at Sdcch 6 0 1) ∷ out ∷ []
  -- "TN, the timeslot, is 0 to 7. D is downlink, U uplink.", "FN is 0 to 2,715,647": "3 .. TN, .. FN, direction (0 D, 1 U) .. out of range"
  pub timeslots : map_of 4 7 0 0 ∷ map_of 4 8 0 0 ∷ [] ≡ one (at Fcch 0 0 0) ∷ out ∷ []
  pub frames : down 4 0 ∷ down 4 2715647 ∷ down 4 2715648 ∷ [] ≡ one (at Fcch 0 0 0) ∷ idle ∷ out ∷ []
  pub directions : map (map_of 4 0 0) (0 ∷ 1 ∷ 2 ∷ []) ≡ one (at Fcch 0 0 0) ∷ one (at Rach 0 0 0) ∷ out ∷ []
  -- 1: "A burst has place k mod 4 of block k div 4, and place 4 + k mod 4 of block (k div 4 + 5) mod 6. SACCH: place i at q = (12 + 13 × TN + 26 × i) mod 104."
  pub full_rate : map (down 1) (0 ∷ 11 ∷ 12 ∷ 13 ∷ 24 ∷ 90 ∷ [])
      ≡ accepted (at Tch 0 0 0 ∷ at Tch 0 5 4 ∷ []) ∷ accepted (at Tch 0 2 3 ∷ at Tch 0 1 7 ∷ []) ∷ one (at Sacch 0 0 0)
      ∷ accepted (at Tch 0 3 0 ∷ at Tch 0 2 4 ∷ []) ∷ accepted (at Tch 0 5 3 ∷ at Tch 0 4 7 ∷ []) ∷ one (at Sacch 0 0 3) ∷ []
  -- 2: "place j mod 2 of block j div 2, and place 2 + j mod 2 of block (j div 2 + 5) mod 6", s = 0 and s = 1
  pub half_rate : map (down 2) (0 ∷ 1 ∷ 12 ∷ 24 ∷ 25 ∷ 103 ∷ [])
      ≡ accepted (at Tch 0 0 0 ∷ at Tch 0 5 2 ∷ []) ∷ accepted (at Tch 1 0 0 ∷ at Tch 1 5 2 ∷ []) ∷ one (at Sacch 0 0 0)
      ∷ accepted (at Tch 1 5 1 ∷ at Tch 1 4 3 ∷ []) ∷ one (at Sacch 1 0 0) ∷ one (at Sacch 1 0 3) ∷ []
  -- 5: "SDCCH at f = 22.., 26.., 32.., 36..", s = 0 to 3, and what stands before and after; in U 15 frames later
  pub combined : map (down 5) (21 ∷ 22 ∷ 25 ∷ 26 ∷ 29 ∷ 30 ∷ 32 ∷ 39 ∷ 40 ∷ 50 ∷ [])
      ≡ one (at Sch 0 2 0) ∷ one (at Sdcch 0 0 0) ∷ one (at Sdcch 0 0 3) ∷ one (at Sdcch 1 0 0) ∷ one (at Sdcch 1 0 3) ∷ one (at Fcch 0 3 0)
      ∷ one (at Sdcch 2 0 0) ∷ one (at Sdcch 3 0 3) ∷ one (at Fcch 0 4 0) ∷ idle ∷ []
  pub combined_up : map (up 5) (36 ∷ 37 ∷ 40 ∷ 41 ∷ 44 ∷ 45 ∷ [])
      ≡ one (at Rach 0 24 0) ∷ one (at Sdcch 0 0 0) ∷ one (at Sdcch 0 0 3) ∷ one (at Sdcch 1 0 0) ∷ one (at Sdcch 1 0 3) ∷ one (at Rach 0 25 0) ∷ []
  -- 7: "SDCCH f = 4s..; SACCH g = 32 + 4s.. for s < 4, else 83 + 4(s − 4)..", s = 0 to 7, and the idle frames; in U 15 frames later
  pub dedicated : map (down 7) (0 ∷ 3 ∷ 4 ∷ 31 ∷ 32 ∷ 47 ∷ 48 ∷ 50 ∷ 51 ∷ 83 ∷ 98 ∷ 99 ∷ 102 ∷ [])
      ≡ one (at Sdcch 0 0 0) ∷ one (at Sdcch 0 0 3) ∷ one (at Sdcch 1 0 0) ∷ one (at Sdcch 7 0 3) ∷ one (at Sacch 0 0 0) ∷ one (at Sacch 3 0 3) ∷ idle ∷ idle
      ∷ one (at Sdcch 0 0 0) ∷ one (at Sacch 4 0 0) ∷ one (at Sacch 7 0 3) ∷ idle ∷ one (at Sdcch 0 0 0) ∷ []
  pub dedicated_up : map (up 7) (14 ∷ 15 ∷ 46 ∷ 47 ∷ [])
      ≡ idle ∷ one (at Sdcch 0 0 0) ∷ one (at Sdcch 7 0 3) ∷ one (at Sacch 0 0 0) ∷ []
  -- the channels' numbers in include/tdma.h, and the answer in numbers: refused, idle, one block, two blocks
  pub kinds : map kind_number (Tch ∷ Sacch ∷ Sdcch ∷ Fcch ∷ Sch ∷ Bcch ∷ Ccch ∷ Rach ∷ []) ≡ 1 ∷ 2 ∷ 3 ∷ 4 ∷ 5 ∷ 6 ∷ 7 ∷ 8 ∷ []
  pub in_numbers : map numbers_of (down 3 0 ∷ down 7 48 ∷ down 7 98 ∷ down 2 24 ∷ [])
      ≡ numbers 3 0 0 0 0 0 0 0 ∷ numbers 0 0 0 0 0 0 0 0 ∷ numbers 0 2 7 1 0 3 0 0 ∷ numbers 0 1 1 2 5 1 4 3 ∷ []
