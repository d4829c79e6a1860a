-- The six combinations as rows: document 01, "From frame to logical channel", in its order. s is the subchannel, D downlink (0) and U
-- uplink (1). Assumes nothing.
use Rattle.std.specs.Prelude.{ℕ, zero, suc, ◌+◌, ◌-◌, ◌*◌, ◌/◌, ◌%◌, Bool, false, ◌||◌, cond, List, [], ◌∷◌, ◌++◌, map, eqb}
use Rattle.maps.specs.declared.Kind.TheVariants.{Tch, Sacch, Sdcch, Fcch, Sch, Bcch, Ccch, Rach}
use Rattle.maps.specs.Rows.{Row, row, numbered, each, from, four, single, later}

-- "a rule without D or U holds for both"; with them, D's rows or U's
abbrev pub directed : ℕ → List Row → List Row → List Row
directed zero down up = down
directed (suc d) down up = up

-- "h 0–11 and 13–24 are traffic, numbered k = 0 to 23"
abbrev pub traffic : List ℕ
traffic = from 0 12 ++ from 13 12

-- 1 (TCH/F, s = 0): "A burst has place k mod 4 of block k div 4, and place 4 + k mod 4 of block (k div 4 + 5) mod 6.
-- SACCH: place i at q = (12 + 13 × TN + 26 × i) mod 104."
unfoldable pub full_rate : ℕ → List Row
full_rate tn =
    numbered (λ k h. row Tch 0 (k / 4) (k % 4) 26 h ∷ row Tch 0 ((k / 4 + 5) % 6) (4 + k % 4) 26 h ∷ []) 0 traffic
    ++ map (λ i. row Sacch 0 0 i 104 ((12 + 13 * tn + 26 * i) % 104)) (from 0 4)

-- 2 (TCH/H, s = 0, 1): "k as above, s = k mod 2, j = k div 2; place j mod 2 of block j div 2, and place 2 + j mod 2 of block
-- (j div 2 + 5) mod 6. SACCH: q = (12 + 26 × (TN div 2) + 13 × s + 26 × i) mod 104."
unfoldable pub half_rate : ℕ → List Row
half_rate tn =
    numbered (λ k h. halves (k % 2) (k / 2) h) 0 traffic ++ (sacch 0 ++ sacch 1)
  where
    halves : ℕ → ℕ → ℕ → List Row
    halves s j h = row Tch s (j / 2) (j % 2) 26 h ∷ row Tch s ((j / 2 + 5) % 6) (2 + j % 2) 26 h ∷ []

    sacch : ℕ → List Row
    sacch s = map (λ i. row Sacch s 0 i 104 ((12 + 26 * (tn / 2) + 13 * s + 26 * i) % 104)) (from 0 4)

-- "FCCH f = 0, 10, 20, 30, 40; SCH f = 1, 11, 21, 31, 41 (blocks 0–4 each)"
abbrev pub fcch_sch : List Row
fcch_sch =
    numbered (single Fcch 51) 0 (0 ∷ 10 ∷ 20 ∷ 30 ∷ 40 ∷ [])
    ++ numbered (single Sch 51) 0 (1 ∷ 11 ∷ 21 ∷ 31 ∷ 41 ∷ [])

-- "BCCH 2..": "the only block of a channel is block 0"
abbrev pub bcch : List Row
bcch = four Bcch 0 51 0 2

-- CCCH blocks from 0 on at the frames of the list
abbrev pub ccch : List ℕ → List Row
ccch starts = numbered (four Ccch 0 51) 0 starts

-- RACH blocks from 0 on at the frames of the list
abbrev pub rach : List ℕ → List Row
rach frames = numbered (single Rach 51) 0 frames

-- "BCCH 2..; CCCH blocks 0–8 at 6.., 12.., 16.., 22.., 26.., 32.., 36.., 42.., 46..", as 4 and 6 have it
abbrev pub bcch_ccch : List Row
bcch_ccch = bcch ++ ccch (6 ∷ 12 ∷ 16 ∷ 22 ∷ 26 ∷ 32 ∷ 36 ∷ 42 ∷ 46 ∷ [])

-- 4 (FCCH + SCH + BCCH + CCCH): "U: RACH block f in every frame."
unfoldable pub uncombined : ℕ → List Row
uncombined d = directed d (fcch_sch ++ bcch_ccch) (rach (from 0 51))

-- 5 (combined, s = 0 to 3): "SDCCH at f = 22.., 26.., 32.., 36..; SACCH at g = 42.., 46.., 93.., 97.."
abbrev pub dedicated5 : List Row
dedicated5 =
    numbered (λ s a. four Sdcch s 51 0 a) 0 (22 ∷ 26 ∷ 32 ∷ 36 ∷ [])
    ++ numbered (λ s a. four Sacch s 102 0 a) 0 (42 ∷ 46 ∷ 93 ∷ 97 ∷ [])

-- "D: FCCH, SCH, BCCH as 4; CCCH blocks 0–2 at 6.., 12.., 16..; .. U: SDCCH and SACCH 15 frames later (mod 51, mod 102); RACH blocks 0–26
-- at f = 4, 5, 14–36, 45, 46."
unfoldable pub combined : ℕ → List Row
combined d =
    directed d (fcch_sch ++ (bcch ++ (ccch (6 ∷ 12 ∷ 16 ∷ []) ++ dedicated5)))
    (map later dedicated5 ++ rach (from 4 2 ++ (from 14 23 ++ from 45 2)))

-- 6 (BCCH + CCCH): "as 4 without FCCH and SCH."
unfoldable pub additional : ℕ → List Row
additional d = directed d bcch_ccch (rach (from 0 51))

-- 7 (SDCCH/8, s = 0 to 7): "D: SDCCH f = 4s..; SACCH g = 32 + 4s.. for s < 4, else 83 + 4(s − 4).."
abbrev pub dedicated7 : List Row
dedicated7 =
    each (λ s. four Sdcch s 51 0 (4 * s)) (from 0 8)
    ++ (each (λ s. four Sacch s 102 0 (32 + 4 * s)) (from 0 4)
    ++ each (λ s. four Sacch s 102 0 (83 + 4 * (s - 4))) (from 4 4))

-- "U: 15 frames later."
unfoldable pub sdcch8 : ℕ → List Row
sdcch8 d = directed d dedicated7 (map later dedicated7)

-- ---- the list of combinations

-- a combination: its number, the frames after which its map repeats, and its rows by TN and direction
pub record Combination : Type 0 where
  pub number : ℕ
  pub period : ℕ
  pub rows : ℕ → ℕ → List Row

abbrev pub combination : ℕ → ℕ → (ℕ → ℕ → List Row) → Combination
combination number period rows = record { number = number; period = period; rows = rows }

unfoldable pub combinations : List Combination
combinations =
    combination 1 104 (λ tn d. full_rate tn)
    ∷ combination 2 104 (λ tn d. half_rate tn)
    ∷ combination 4 51 (λ tn d. uncombined d)
    ∷ combination 5 102 (λ tn d. combined d)
    ∷ combination 6 51 (λ tn d. additional d)
    ∷ combination 7 102 (λ tn d. sdcch8 d)
    ∷ []

unfoldable pub among : List Combination → ℕ → Bool
among [] n = false
among (c ∷ cs) n = eqb n c.number || among cs n

-- n is the number of a combination
abbrev pub is_combination : ℕ → Bool
is_combination n = among combinations n

unfoldable pub rows_among : List Combination → ℕ → ℕ → ℕ → List Row
rows_among [] n tn d = []
rows_among (c ∷ cs) n tn d = cond (eqb n c.number) (c.rows tn d) (rows_among cs n tn d)

-- the rows of a combination in a timeslot and direction; none for a number that is no combination's
abbrev pub rows_of : ℕ → ℕ → ℕ → List Row
rows_of n tn d = rows_among combinations n tn d
