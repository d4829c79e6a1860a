-- What is claimed of the frame map beside the promises of its calls. Assumes nothing.
use Rattle.std.specs.Prelude.{ℕ, suc, ◌+◌, ◌-◌, ◌*◌, ◌/◌, ◌%◌, ◌<◌, ◌≡◌, Bool, true, not, ◌||◌, cond, List, [], ◌∷◌, ◌++◌, map, ltb, eqb}
use mathlib.Core.List.{Memᴰ}
use Rattle.answers.specs.Claims.{FairAnswer}
use Rattle.maps.specs.declared.Kind.{Kind}
use Rattle.maps.specs.declared.Kind.TheVariants.{Tch, Sacch, Sdcch, Fcch, Sch, Bcch, Ccch, Rach}
use Rattle.maps.specs.Channels.{Standing, kind_number, is_common, at}
use Rattle.maps.specs.Rows.{Row, standing, stands, put}
use Rattle.maps.specs.Combinations.{rows_of}
use Rattle.maps.specs.Map.{map_causes, map_of}
use Rattle.maps.specs.Numbers.{standing_numbers, bytes, numbers_at, standing_of}

-- "The lowest number that applies is given, and only if its condition holds."
unfoldable pub FairCall : Type 0
FairCall = (combination tn fn direction : ℕ)
    → FairAnswer (standing (rows_of combination tn direction) fn) (map_causes combination tn fn direction) (map_of combination tn fn direction)

-- ---- no two channels of a line stand in one frame

-- everything that stands in a frame of a combination, in one timeslot and direction, is of one channel: one kind and one subchannel
pub record OneChannel : Type 0 where
  pub bursts : (combination tn direction fn : ℕ) → tn < 8 → direction < 2 → (x y : Standing)
      → Memᴰ x (standing (rows_of combination tn direction) fn) → Memᴰ y (standing (rows_of combination tn direction) fn)
      → (x.kind ≡ y.kind) × (x.subchannel ≡ y.subchannel)
  -- and so are the rows that stand in it
  pub rows : (combination tn direction fn : ℕ) → tn < 8 → direction < 2 → (r q : Row)
      → Memᴰ r (rows_of combination tn direction) → Memᴰ q (rows_of combination tn direction) → stands r fn ≡ true → stands q fn ≡ true
      → (r.kind ≡ q.kind) × (r.subchannel ≡ q.subchannel)
  -- "s .. 0 for a common part"
  pub common_subchannel : (combination tn direction fn : ℕ) → tn < 8 → direction < 2 → (x : Standing)
      → Memᴰ x (standing (rows_of combination tn direction) fn) → is_common x.kind ≡ true → x.subchannel ≡ 0

-- ---- the bytes of an answer hold it whole

-- the numbers of what stands in a frame, and what stands there, can be taken from the eight bytes
pub record HeldWhole : Type 0 where
  pub numbers_back : (combination tn direction fn : ℕ) → tn < 8 → direction < 2
      → numbers_at (bytes (standing_numbers (standing (rows_of combination tn direction) fn))) ≡ standing_numbers (standing (rows_of combination tn direction) fn)
  pub standing_back : (combination tn direction fn : ℕ) → tn < 8 → direction < 2
      → standing_of (numbers_at (bytes (standing_numbers (standing (rows_of combination tn direction) fn)))) ≡ standing (rows_of combination tn direction) fn

-- ---- the rows against document 01's words: what stands in a frame, worked out from the frame's number

-- those of a kind that passes the test
unfoldable pub only : (Kind → Bool) → List Standing → List Standing
only test [] = []
only test (x ∷ xs) = put (test x.kind) x (only test xs)

-- the numbers from i on that stand for frame f in a list of frames
unfoldable pub places : ℕ → ℕ → List ℕ → List ℕ
places f i [] = []
places f i (a ∷ more) = cond (eqb f a) (i ∷ places f (suc i) more) (places f (suc i) more)

-- 1: "h 0–11 and 13–24 are traffic, numbered k = 0 to 23": k is h, and after frame 12 h − 1
unfoldable pub full_words : ℕ → ℕ → ℕ → List Standing
full_words tn h q =
    cond (eqb (h % 13) 12)
    (map (at Sacch 0 0) (places q 0 (map (λ i. (12 + 13 * tn + 26 * i) % 104) (0 ∷ 1 ∷ 2 ∷ 3 ∷ []))))
    (at Tch 0 (k / 4) (k % 4) ∷ at Tch 0 ((k / 4 + 5) % 6) (4 + k % 4) ∷ [])
  where
    k : ℕ
    k = h - h / 13

-- 2: the same k, SACCH of s = 0 and of s = 1
unfoldable pub half_words : ℕ → ℕ → ℕ → List Standing
half_words tn h q =
    cond (eqb (h % 13) 12) (sacch 0 ++ sacch 1)
    (at Tch (k % 2) (j / 2) (j % 2) ∷ at Tch (k % 2) ((j / 2 + 5) % 6) (2 + j % 2) ∷ [])
  where
    k : ℕ
    k = h - h / 13

    j : ℕ
    j = k / 2

    sacch : ℕ → List Standing
    sacch s = map (at Sacch s 0) (places q 0 (map (λ i. (12 + 26 * (tn / 2) + 13 * s + 26 * i) % 104) (0 ∷ 1 ∷ 2 ∷ 3 ∷ [])))

-- 4 and 5, D: of each ten frames up to 49 the first is FCCH and the second SCH; frames 2 to 5 are BCCH; the others are numbered j, from frame
-- 6 on, and go by fours; frame 50 is idle
unfoldable pub control_words : (ℕ → Standing) → ℕ → List Standing
control_words others f =
    cond (eqb f 50) []
    (cond (eqb (f % 10) 0) (at Fcch 0 (f / 10) 0 ∷ [])
    (cond (eqb (f % 10) 1) (at Sch 0 (f / 10) 0 ∷ []) (cond (ltb f 6) (at Bcch 0 0 (f - 2) ∷ []) (others (f - 6 - 2 * (f / 10)) ∷ []))))

-- 4: nine CCCH blocks
abbrev pub uncombined_words : ℕ → List Standing
uncombined_words f = control_words (λ j. at Ccch 0 (j / 4) (j % 4)) f

-- 5: three CCCH blocks, SDCCH of s = 0 to 3, SACCH of s = 0 and 1, and in the second 51 frames of the 102 of s = 2 and 3
abbrev pub combined_words : ℕ → ℕ → List Standing
combined_words f g =
    control_words
    (λ j. cond (ltb j 12) (at Ccch 0 (j / 4) (j % 4)) (cond (ltb j 28) (at Sdcch ((j - 12) / 4) 0 (j % 4)) (at Sacch ((j - 28) / 4 + 2 * (g / 51)) 0 (j % 4)))) f

-- 7, D: SDCCH of s = 0 to 7 in frames 0 to 31; SACCH in 32 to 47, of s = 0 to 3, and in the second 51 frames of the 102 of s = 4 to 7
unfoldable pub dedicated_words : ℕ → ℕ → List Standing
dedicated_words f g =
    cond (ltb f 32) (at Sdcch (f / 4) 0 (f % 4) ∷ [])
    (cond (ltb f 48) (at Sacch ((f - 32) / 4 + 4 * (g / 51)) 0 (f % 4) ∷ []) [])

-- 5, U: "RACH blocks 0–26 at f = 4, 5, 14–36, 45, 46"
abbrev pub rach_frames : List ℕ
rach_frames =
    4 ∷ 5 ∷ 14 ∷ 15 ∷ 16 ∷ 17 ∷ 18 ∷ 19 ∷ 20 ∷ 21 ∷ 22 ∷ 23 ∷ 24 ∷ 25 ∷ 26 ∷ 27 ∷ 28 ∷ 29 ∷ 30 ∷ 31 ∷ 32 ∷ 33 ∷ 34 ∷ 35 ∷ 36 ∷ 45 ∷ 46 ∷ []

unfoldable pub rach_words : ℕ → List Standing
rach_words f = map (λ b. at Rach 0 b 0) (places f 0 rach_frames)

abbrev pub is_rach : Kind → Bool
is_rach k = eqb (kind_number k) 8

abbrev pub is_dedicated : Kind → Bool
is_dedicated k = not (is_common k)

-- neither FCCH nor SCH
abbrev pub is_other : Kind → Bool
is_other k = not (eqb (kind_number k) 4 || eqb (kind_number k) 5)

pub record AsWorded : Type 0 where
  -- "a rule without D or U holds for both": 1 and 2 in any direction
  pub combination_1 : (tn direction fn : ℕ) → tn < 8 → standing (rows_of 1 tn direction) fn ≡ full_words tn (fn % 26) (fn % 104)
  pub combination_2 : (tn direction fn : ℕ) → tn < 8 → standing (rows_of 2 tn direction) fn ≡ half_words tn (fn % 26) (fn % 104)
  -- 4: "U: RACH block f in every frame."; this and what follows in any timeslot
  pub combination_4_down : (tn fn : ℕ) → standing (rows_of 4 tn 0) fn ≡ uncombined_words (fn % 51)
  pub combination_4_up : (tn fn : ℕ) → standing (rows_of 4 tn 1) fn ≡ at Rach 0 (fn % 51) 0 ∷ []
  -- 5: "U: SDCCH and SACCH 15 frames later (mod 51, mod 102)", and RACH in its frames and in no other
  pub combination_5_down : (tn fn : ℕ) → standing (rows_of 5 tn 0) fn ≡ combined_words (fn % 51) (fn % 102)
  pub combination_5_up : (tn fn : ℕ) → only is_dedicated (standing (rows_of 5 tn 1) (fn + 15)) ≡ only is_dedicated (standing (rows_of 5 tn 0) fn)
  pub combination_5_rach : (tn fn : ℕ) → only is_rach (standing (rows_of 5 tn 1) fn) ≡ rach_words (fn % 51)
  -- 6: "as 4 without FCCH and SCH."
  pub combination_6 : (tn direction fn : ℕ) → direction < 2 → standing (rows_of 6 tn direction) fn ≡ only is_other (standing (rows_of 4 tn direction) fn)
  -- 7: "U: 15 frames later."
  pub combination_7_down : (tn fn : ℕ) → standing (rows_of 7 tn 0) fn ≡ dedicated_words (fn % 51) (fn % 102)
  pub combination_7_up : (tn fn : ℕ) → standing (rows_of 7 tn 1) (fn + 15) ≡ standing (rows_of 7 tn 0) fn
