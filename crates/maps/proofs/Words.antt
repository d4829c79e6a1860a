-- The rows against document 01's words, in every frame: what its numbers come to. Assumes nothing.
use Prim.Native.Nat.{ℕ, zero, suc, ◌+◌, ◌%◌, ◌<◌}
use mathlib.Core.Path.{◌≡◌, refl, sym, ap, ◌∙◌}
use mathlib.Core.Bool.{Bool, true, ◌&&◌}
use mathlib.Core.List.{List, [], ◌∷◌}
use native.Mathlib.Omega.{arith}
use borrow.Author.Tests.{ne_eqb}
use Rattle.answers.specs.Search.{all_below}
use Rattle.answers.proofs.Search.{all_at}
use Rattle.answers.proofs.Tests.{and_left, and_right}
use Rattle.maps.specs.declared.Kind.TheVariants.{Rach}
use Rattle.maps.specs.Channels.{Standing, at}
use Rattle.maps.specs.Rows.{Row, numbered, each, from, standing}
use Rattle.maps.specs.Combinations.{full_rate, half_rate, uncombined, combined, additional, sdcch8, combinations, rows_among, rows_of}
use Rattle.maps.specs.Claims.{only, places, full_words, half_words, control_words, uncombined_words, combined_words, dedicated_words, rach_words, is_rach, is_dedicated, is_other}
use Rattle.maps.proofs.Repeat.{repeats, standing_mod, all_agree, every_agree}
use Rattle.maps.proofs.Same.{same_all}

-- ---- 1 and 2

module _ (words : ℕ → ℕ → ℕ → List Standing) (rows : ℕ → List Row) where
  spoken : ℕ → ℕ → List Standing
  spoken tn fn = words tn (fn % 26) (fn % 104)

  unfoldable traffic_agrees : Bool
  traffic_agrees = all_below (λ (tn : ℕ). repeats 104 (rows tn) && all_agree (standing (rows tn)) (spoken tn) 104) 8

  traffic_agreed : traffic_agrees ≡ true → (tn : ℕ) → tn < 8 → (fn : ℕ) → standing (rows tn) fn ≡ words tn (fn % 26) (fn % 104)
  unfolding traffic_agrees spoken
  traffic_agreed e tn h fn =
      let w = all_at (λ (t : ℕ). repeats 104 (rows t) && all_agree (standing (rows t)) (spoken t) 104) 8 e tn h in
      let a : fn % 104 % 26 ≡ fn % 26 = omega arith in
      let b : fn % 104 % 104 ≡ fn % 104 = omega arith in
      every_agree (standing (rows tn)) (spoken tn) 104 (and_right (repeats 104 (rows tn)) _ w) fn
      (standing_mod 104 (rows tn) (and_left (repeats 104 (rows tn)) _ w) fn) (rw (a, b))

full_tested : traffic_agrees full_words full_rate ≡ true
unfolding traffic_agrees spoken full_words places all_below repeats same_all standing full_rate numbered from
full_tested = refl

half_tested : traffic_agrees half_words half_rate ≡ true
unfolding traffic_agrees spoken half_words places all_below repeats same_all standing half_rate numbered from
half_tested = refl

pub full_rate_as_worded : (tn : ℕ) → tn < 8 → (fn : ℕ) → standing (full_rate tn) fn ≡ full_words tn (fn % 26) (fn % 104)
full_rate_as_worded = traffic_agreed full_words full_rate full_tested

pub half_rate_as_worded : (tn : ℕ) → tn < 8 → (fn : ℕ) → standing (half_rate tn) fn ≡ half_words tn (fn % 26) (fn % 104)
half_rate_as_worded = traffic_agreed half_words half_rate half_tested

-- ---- 4, 5 and 7 in D: rows that repeat after p frames, against words that do too

module _ (p : ℕ) (rows : List Row) (words : ℕ → List Standing) where
  unfoldable worded : Bool
  worded = repeats p rows && all_agree (standing rows) words p

  as_worded : worded ≡ true → (fn : ℕ) → words (fn % p) ≡ words fn → standing rows fn ≡ words fn
  unfolding worded
  as_worded e fn q =
      every_agree (standing rows) words p (and_right (repeats p rows) _ e) fn (standing_mod p rows (and_left (repeats p rows) _ e) fn) q

uncombined_tested : worded 51 (uncombined 0) (λ (fn : ℕ). uncombined_words (fn % 51)) ≡ true
unfolding worded control_words all_below repeats same_all standing uncombined numbered from
uncombined_tested = refl

combined_tested : worded 102 (combined 0) (λ (fn : ℕ). combined_words (fn % 51) (fn % 102)) ≡ true
unfolding worded control_words all_below repeats same_all standing combined numbered from
combined_tested = refl

dedicated_tested : worded 102 (sdcch8 0) (λ (fn : ℕ). dedicated_words (fn % 51) (fn % 102)) ≡ true
unfolding worded dedicated_words all_below repeats same_all standing sdcch8 each from
dedicated_tested = refl

pub uncombined_down : (fn : ℕ) → standing (uncombined 0) fn ≡ uncombined_words (fn % 51)
uncombined_down fn =
    let b : fn % 51 % 51 ≡ fn % 51 = omega arith in
    as_worded 51 (uncombined 0) (λ (n : ℕ). uncombined_words (n % 51)) uncombined_tested fn (ap uncombined_words b)

module _ (fn : ℕ) where
  -- the remainders by 51 and by 102 of a remainder by 102
  kept : (words : ℕ → ℕ → List Standing) → words (fn % 102 % 51) (fn % 102 % 102) ≡ words (fn % 51) (fn % 102)
  kept words =
      let a : fn % 102 % 51 ≡ fn % 51 = omega arith in
      let b : fn % 102 % 102 ≡ fn % 102 = omega arith in
      rw (a, b)

  pub combined_down : standing (combined 0) fn ≡ combined_words (fn % 51) (fn % 102)
  combined_down = as_worded 102 (combined 0) (λ (n : ℕ). combined_words (n % 51) (n % 102)) combined_tested fn (kept combined_words)

  pub sdcch8_down : standing (sdcch8 0) fn ≡ dedicated_words (fn % 51) (fn % 102)
  sdcch8_down = as_worded 102 (sdcch8 0) (λ (n : ℕ). dedicated_words (n % 51) (n % 102)) dedicated_tested fn (kept dedicated_words)

-- ---- 4: "U: RACH block f in every frame."

pub uncombined_rach : (fn : ℕ) → standing (uncombined 1) fn ≡ at Rach 0 (fn % 51) 0 ∷ []
unfolding all_below repeats same_all standing uncombined numbered from
uncombined_rach fn =
    let b : fn % 51 % 51 ≡ fn % 51 = omega arith in
    every_agree (standing (uncombined 1)) (λ (n : ℕ). at Rach 0 (n % 51) 0 ∷ []) 51 refl fn (standing_mod 51 (uncombined 1) refl fn) (rw b)

-- ---- 5: "RACH blocks 0–26 at f = 4, 5, 14–36, 45, 46", and in no other frame

rach_tested : (all_agree (λ (n : ℕ). only is_rach (standing (combined 1) n)) (λ (n : ℕ). rach_words (n % 51)) 102 && repeats 102 (combined 1)) ≡ true
unfolding rach_words only places all_below repeats same_all standing combined numbered from
rach_tested = refl

pub combined_rach : (fn : ℕ) → only is_rach (standing (combined 1) fn) ≡ rach_words (fn % 51)
combined_rach fn =
    let b : fn % 102 % 51 ≡ fn % 51 = omega arith in
    every_agree these those 102 (and_left (all_agree these those 102) _ rach_tested) fn
    (ap (only is_rach) (standing_mod 102 (combined 1) (and_right (all_agree these those 102) _ rach_tested) fn)) (ap rach_words b)
  where
    these : ℕ → List Standing
    these n = only is_rach (standing (combined 1) n)

    those : ℕ → List Standing
    those n = rach_words (n % 51)

-- "U: SDCCH and SACCH 15 frames later (mod 51, mod 102)"

on_102 : (rows : List Row) → repeats 102 rows ≡ true → (fn : ℕ) → standing rows (fn % 102 + 15) ≡ standing rows (fn + 15)
on_102 rows e fn =
    let a : (fn % 102 + 15) % 102 ≡ (fn + 15) % 102 = omega arith in
    sym (standing_mod 102 rows e (fn % 102 + 15)) ∙ (ap (standing rows) a ∙ standing_mod 102 rows e (fn + 15))

pub combined_later : (fn : ℕ) → only is_dedicated (standing (combined 1) (fn + 15)) ≡ only is_dedicated (standing (combined 0) fn)
unfolding only all_below repeats same_all standing combined numbered from
combined_later fn =
    every_agree (λ (n : ℕ). only is_dedicated (standing (combined 1) (n + 15))) (λ (n : ℕ). only is_dedicated (standing (combined 0) n)) 102 refl fn
    (ap (only is_dedicated) (on_102 (combined 1) refl fn)) (ap (only is_dedicated) (standing_mod 102 (combined 0) refl fn))

-- ---- 6: "as 4 without FCCH and SCH."

pub additional_without : (d : ℕ) → d < 2 → (fn : ℕ) → standing (additional d) fn ≡ only is_other (standing (uncombined d) fn)
unfolding only all_below repeats same_all standing uncombined additional numbered from
additional_without d h fn =
    let w = all_at agrees 2 tested d h in
    let v = and_right (repeats 51 (additional d)) (repeats 51 (uncombined d) && all_agree (standing (additional d)) (less d) 51) w in
    every_agree (standing (additional d)) (less d) 51 (and_right (repeats 51 (uncombined d)) _ v) fn
    (standing_mod 51 (additional d) (and_left (repeats 51 (additional d)) _ w) fn)
    (ap (only is_other) (standing_mod 51 (uncombined d) (and_left (repeats 51 (uncombined d)) _ v) fn))
  where
    less : ℕ → ℕ → List Standing
    less e n = only is_other (standing (uncombined e) n)

    agrees : ℕ → Bool
    agrees e = repeats 51 (additional e) && (repeats 51 (uncombined e) && all_agree (standing (additional e)) (less e) 51)

    tested : all_below agrees 2 ≡ true
    tested = refl

-- ---- 7: "U: 15 frames later."

pub sdcch8_later : (fn : ℕ) → standing (sdcch8 1) (fn + 15) ≡ standing (sdcch8 0) fn
unfolding all_below repeats same_all standing sdcch8 each from
sdcch8_later fn =
    every_agree (λ (n : ℕ). standing (sdcch8 1) (n + 15)) (standing (sdcch8 0)) 102 refl fn
    (on_102 (sdcch8 1) refl fn) (standing_mod 102 (sdcch8 0) refl fn)

-- ---- "a rule without D or U holds for both": so are the rules of 1 and 2; and those of 4 to 7 name no TN

module _ (tn d fn : ℕ) where
  pub both_directions : (c : ℕ) → c < 3 → standing (rows_of c tn 0) fn ≡ standing (rows_of c tn d) fn
  unfolding combinations rows_among
  both_directions zero h = refl
  both_directions (suc zero) h = refl
  both_directions (suc (suc zero)) h = refl
  both_directions (suc (suc (suc c))) h = absurd (omega arith)

  pub all_timeslots : (c : ℕ) → 2 < c → standing (rows_of c 0 d) fn ≡ standing (rows_of c tn d) fn
  unfolding combinations rows_among
  all_timeslots c h = simp (ne_eqb c 1 (λ q. omega arith), ne_eqb c 2 (λ q. omega arith))
