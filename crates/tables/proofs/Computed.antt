-- What the code computes for each combination is what its rows have in every frame: a computed test over the frames after which the map
-- repeats, and the remainder. Assumes nothing.
use Prim.Native.Nat.{ℕ, zero, suc, ◌+◌, ◌-◌, ◌*◌, ◌/◌, ◌%◌, ◌^◌, ◌<◌}
use mathlib.Core.Path.{◌≡◌, refl, sym, ap, ◌∙◌}
use mathlib.Core.Bool.{Bool, true, ◌&&◌, cond}
use mathlib.Core.List.{List}
use native.Mathlib.Omega.{arith}
use lib.Dec.{eqb, ltb}
use borrow.Author.Tests.{eq-eqb, ne_eqb, eqb-true, ltb-true}
use Rattle.answers.specs.Search.{all_below}
use Rattle.answers.proofs.Search.{all_at}
use Rattle.answers.proofs.Tests.{and_left, and_right}
use Rattle.maps.specs.Channels.{Standing}
use Rattle.maps.specs.Rows.{Row, numbered, each, from, standing}
use Rattle.maps.specs.Combinations.{full_rate, half_rate, uncombined, combined, additional, sdcch8, combinations, rows_among, rows_of}
use Rattle.maps.specs.Numbers.{standing_numbers, bytes}
use Rattle.tables.specs.Helpers.{code_of, control_word, spread_of, traffic_word, sacch_bytes}
use Rattle.maps.proofs.Repeat.{repeats, standing_mod, all_frames, every_frame}

-- the bytes of what stands in a frame
abbrev bytes_in : List Row → ℕ → ℕ
bytes_in rows fn = bytes (standing_numbers (standing rows fn))

-- ---- 1 and 2: eight timeslots each

unfoldable traffic_at : ℕ → ℕ → ℕ → ℕ → ℕ
traffic_at rate tn h turn = cond (eqb (h % 13) 12) (sacch_bytes rate tn turn (h / 13)) (traffic_word (rate * 26 + h))

traffic_rows : ℕ → List Row
traffic_rows x = rows_of (1 + x / 8) (x % 8) 0

traffic_agrees : ℕ → Bool
traffic_agrees x = repeats 104 (traffic_rows x) && all_below (λ (f : ℕ). eqb (traffic_at (x / 8) (x % 8) (f % 26) (f / 26 % 4)) (bytes_in (traffic_rows x) f)) 104

traffic_tested : all_below traffic_agrees 16 ≡ true
unfolding traffic_agrees traffic_at traffic_rows traffic_word sacch_bytes standing_numbers all_below repeats standing combinations rows_among full_rate half_rate numbered from
traffic_tested = refl

-- of the timeslot only the remainder by 8 counts
same_timeslot : (rate tn h turn : ℕ) → traffic_at rate (tn % 8) h turn ≡ traffic_at rate tn h turn
unfolding traffic_at sacch_bytes
same_timeslot rate tn h turn =
    let a : tn % 8 % 2 ≡ tn % 2 = omega arith in
    let b : tn % 8 % 8 ≡ tn % 8 = omega arith in
    rw (a, b)

module _ (n : ℕ) where
  same_turn : n % 104 / 26 % 4 ≡ n / 26 % 4
  same_turn = omega arith

  same_h : n % 104 % 26 ≡ n % 26
  same_h = omega arith

  traffic_law : (x : ℕ) → x < 16 → traffic_at (x / 8) (x % 8) (n % 26) (n / 26 % 4) ≡ bytes_in (traffic_rows x) n
  unfolding traffic_agrees
  traffic_law x h =
      let w = all_at traffic_agrees 16 traffic_tested x h in
      let t : traffic_at (x / 8) (x % 8) (n % 104 % 26) (n % 104 / 26 % 4) ≡ bytes_in (traffic_rows x) (n % 104) = eqb-true _ _ (all_at (λ (f : ℕ). eqb (traffic_at (x / 8) (x % 8) (f % 26) (f / 26 % 4)) (bytes_in (traffic_rows x) f)) 104
      (and_right (repeats 104 (traffic_rows x)) _ w) (n % 104) (omega arith)) in
      let e = standing_mod 104 (traffic_rows x) (and_left (repeats 104 (traffic_rows x)) _ w) n in
      (rw (same_h, same_turn) at t) ∙ ap (λ (xs : List Standing). bytes (standing_numbers xs)) e

  module _ (rate tn : ℕ) (h : rate < 2) where
    traffic : traffic_at rate tn (n % 26) (n / 26 % 4) ≡ bytes_in (rows_of (1 + rate) (tn % 8) 0) n
    unfolding traffic_rows
    traffic =
        let p : (8 * rate + tn % 8) / 8 ≡ rate = omega arith in
        let q : (8 * rate + tn % 8) % 8 ≡ tn % 8 = omega arith in
        sym (same_timeslot rate tn (n % 26) (n / 26 % 4)) ∙ (rw (p, q) at (traffic_law (8 * rate + tn % 8) (omega arith)))

    pub traffic_sacch : n % 26 % 13 ≡ 12 → sacch_bytes rate tn (n / 26 % 4) (n % 26 / 13) ≡ bytes_in (rows_of (1 + rate) (tn % 8) 0) n
    unfolding traffic_at
    traffic_sacch e = simp (eq-eqb _ _ e) at traffic

    pub traffic_tch : (n % 26 % 13 ≡ 12 → ⊥) → traffic_word (rate * 26 + n % 26) ≡ bytes_in (rows_of (1 + rate) (tn % 8) 0) n
    unfolding traffic_at
    traffic_tch e = simp (ne_eqb _ _ e) at traffic

-- ---- 4 to 7: two directions each

-- the digits of a frame hold what stands in it
holds_all : List Standing → Bool
holds_all xs = ltb (code_of xs) 65536 && eqb (spread_of (code_of xs)) (bytes (standing_numbers xs))

control_rows : ℕ → List Row
control_rows x = rows_of (4 + x / 2) 0 (x % 2)

control_tested : all_below (λ (x : ℕ). all_frames holds_all 102 (control_rows x)) 8 ≡ true
unfolding all_frames holds_all code_of spread_of standing_numbers control_rows all_below repeats standing combinations rows_among uncombined combined additional sdcch8 numbered each from
control_tested = refl

-- the digits of frame i of a word
digits : (f : ℕ → ℕ) → ((i : ℕ) → f i < 65536) → (i : ℕ) → i < 4
    → (f 0 + 65536 * (f 1 + 65536 * (f 2 + 65536 * f 3))) / 2 ^ (i * 16) % 65536 ≡ f i
digits f h zero below = let a = h 0 in omega (arith, a)
digits f h (suc zero) below = let a = h 0 in let b = h 1 in omega (arith, a, b)
digits f h (suc (suc zero)) below = let a = h 0 in let b = h 1 in let c = h 2 in omega (arith, a, b, c)
digits f h (suc (suc (suc zero))) below = let a = h 0 in let b = h 1 in let c = h 2 in let d = h 3 in omega (arith, a, b, c, d)
digits f h (suc (suc (suc (suc i)))) below = absurd (omega arith)

module _ (c d : ℕ) (hc : 3 < c) (he : c < 8) (hd : d < 2) where
  tested : all_frames holds_all 102 (rows_of c 0 d) ≡ true
  unfolding control_rows
  tested =
      let p : 4 + (2 * (c - 4) + d) / 2 ≡ c = omega arith in
      let q : (2 * (c - 4) + d) % 2 ≡ d = omega arith in
      rw (p, q) at (all_at (λ (x : ℕ). all_frames holds_all 102 (control_rows x)) 8 control_tested (2 * (c - 4) + d) (omega arith))

  held : (fn : ℕ) → holds_all (standing (rows_of c 0 d) fn) ≡ true
  held fn = every_frame holds_all 102 (rows_of c 0 d) tested fn

  repeating : repeats 102 (rows_of c 0 d) ≡ true
  unfolding all_frames
  repeating =
      and_left (repeats 102 (rows_of c 0 d)) _
      (and_right (ltb 0 102) (repeats 102 (rows_of c 0 d) && all_below (λ (f : ℕ). holds_all (standing (rows_of c 0 d) f)) 102) tested)

  code : ℕ → ℕ
  code fn = code_of (standing (rows_of c 0 d) fn)

  code_below : (fn : ℕ) → code fn < 65536
  unfolding code holds_all
  code_below fn = ltb-true _ _ (and_left (ltb (code_of (standing (rows_of c 0 d) fn)) 65536) _ (held fn))

  -- a word has the codes of four frames
  word_code : (key j i : ℕ) → j < 26 → i < 4 → key ≡ (c % 4 * 2 + d % 2) * 26 + j → control_word key / 2 ^ (i * 16) % 65536 ≡ code (j * 4 + i)
  unfolding control_word code
  word_code key j i hj hi e =
      let p : 4 + key / 52 ≡ c = omega (arith, e) in
      let q : key / 26 % 2 ≡ d = omega (arith, e) in
      let r : key % 26 ≡ j = omega (arith, e) in
      rw (p, q, r) (digits (λ (k : ℕ). code (j * 4 + k)) (λ k. code_below (j * 4 + k)) i hi)

  pub control : (n word key : ℕ) → key ≡ (c % 4 * 2 + d % 2) * 26 + n % 102 / 4 → word ≡ control_word key
      → spread_of (word / 2 ^ (n % 102 % 4 * 16) % 65536) ≡ bytes_in (rows_of c 0 d) n
  unfolding code holds_all
  control n word key k e =
      let j : n % 102 / 4 * 4 + n % 102 % 4 ≡ n % 102 = omega arith in
      let w : control_word key / 2 ^ (n % 102 % 4 * 16) % 65536 ≡ code (n % 102 / 4 * 4 + n % 102 % 4) =
      word_code key (n % 102 / 4) (n % 102 % 4) (omega arith) (omega arith) k in
      ap (λ (v : ℕ). spread_of (v / 2 ^ (n % 102 % 4 * 16) % 65536)) e
      ∙ (ap spread_of (w ∙ ap code j)
      ∙ (eqb-true _ _ (and_right (ltb (code_of (standing (rows_of c 0 d) (n % 102))) 65536) _ (held (n % 102)))
      ∙ ap (λ (xs : List Standing). bytes (standing_numbers xs)) (standing_mod 102 (rows_of c 0 d) repeating n)))
