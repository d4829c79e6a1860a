-- Where the common lines of every history stand: a 4 or 5 in timeslot 0, a 6 in 2, 4 or 6 with a 4 or 6 two timeslots lower, a 5 alone, each on
-- C0 alone. Kept by each call. Assumes nothing.
use Prim.Native.Nat.{ℕ, ◌+◌, ◌-◌, ◌%◌, ◌≤◌, ◌<◌}
use mathlib.Core.Path.{◌≡◌, refl, sym, ap, ◌∙◌, subst}
use mathlib.Core.Bool.{Bool, true, false, not, ◌&&◌, ◌||◌}
use mathlib.Core.List.{List, [], ◌∷◌}
use mathlib.Core.Logic.{◌⊎◌, inl, inr, ⊎_elim}
use mathlib.Core.Option.{Option, none, some}
use native.Mathlib.Omega.{arith}
use lib.Dec.{eqb}
use borrow.Author.Tests.{eqb-true, eqb-false, eq-eqb, ne_eqb, ltb-false, not-false, lt-leb}
use Rattle.answers.specs.Outcome.{Outcome}
use Rattle.answers.specs.Claims.{NoneHolds}
use Rattle.answers.specs.Ranges.{line_count, no_line}
use Rattle.answers.proofs.Decide.{decided}
use Rattle.answers.proofs.Search.{First, any_at, some_first}
use Rattle.answers.proofs.Tests.{and_left, and_right, and_both, and_rest, or_left, or_right, not_both}
use Rattle.rules.specs.State.{Cell, LineState, Values, line_with, is_open, line_at}
use Rattle.rules.specs.Calls.{step, any_line, has_combination, is_common_combination, is_common_line, stands_in, c0_alone, misplaced, needed, open_causes, open_of, close_causes, close_of, seize_causes, seize_of, release_causes, release_of}
use Rattle.rules.specs.History.{Call, opens, closes, seizes, releases, Made, opened_with, last_accepted, held_by, cell_from}
use Rattle.rules.specs.CollisionFree.{calling, made}
use Rattle.rules.proofs.History.{none_is_not_some, was_accepted, was_refused, other_opened, open_after_open, open_after_close, still_opened}
use Rattle.rules.proofs.Sound.{allowed_line, allowed_open, Sound, open_line, is_opened}

-- ---- the numbers 4, 5 and 6

one_of_three : (n a b c : ℕ) → (eqb n a || eqb n b || eqb n c) ≡ true → (n ≡ a) ⊎ ((n ≡ b) ⊎ (n ≡ c))
one_of_three n a b c h = go (eqb n a) (eqb n b) refl refl h
  where
    go : (s t : Bool) → eqb n a ≡ s → eqb n b ≡ t → (s || t || eqb n c) ≡ true → (n ≡ a) ⊎ ((n ≡ b) ⊎ (n ≡ c))
    go true t p q e = inl (eqb-true n a p)
    go false true p q e = inr (inl (eqb-true n b q))
    go false false p q e = inr (inr (eqb-true n c e))

pub common_cases : (k : ℕ) → is_common_combination k ≡ true → (k ≡ 4) ⊎ ((k ≡ 5) ⊎ (k ≡ 6))
common_cases k h = one_of_three k 4 5 6 h

pub four_common : (k : ℕ) → k ≡ 4 → is_common_combination k ≡ true
four_common k e = subst (λ (x : ℕ). is_common_combination x ≡ true) (sym e) refl

pub five_common : (k : ℕ) → k ≡ 5 → is_common_combination k ≡ true
five_common k e = subst (λ (x : ℕ). is_common_combination x ≡ true) (sym e) refl

pub six_common : (k : ℕ) → k ≡ 6 → is_common_combination k ≡ true
six_common k e = subst (λ (x : ℕ). is_common_combination x ≡ true) (sym e) refl

-- ---- the places

-- where a common line stands by its combination
abbrev pub Place : Values → Type 0
Place v = (((v.combination ≡ 4) ⊎ (v.combination ≡ 5)) × (v.tn ≡ 0)) ⊎ ((v.combination ≡ 6) × (0 < v.tn) × (v.tn % 2 ≡ 0))

-- what refusal 8 asks of a common line by itself
pub record InPlace (first : Cell) (v : Values) : Type 0 where
  pub place : Place v
  pub beacon : c0_alone first v.mask ≡ true
  pub reserved : v.combination ≡ 5 → first.ag ≤ 2

-- an open 4 or 6 two timeslots lower
pub record Lower (past : List Made) (v : Values) : Type 0 where
  pub line : ℕ
  pub values : Values
  pub is_open : opened_with past line ≡ some values
  pub four_or_six : (values.combination ≡ 4) ⊎ (values.combination ≡ 6)
  pub two_lower : values.tn + 2 ≡ v.tn

pub record Placed (first : Cell) (past : List Made) : Type 0 where
  pub in_place : (n : ℕ) (v : Values) → opened_with past n ≡ some v → is_common_combination v.combination ≡ true → InPlace first v
  pub lower : (n : ℕ) (v : Values) → opened_with past n ≡ some v → v.combination ≡ 6 → Lower past v
  pub alone : (n m : ℕ) (v w : Values) → opened_with past n ≡ some v → v.combination ≡ 5 → opened_with past m ≡ some w → is_common_combination w.combination ≡ true → n ≡ m

-- nothing is open before the first call
pub placed_first : (first : Cell) → Placed first []
unfolding opened_with last_accepted
placed_first first =
    record { in_place = λ n v e h. absurd (none_is_not_some e); lower = λ n v e h. absurd (none_is_not_some e); alone = λ n m v w e h f g. absurd (none_is_not_some e) }

module _ (first : Cell) (past : List Made) (sound : Sound first past) where
  abbrev before : Cell
  before = cell_from first past

  -- ---- lines that pass a test

  -- no open line passes it
  pub none_such : (test : LineState → Bool) → any_line before test ≡ false → (m : ℕ) (w : Values) → opened_with past m ≡ some w → test (line_with w (held_by past m)) ≡ true → ⊥
  none_such test h m w e t =
      not_both (any_at (λ k. test (line_at before k)) line_count m (allowed_line first m w (sound.allowed m w e)) (ap test (open_line first past sound m w e) ∙ t)) h

  -- an open line that passes it
  pub record Such (test : LineState → Bool) : Type 0 where
    pub line : ℕ
    pub values : Values
    pub is_open : opened_with past line ≡ some values
    pub passes : test (line_with values (held_by past line)) ≡ true

  pub some_such : (test : LineState → Bool) → ((l : LineState) → test l ≡ true → is_open l ≡ true) → any_line before test ≡ true → Such test
  some_such test opened h = here (some_first (λ k. test (line_at before k)) line_count h)
    where
      here : First (λ k. test (line_at before k)) line_count → Such test
      here w =
          let o = is_opened first past sound w.place (lt-leb line_count w.place w.below) (ap not (opened (line_at before w.place) w.passes)) in
          record { line = w.place; values = o.values; is_open = o.is_open; passes = ap test (sym (open_line first past sound w.place o.values o.is_open)) ∙ w.passes }

  -- a line with a combination is open
  pub with_combination : (k : ℕ) → (k ≡ 0 → ⊥) → (l : LineState) → eqb l.combination k ≡ true → is_open l ≡ true
  with_combination k z l e = ap not (ne_eqb l.combination 0 (λ q. z (sym (eqb-true _ _ e) ∙ q)))

  -- ---- what an open that 8 does not refuse shows

  module _ (v : Values) (free : NoneHolds (misplaced before v)) where
    is_first : (v.combination ≡ 4) ⊎ (v.combination ≡ 5) → (eqb v.combination 4 || eqb v.combination 5) ≡ true
    is_first (inl e) = or_left _ (eq-eqb _ _ e)
    is_first (inr e) = or_right (eqb v.combination 4) (eq-eqb _ _ e)

    first_place : (v.combination ≡ 4) ⊎ (v.combination ≡ 5) → v.tn ≡ 0
    first_place k = eqb-true _ _ (not-false _ (and_rest (eqb v.combination 4 || eqb v.combination 5) _ (is_first k) free.0))

    -- a 4 or 5 finds no other common line
    first_alone : (v.combination ≡ 4) ⊎ (v.combination ≡ 5) → (m : ℕ) (w : Values) → opened_with past m ≡ some w → is_common_combination w.combination ≡ true → ⊥
    first_alone k m w e h = none_such is_common_line (and_rest (eqb v.combination 4 || eqb v.combination 5) _ (is_first k) free.1.1.1.1.0) m w e h

    six_place : v.combination ≡ 6 → (v.tn ≡ 2) ⊎ ((v.tn ≡ 4) ⊎ (v.tn ≡ 6))
    six_place k = one_of_three v.tn 2 4 6 (not-false _ (and_rest (eqb v.combination 6) _ (eq-eqb _ _ k) free.1.0))

    place_of : is_common_combination v.combination ≡ true → Place v
    place_of h = ⊎_elim (λ k. inl (inl k, first_place (inl k))) (λ o. ⊎_elim (λ k. inl (inr k, first_place (inr k))) six o) (common_cases _ h)
      where
        six : v.combination ≡ 6 → Place v
        six k =
            let t : (0 < v.tn) × (v.tn % 2 ≡ 0) = ⊎_elim (λ t. (omega arith, omega arith)) (λ o. ⊎_elim (λ t. (omega arith, omega arith)) (λ t. (omega arith, omega arith)) o) (six_place k) in
            inr (k, t.0, t.1)

    opened_place : is_common_combination v.combination ≡ true → InPlace first v
    unfolding cell_from
    opened_place h =
        record {
          place = place_of h;
          beacon = not-false _ (and_rest (is_common_combination v.combination) _ h free.1.1.0);
          reserved = λ k. ltb-false _ _ (and_rest (eqb v.combination 5) _ (eq-eqb _ _ k) free.1.1.1.1.1.0);
        }

    -- a 6 finds a 4 or 6 two timeslots lower
    opened_lower : Placed first past → v.combination ≡ 6 → Lower past v
    opened_lower placed k = ⊎_elim second (λ o. ⊎_elim (λ t. third t (or_left _ (eq-eqb _ _ t))) (λ t. third t (or_right (eqb v.tn 4) (eq-eqb _ _ t))) o) (six_place k)
      where
        second : v.tn ≡ 2 → Lower past v
        second t =
            let such = some_such (has_combination 4) (with_combination 4 (λ z. omega arith)) (not-false _ (and_rest (eqb v.combination 6 && eqb v.tn 2) _ (and_both (eq-eqb _ _ k) (eq-eqb _ _ t)) free.1.1.1.1.1.1.0)) in
            let four = eqb-true such.values.combination 4 such.passes in
            let zero_tn : such.values.tn ≡ 0 = at_zero such.values (placed.in_place such.line such.values such.is_open (four_common _ four)).place four in
            record { line = such.line; values = such.values; is_open = such.is_open; four_or_six = inl four; two_lower = omega (arith, zero_tn, t) }
          where
            at_zero : (w : Values) → Place w → w.combination ≡ 4 → w.tn ≡ 0
            at_zero w (inl p) e = p.1
            at_zero w (inr p) e = absurd (let z = p.0 in omega (arith, z, e))

        third : {n : ℕ} → v.tn ≡ n → (eqb v.tn 4 || eqb v.tn 6) ≡ true → Lower past v
        third t h =
            let such = some_such (stands_in 6 (v.tn - 2)) (λ l e. with_combination 6 (λ z. omega arith) l (and_left (eqb l.combination 6) _ e)) (not-false _ (and_rest (eqb v.combination 6 && (eqb v.tn 4 || eqb v.tn 6)) _ (and_both (eq-eqb _ _ k) h) free.1.1.1.1.1.1.1.0)) in
            let six = eqb-true such.values.combination 6 (and_left (eqb such.values.combination 6) _ such.passes) in
            let tn = eqb-true such.values.tn (v.tn - 2) (and_right (eqb such.values.combination 6) _ such.passes) in
            record { line = such.line; values = such.values; is_open = such.is_open; four_or_six = inr six; two_lower = ⊎_elim (λ z. omega arith) (λ o. ⊎_elim (λ z. omega arith) (λ z. omega arith) o) (six_place k) }

  -- ---- one more call

  module _ (placed : Placed first past) where
    -- a call that opens and closes nothing
    placed_same : (after : List Made) → ((k : ℕ) → opened_with after k ≡ opened_with past k) → Placed first after
    placed_same after same =
        record {
          in_place = λ n v e h. placed.in_place n v (sym (same n) ∙ e) h;
          lower = λ n v e h. moved (placed.lower n v (sym (same n) ∙ e) h);
          alone = λ n m v w e h f g. placed.alone n m v w (sym (same n) ∙ e) h (sym (same m) ∙ f) g;
        }
      where
        moved : {v : Values} → Lower past v → Lower after v
        moved l = record { line = l.line; values = l.values; is_open = same l.line ∙ l.is_open; four_or_six = l.four_or_six; two_lower = l.two_lower }

    placed_refused : (x : Call) → Placed first (was_refused x ∷ past)
    unfolding opened_with last_accepted
    placed_refused x = placed_same (was_refused x ∷ past) (λ k. refl)

    placed_closed : (n : ℕ) (u : Values) → opened_with past n ≡ some u → needed before (line_at before n) ≡ false → Placed first (was_accepted (closes n) ∷ past)
    placed_closed n u o free =
        record {
          in_place = λ k v e h. placed.in_place k v (open_after_close past n k v e).1 h;
          lower = λ k v e h. still k v (open_after_close past n k v e).1 h (placed.lower k v (open_after_close past n k v e).1 h);
          alone = λ k m v w e h f g. placed.alone k m v w (open_after_close past n k v e).1 h (open_after_close past n m w f).1 g;
        }
      where
        still : (k : ℕ) (v : Values) → opened_with past k ≡ some v → v.combination ≡ 6 → Lower past v → Lower (was_accepted (closes n) ∷ past) v
        still k v e h l = go (eqb l.line n) refl
          where
            -- the line to be closed would be the lower one
            higher : l.line ≡ n → needed before (line_with u (held_by past n)) ≡ true
            higher q =
                let same : l.values ≡ u = let z : some l.values ≡ some u = sym l.is_open ∙ (ap (opened_with past) q ∙ o) in let r : l.values ≡ u = cc in r in
                let tn : u.tn + 2 ≡ v.tn = ap (λ (x : Values). x.tn + 2) (sym same) ∙ l.two_lower in
                and_both (⊎_elim (λ f. or_left _ (eq-eqb _ _ (ap (λ (x : Values). x.combination) (sym same) ∙ f))) (λ f. or_right (eqb u.combination 4) (eq-eqb _ _ (ap (λ (x : Values). x.combination) (sym same) ∙ f))) l.four_or_six)
                (any_at (λ i. stands_in 6 (u.tn + 2) (line_at before i)) line_count k (allowed_line first k v (sound.allowed k v e)) (ap (stands_in 6 (u.tn + 2)) (open_line first past sound k v e) ∙ and_both (eq-eqb _ _ h) (eq-eqb _ _ (sym tn))))

            go : (b : Bool) → eqb l.line n ≡ b → Lower (was_accepted (closes n) ∷ past) v
            go true q = not_both (higher (eqb-true _ _ q)) (ap (needed before) (sym (open_line first past sound n u o)) ∙ free)
            go false q = record { line = l.line; values = l.values; is_open = other_opened past (closes n) n (λ i. refl) l.line (eqb-false _ _ q) ∙ l.is_open; four_or_six = l.four_or_six; two_lower = l.two_lower }

    placed_opened : (n : ℕ) (v : Values) → NoneHolds (misplaced before v) → opened_with past n ≡ none → Placed first (was_accepted (opens n v) ∷ past)
    placed_opened n v free shut =
        record {
          in_place = λ k w e h. place k w h (open_after_open past n v k w e);
          lower = λ k w e h. below k w h (open_after_open past n v k w e);
          alone = λ k m w u e h f g. one k m w u h g (open_after_open past n v k w e) (open_after_open past n v m u f);
        }
      where
        Which : ℕ → Values → Type 0
        Which k w = ((k ≡ n) × (v ≡ w)) ⊎ (opened_with past k ≡ some w)

        place : (k : ℕ) (w : Values) → is_common_combination w.combination ≡ true → Which k w → InPlace first w
        place k w h (inl q) = subst (InPlace first) q.1 (opened_place v free (ap (λ (x : Values). is_common_combination x.combination) q.1 ∙ h))
        place k w h (inr e) = placed.in_place k w e h

        -- a line that was open is not the one that was named
        other : (k : ℕ) (w : Values) → opened_with past k ≡ some w → k ≡ n → ⊥
        other k w e q = let z : some w ≡ none = sym e ∙ (ap (opened_with past) q ∙ shut) in let r : ◌≡◌ {A = ℕ} 0 1 = cc in omega arith

        after : {w : Values} → Lower past w → Lower (was_accepted (opens n v) ∷ past) w
        after l = record { line = l.line; values = l.values; is_open = other_opened past (opens n v) n (λ i. refl) l.line (other l.line l.values l.is_open) ∙ l.is_open; four_or_six = l.four_or_six; two_lower = l.two_lower }

        below : (k : ℕ) (w : Values) → w.combination ≡ 6 → Which k w → Lower (was_accepted (opens n v) ∷ past) w
        below k w h (inl q) = subst (Lower (was_accepted (opens n v) ∷ past)) q.1 (after (opened_lower v free placed (ap (λ (x : Values). x.combination) q.1 ∙ h)))
        below k w h (inr e) = after (placed.lower k w e h)

        -- beside a 5, nothing common is opened
        beside : (k : ℕ) (w : Values) → opened_with past k ≡ some w → w.combination ≡ 5 → is_common_combination v.combination ≡ true → ⊥
        beside k w e h g =
            ⊎_elim (λ f. first_alone v free (inl f) k w e (five_common _ h)) (λ o. ⊎_elim (λ f. first_alone v free (inr f) k w e (five_common _ h)) (λ f. under (opened_lower v free placed f)) o) (common_cases _ g)
          where
            under : Lower past v → ⊥
            under l =
                let q = placed.alone k l.line w l.values e h l.is_open (⊎_elim (λ f. four_common _ f) (λ f. six_common _ f) l.four_or_six) in
                let z : some w ≡ some l.values = sym e ∙ (ap (opened_with past) q ∙ l.is_open) in
                let same : w.combination ≡ l.values.combination = cc in
                ⊎_elim (λ f. omega arith) (λ f. omega arith) l.four_or_six

        one : (k m : ℕ) (w u : Values) → w.combination ≡ 5 → is_common_combination u.combination ≡ true → Which k w → Which m u → k ≡ m
        one k m w u h g (inl q) (inl r) = q.0 ∙ sym r.0
        one k m w u h g (inl q) (inr f) = absurd (first_alone v free (inr (ap (λ (x : Values). x.combination) q.1 ∙ h)) m u f g)
        one k m w u h g (inr e) (inl r) = absurd (beside k w e h (ap (λ (x : Values). is_common_combination x.combination) r.1 ∙ g))
        one k m w u h g (inr e) (inr f) = placed.alone k m w u e h f g

    -- ---- what the calls keep

    open_placed : (n : ℕ) (v : Values) → Placed first (made (opens n v) (open_of before n v) ∷ past)
    unfolding open_of
    open_placed n v =
        decided (open_causes before n v) _ (λ (o : Outcome Cell). Placed first (made (opens n v) (step before o) ∷ past)) (λ r. placed_refused (opens n v))
        (λ none. placed_opened n v none.1.1.1.1.0 (shut none.0.0 none.1.1.1.0.0))
      where
        shut : no_line n ≡ false → is_open (line_at before n) ≡ false → opened_with past n ≡ none
        shut h f = go (opened_with past n) refl
          where
            go : (o : Option Values) → opened_with past n ≡ o → o ≡ none
            go none e = refl
            go (some w) e = not_both (allowed_open first n w (sound.allowed n w e) (held_by past n)) (ap is_open (sym (open_line first past sound n w e)) ∙ f)

    close_placed : (n : ℕ) → Placed first (made (closes n) (close_of before n) ∷ past)
    unfolding close_of
    close_placed n =
        decided (close_causes before n) _ (λ (o : Outcome Cell). Placed first (made (closes n) (step before o) ∷ past)) (λ r. placed_refused (closes n))
        (λ none. let w = is_opened first past sound n none.0.0 none.1.0.0 in placed_closed n w.values w.is_open none.1.1.0.0)

    seize_placed : (n s o : ℕ) → Placed first (made (seizes n s o) (seize_of before n s o) ∷ past)
    unfolding seize_of
    seize_placed n s o =
        decided (seize_causes before n s o) _ (λ (x : Outcome Cell). Placed first (made (seizes n s o) (step before x) ∷ past)) (λ r. placed_refused (seizes n s o))
        (λ none. placed_same _ (still_opened past (seizes n s o) n s (λ k t. refl) (λ k. refl)))

    release_placed : (n s o : ℕ) → Placed first (made (releases n s o) (release_of before n s o) ∷ past)
    unfolding release_of
    release_placed n s o =
        decided (release_causes before n s o) _ (λ (x : Outcome Cell). Placed first (made (releases n s o) (step before x) ∷ past)) (λ r. placed_refused (releases n s o))
        (λ none. placed_same _ (still_opened past (releases n s o) n s (λ k t. refl) (λ k. refl)))

    pub call_placed : (x : Call) → Placed first (made x (calling before x) ∷ past)
    call_placed (opens n v) = open_placed n v
    call_placed (closes n) = close_placed n
    call_placed (seizes n s o) = seize_placed n s o
    call_placed (releases n s o) = release_placed n s o
