-- What every history of calls has, whatever the list: the open lines are allowed, and no two of them clash. Kept by each call. Assumes nothing.
use Prim.Native.Nat.{ℕ, ◌≤◌, ◌<◌}
use mathlib.Core.Path.{◌≡◌, refl, sym, ap, ◌∙◌, subst}
use mathlib.Core.Bool.{true, false, not, ◌&&◌}
use mathlib.Core.List.{List, [], ◌∷◌}
use mathlib.Core.Logic.{◌⊎◌, inl, inr}
use mathlib.Core.Option.{Option, none, some}
use native.Mathlib.Omega.{arith}
use borrow.Author.Tests.{ltb-true, ltb-false, leb-false, ne_eqb, not-false}
use Rattle.answers.specs.Outcome.{Outcome}
use Rattle.answers.specs.Ranges.{line_count, no_line}
use Rattle.answers.specs.Search.{any_below}
use Rattle.answers.specs.Claims.{NoneHolds}
use Rattle.answers.proofs.Decide.{decided}
use Rattle.answers.proofs.Search.{any_at}
use Rattle.answers.proofs.Tests.{and_both, refute, not_both}
use Rattle.hops.specs.Masks.{ones, one_at_or_above}
use Rattle.hops.specs.Hopping.{mask_cause, maio_cause}
use Rattle.hops.specs.Clash.{clash}
use Rattle.maps.specs.Combinations.{is_combination}
use Rattle.maps.proofs.Range.{combination_zero}
use Rattle.rules.specs.State.{Cell, LineState, Values, line_with, closed_line, is_open, line_at}
use Rattle.rules.specs.Calls.{Step, step, open_range, physical, line_physical, in_the_way, open_causes, open_of, close_causes, close_of, seize_causes, seize_of, release_causes, release_of}
use Rattle.rules.specs.History.{Call, opens, closes, seizes, releases, Made, opened_with, last_accepted, since, held_by, line_or, cell_from}
use Rattle.rules.specs.CollisionFree.{calling, made}
use Rattle.rules.proofs.History.{none_is_not_some, was_accepted, was_refused, open_after_open, open_after_close, still_opened}
use Rattle.rules.proofs.AsListed.{line_listed, refused_listed, opened_listed, closed_listed, owner_listed}

-- the numbers of an open line are in range, its mask fits CA and its MAIO is below N
pub record Allowed (first : Cell) (n : ℕ) (v : Values) : Type 0 where
  pub range : NoneHolds (open_range n v)
  pub mask : NoneHolds (mask_cause first.size v.mask).conditions
  pub maio : NoneHolds (maio_cause v.mask v.maio).conditions

-- two lines do not clash, in one order or the other
abbrev pub Clear : Values → Values → Type 0
Clear v w = (clash (physical v) (physical w) ≡ false) ⊎ (clash (physical w) (physical v) ≡ false)

pub record Sound (first : Cell) (past : List Made) : Type 0 where
  pub allowed : (n : ℕ) (v : Values) → opened_with past n ≡ some v → Allowed first n v
  pub clear : (n m : ℕ) (v w : Values) → (n ≡ m → ⊥) → opened_with past n ≡ some v → opened_with past m ≡ some w → Clear v w

-- nothing is open before the first call
pub sound_first : (first : Cell) → Sound first []
unfolding opened_with held_by since last_accepted
sound_first first = record { allowed = λ n v e. absurd (none_is_not_some e); clear = λ n m v w d e f. absurd (none_is_not_some e) }

-- ---- what an open line has

module _ (first : Cell) (n : ℕ) (v : Values) (a : Allowed first n v) where
  pub allowed_line : n < line_count
  allowed_line = leb-false line_count n a.range.0

  pub allowed_combination : not (is_combination v.combination) ≡ false
  allowed_combination = a.range.1.1.1.0

  pub allowed_tn : v.tn < 8
  allowed_tn = let h = ltb-false 7 v.tn a.range.1.0 in omega (arith, h)

  pub allowed_hsn : v.hsn < 64
  allowed_hsn = let h = ltb-false 63 v.hsn a.range.1.1.0 in omega (arith, h)

  pub allowed_tsc : v.tsc ≤ 7
  allowed_tsc = ltb-false 7 v.tsc a.range.1.1.1.1.0

  -- the mask is within CA, and MAIO below N
  pub allowed_within : one_at_or_above v.mask first.size ≡ false
  allowed_within = a.mask.1.0

  pub allowed_maio : v.maio < ones v.mask
  allowed_maio = ltb-true _ _ (not-false _ a.maio.0)

  -- it is open
  pub allowed_open : (owners : ℕ → ℕ) → is_open (line_with v owners) ≡ true
  allowed_open owners = ap not (ne_eqb v.combination 0 (λ z. not_both (combination_zero v.combination z) allowed_combination))

-- ---- one more call

closed : is_open closed_line ≡ false
unfolding closed_line
closed = refl

module _ (first : Cell) (past : List Made) (sound : Sound first past) where
  -- a call that opens and closes nothing
  sound_same : (after : List Made) → ((k : ℕ) → opened_with after k ≡ opened_with past k) → Sound first after
  sound_same after same =
      record {
        allowed = λ n v e. sound.allowed n v (sym (same n) ∙ e);
        clear = λ n m v w d e f. sound.clear n m v w d (sym (same n) ∙ e) (sym (same m) ∙ f);
      }

  sound_closed : (n : ℕ) → Sound first (was_accepted (closes n) ∷ past)
  sound_closed n =
      record {
        allowed = λ k v e. sound.allowed k v (open_after_close past n k v e).1;
        clear = λ k m v w d e f. sound.clear k m v w d (open_after_close past n k v e).1 (open_after_close past n m w f).1;
      }

  module _ (n : ℕ) (v : Values) (a : Allowed first n v) (free : (m : ℕ) (w : Values) → opened_with past m ≡ some w → clash (physical v) (physical w) ≡ false) where
    sound_opened : Sound first (was_accepted (opens n v) ∷ past)
    sound_opened = record { allowed = λ k w e. may k w (open_after_open past n v k w e); clear = λ k m w u d e f. apart k m w u d (open_after_open past n v k w e) (open_after_open past n v m u f) }
      where
        Which : ℕ → Values → Type 0
        Which k w = ((k ≡ n) × (v ≡ w)) ⊎ (opened_with past k ≡ some w)

        may : (k : ℕ) (w : Values) → Which k w → Allowed first k w
        may k w (inl q) = subst (λ (u : Values). Allowed first k u) q.1 (subst (λ (i : ℕ). Allowed first i v) (sym q.0) a)
        may k w (inr e) = sound.allowed k w e

        apart : (k m : ℕ) (w u : Values) → (k ≡ m → ⊥) → Which k w → Which m u → Clear w u
        apart k m w u d (inl q) (inl r) = absurd (d (q.0 ∙ sym r.0))
        apart k m w u d (inl q) (inr f) = inl (subst (λ (x : Values). clash (physical x) (physical u) ≡ false) q.1 (free m u f))
        apart k m w u d (inr e) (inl r) = inr (subst (λ (x : Values). clash (physical x) (physical w) ≡ false) r.1 (free k w e))
        apart k m w u d (inr e) (inr f) = sound.clear k m w u d e f

  -- ---- what the calls keep

  abbrev before : Cell
  before = cell_from first past

  -- the cell after the call is the one that the history says, and the history is sound
  abbrev pub Kept : Call → Step → Type 0
  Kept x s = (s.cell ≡ cell_from first (made x s ∷ past)) × Sound first (made x s ∷ past)

  refused_kept : (x : Call) → (before ≡ cell_from first (was_refused x ∷ past)) × Sound first (was_refused x ∷ past)
  unfolding opened_with held_by since last_accepted
  refused_kept x = (refused_listed first past x, sound_same (was_refused x ∷ past) (λ k. refl))

  -- line m of the cell, if it is open
  pub open_line : (m : ℕ) (w : Values) → opened_with past m ≡ some w → line_at before m ≡ line_with w (held_by past m)
  open_line m w e = line_listed first past m (allowed_line first m w (sound.allowed m w e)) ∙ ap (λ (o : Option Values). line_or o (held_by past m)) e

  open_free : (v : Values) → any_below (in_the_way before v) line_count ≡ false → (m : ℕ) (w : Values) → opened_with past m ≡ some w → clash (physical v) (physical w) ≡ false
  open_free v h m w e =
      refute (clash (physical v) (physical w))
      (λ t. not_both (any_at (in_the_way before v) line_count m (allowed_line first m w (sound.allowed m w e)) (way t)) h)
    where
      way : clash (physical v) (physical w) ≡ true → in_the_way before v m ≡ true
      way t =
          subst (λ (l : LineState). (is_open l && clash (physical v) (line_physical l)) ≡ true) (sym (open_line m w e))
          (and_both (allowed_open first m w (sound.allowed m w e) (held_by past m)) t)

  open_kept : (n : ℕ) (v : Values) → Kept (opens n v) (open_of before n v)
  unfolding open_of cell_from
  open_kept n v =
      decided (open_causes before n v) _ (λ (o : Outcome Cell). Kept (opens n v) (step before o)) (λ r. refused_kept (opens n v))
      (λ none. (opened_listed first past n v, sound_opened n v (record { range = none.0; mask = none.1.0; maio = none.1.1.0 }) (open_free v none.1.1.1.1.1.0.0)))

  close_kept : (n : ℕ) → Kept (closes n) (close_of before n)
  unfolding close_of
  close_kept n =
      decided (close_causes before n) _ (λ (o : Outcome Cell). Kept (closes n) (step before o)) (λ r. refused_kept (closes n))
      (λ none. (closed_listed first past n, sound_closed n))

  -- a line that is open in the cell is open in the history
  pub record Opened (n : ℕ) : Type 0 where
    pub values : Values
    pub within : n < line_count
    pub is_open : opened_with past n ≡ some values

  pub is_opened : (n : ℕ) → no_line n ≡ false → not (is_open (line_at before n)) ≡ false → Opened n
  is_opened n h t = go (opened_with past n) refl
    where
      within : n < line_count
      within = leb-false line_count n h

      go : (o : Option Values) → opened_with past n ≡ o → Opened n
      go none e =
          not_both {b = is_open closed_line} (subst (λ (l : LineState). is_open l ≡ true) (line_listed first past n within ∙ ap (λ (o : Option Values). line_or o (held_by past n)) e) (not-false _ t))
          closed
      go (some v) e = record { values = v; within = within; is_open = e }

  seize_kept : (n s o : ℕ) → Kept (seizes n s o) (seize_of before n s o)
  unfolding seize_of
  seize_kept n s o =
      decided (seize_causes before n s o) _ (λ (x : Outcome Cell). Kept (seizes n s o) (step before x)) (λ r. refused_kept (seizes n s o))
      (λ none. let w = is_opened n none.0.0 none.1.0.0 in
      (owner_listed first past (seizes n s o) n s (λ k t. refl) (λ k. refl) w.values w.within w.is_open, sound_same _ (still_opened past (seizes n s o) n s (λ k t. refl) (λ k. refl))))

  release_kept : (n s o : ℕ) → Kept (releases n s o) (release_of before n s o)
  unfolding release_of
  release_kept n s o =
      decided (release_causes before n s o) _ (λ (x : Outcome Cell). Kept (releases n s o) (step before x)) (λ r. refused_kept (releases n s o))
      (λ none. let w = is_opened n none.0.0 none.1.0.0 in
      (owner_listed first past (releases n s o) n s (λ k t. refl) (λ k. refl) w.values w.within w.is_open, sound_same _ (still_opened past (releases n s o) n s (λ k t. refl) (λ k. refl))))

  pub call_kept : (x : Call) → Kept x (calling before x)
  call_kept (opens n v) = open_kept n v
  call_kept (closes n) = close_kept n
  call_kept (seizes n s o) = seize_kept n s o
  call_kept (releases n s o) = release_kept n s o
