-- who and line agree in both directions on every cell that the calls can hand back: specs/Reached.antt, WhoAndLine. Assumes nothing.
use Prim.Native.Nat.{ℕ, ◌≤◌, ◌<◌}
use mathlib.Core.Path.{◌≡◌, refl, sym, ap, ◌∙◌, subst}
use mathlib.Core.Bool.{Bool, true, false, not, cond}
use mathlib.Core.List.{List}
use mathlib.Core.Logic.{⊎_elim}
use mathlib.Core.Option.{none, some}
use native.Mathlib.Omega.{arith}
use lib.Dec.{eqb}
use borrow.Author.Tests.{eqb-true, eqb-false, eq-eqb, ltb-false, le-ltb, lt-leb, leb-false, not-false}
use Rattle.answers.specs.Outcome.{accepted}
use Rattle.answers.specs.Ranges.{hyperframe, line_count}
use Rattle.answers.specs.Search.{least}
use Rattle.answers.specs.Claims.{NoCause}
use Rattle.answers.proofs.Decide.{passes, accepts, accepted_has_none}
use Rattle.answers.proofs.Search.{First, any_at, first_of, first_or_none, least_first, any_none}
use Rattle.answers.proofs.Tests.{and_left, and_right, and_both}
use Rattle.hops.specs.Hopping.{line_position, line_arfcn, line_tuning}
use Rattle.hops.specs.declared.Tuning.{Tuning}
use Rattle.hops.proofs.Apart.{line_within, entry_arfcn}
use Rattle.rules.specs.State.{Cell, LineState, Values, is_open, line_at, allocation}
use Rattle.rules.specs.OnAir.{Slot, tuning_in, slot_of, line_causes, line_of}
use Rattle.rules.specs.Who.{line_is_on, Match, match_at, who_causes, match_of, who_of}
use Rattle.rules.specs.History.{Made, opened_with, cell_from}
use Rattle.rules.specs.Reached.{NoneShown, WhoAgrees, WhoAndLine}
use Rattle.rules.proofs.History.{none_is_not_some}
use Rattle.rules.proofs.Begun.{Begun}
use Rattle.rules.proofs.Sound.{Sound, allowed_tn, allowed_within, allowed_maio, open_line, is_opened}
use Rattle.rules.proofs.LineAnswer.{tuning_is}
use Rattle.rules.proofs.CollisionFree.{lines_apart}
use Rattle.rules.proofs.Known.{known}

-- ---- of any cell

module _ (c : Cell) (fn direction : ℕ) where
  -- what an accepted `line` shows
  pub record LineShown (n : ℕ) (s : Slot) : Type 0 where
    pub within : n < line_count
    pub frame : fn < hyperframe
    pub in_direction : direction ≤ 1
    pub is_open : is_open (line_at c n) ≡ true
    pub slot : slot_of c (line_at c n) fn direction ≡ s

  pub line_shown : (n : ℕ) (s : Slot) → line_of c n fn direction ≡ accepted s → LineShown n s
  unfolding line_of
  line_shown n s e =
      let w = accepted_has_none _ (line_causes c n fn direction) s e in
      let l = ltb-false 63 n w.1.0.0 in
      record {
        within = omega (arith, l);
        frame = leb-false _ _ w.1.0.1.0;
        in_direction = ltb-false _ _ w.1.0.1.1.0;
        is_open = not-false _ w.1.1.0.0;
        slot = w.0;
      }

  pub shows_line : (n : ℕ) → n < line_count → fn < hyperframe → direction ≤ 1 → is_open (line_at c n) ≡ true
      → line_of c n fn direction ≡ accepted (slot_of c (line_at c n) fn direction)
  unfolding line_of
  shows_line n h f d o =
      passes _ _ _ (lt-leb line_count n h, (lt-leb _ _ f, (le-ltb 1 direction d, tt))) ∙ (passes _ _ _ (ap not o, tt) ∙ accepts _)

module _ (c : Cell) (tn arfcn fn : ℕ) where
  abbrev test : ℕ → Bool
  test = line_is_on c tn arfcn fn

  -- what the test says of a line
  on_open : (m : ℕ) → line_is_on c tn arfcn fn m ≡ true → is_open (line_at c m) ≡ true
  on_open m e = and_left (is_open (line_at c m)) _ e

  on_tn : (m : ℕ) → line_is_on c tn arfcn fn m ≡ true → (line_at c m).tn ≡ tn
  on_tn m e = eqb-true _ _ (and_left (eqb (line_at c m).tn tn) _ (and_right (is_open (line_at c m)) _ e))

  on_arfcn : (m : ℕ) → line_is_on c tn arfcn fn m ≡ true → (tuning_in c (line_at c m) fn).arfcn ≡ arfcn
  on_arfcn m e = eqb-true _ _ (and_right (eqb (line_at c m).tn tn) _ (and_right (is_open (line_at c m)) _ e))

  -- who's answer, by the first line that is on
  found : (direction : ℕ) (w : First test line_count) → match_of c tn arfcn fn direction ≡ some (match_at c w.place fn direction)
  unfolding match_of
  found direction w =
      ap (λ (b : Bool). cond b (some (match_at c (least test line_count line_count) fn direction)) none) (any_at test line_count w.place w.below w.passes)
      ∙ ap (λ (k : ℕ). some (match_at c k fn direction)) (least_first test line_count line_count w)

  none_found : (direction : ℕ) → ((k : ℕ) → k < line_count → test k ≡ false) → match_of c tn arfcn fn direction ≡ none
  unfolding match_of
  none_found direction f =
      ap (λ (b : Bool). cond b (some (match_at c (least test line_count line_count) fn direction)) none) (any_none test line_count f)

  -- what who names, line shows
  pub who_shown : (direction : ℕ) (f : Match) → who_of c tn arfcn fn direction ≡ accepted (some f)
      → (line_of c f.line fn direction ≡ accepted f.slot) × ((line_at c f.line).tn ≡ tn) × (f.slot.tuning.arfcn ≡ arfcn)
  unfolding who_of slot_of
  who_shown direction f e = ⊎_elim somebody (λ g. absurd (none_is_not_some (sym (none_found direction g) ∙ given.0))) (first_or_none test line_count)
    where
      given : (match_of c tn arfcn fn direction ≡ some f) × NoCause (who_causes tn arfcn fn direction)
      given = accepted_has_none _ (who_causes tn arfcn fn direction) (some f) e

      Agrees : Match → Type 0
      Agrees x = (line_of c x.line fn direction ≡ accepted x.slot) × ((line_at c x.line).tn ≡ tn) × (x.slot.tuning.arfcn ≡ arfcn)

      somebody : First test line_count → Agrees f
      somebody w =
          subst Agrees (let z : some (match_at c w.place fn direction) ≡ some f = sym (found direction w) ∙ given.0 in let q : match_at c w.place fn direction ≡ f = cc in q)
          (shows_line c fn direction w.place w.below (leb-false _ _ given.1.0.1.1.0) (ltb-false _ _ given.1.0.1.1.1.0) (on_open w.place w.passes), on_tn w.place w.passes, on_arfcn w.place w.passes)

-- ---- of a cell that the calls can hand back

module _ (first : Cell) (begun : Begun first) (past : List Made) (sound : Sound first past) where
  abbrev cell : Cell
  cell = cell_from first past

  -- what the history says of a line that is open
  pub record OnLine (n fn : ℕ) : Type 0 where
    pub values : Values
    pub is_open : opened_with past n ≡ some values
    pub in_timeslot : (line_at cell n).tn ≡ values.tn
    pub of_mask : (line_at cell n).mask ≡ values.mask
    pub tuning : tuning_in cell (line_at cell n) fn ≡ line_tuning (allocation first) values.mask values.hsn values.maio fn

  pub on_line : (n fn : ℕ) → n < line_count → fn < hyperframe → is_open (line_at cell n) ≡ true → OnLine n fn
  unfolding cell_from
  on_line n fn h hf o =
      let w = is_opened first past sound n (lt-leb line_count n h) (ap not o) in
      let l = open_line first past sound n w.values w.is_open in
      record {
        values = w.values;
        is_open = w.is_open;
        in_timeslot = ap (λ (x : LineState). x.tn) l;
        of_mask = ap (λ (x : LineState). x.mask) l;
        tuning = ap (λ (x : LineState). tuning_in (cell_from first past) x fn) l ∙ tuning_is first begun n w.values (sound.allowed n w.values w.is_open) fn hf;
      }

  -- and of the ARFCN that it has
  arfcn_is : (n fn : ℕ) (w : OnLine n fn) → (tuning_in cell (line_at cell n) fn).arfcn ≡ line_arfcn (allocation first) w.values.mask w.values.hsn w.values.maio fn
  arfcn_is n fn w = ap (λ (t : Tuning). t.arfcn) w.tuning

  pub one_line : (tn arfcn fn m n : ℕ) → fn < hyperframe → m < line_count → n < line_count
      → line_is_on cell tn arfcn fn m ≡ true → line_is_on cell tn arfcn fn n ≡ true → m ≡ n
  one_line tn arfcn fn m n hf hm hn em en = go (eqb m n) refl
    where
      v : OnLine m fn
      v = on_line m fn hm hf (on_open cell tn arfcn fn m em)

      w : OnLine n fn
      w = on_line n fn hn hf (on_open cell tn arfcn fn n en)

      go : (b : Bool) → eqb m n ≡ b → m ≡ n
      go true e = eqb-true m n e
      go false e =
          absurd (lines_apart first begun past sound m n v.values w.values (eqb-false m n e) v.is_open w.is_open
          (sym v.in_timeslot ∙ (on_tn cell tn arfcn fn m em ∙ (sym (on_tn cell tn arfcn fn n en) ∙ w.in_timeslot))) fn
          (sym (arfcn_is m fn v) ∙ (on_arfcn cell tn arfcn fn m em ∙ (sym (on_arfcn cell tn arfcn fn n en) ∙ arfcn_is n fn w))))

  -- an open line's timeslot and ARFCN are in range
  in_range : (n fn direction : ℕ) → n < line_count → fn < hyperframe → direction ≤ 1 → is_open (line_at cell n) ≡ true
      → NoCause (who_causes (line_at cell n).tn (tuning_in cell (line_at cell n) fn).arfcn fn direction)
  in_range n fn direction h hf hd o =
      let w = on_line n fn h hf o in
      let a = sound.allowed n w.values w.is_open in
      let t = allowed_tn first n w.values a in
      let p = line_within w.values.mask w.values.hsn w.values.maio fn (allowed_maio first n w.values a) first.size (allowed_within first n w.values a) in
      let e = entry_arfcn (allocation first) begun.allocated (line_position w.values.mask w.values.hsn w.values.maio fn) (subst (λ (k : ℕ). line_position w.values.mask w.values.hsn w.values.maio fn < k) (sym begun.known_length) p) in
      ((le-ltb 7 (line_at cell n).tn (let q = w.in_timeslot in omega (arith, t, q)), (le-ltb 1023 (tuning_in cell (line_at cell n) fn).arfcn (let q = arfcn_is n fn w in omega (arith, e, q)), (lt-leb _ _ hf, (le-ltb 1 direction hd, tt)))), tt)

  -- an open line is on in its own timeslot and on its own ARFCN
  pub is_on : (n fn : ℕ) → is_open (line_at cell n) ≡ true → line_is_on cell (line_at cell n).tn (tuning_in cell (line_at cell n) fn).arfcn fn n ≡ true
  is_on n fn o = and_both o (and_both (eq-eqb (line_at cell n).tn (line_at cell n).tn refl) (eq-eqb (tuning_in cell (line_at cell n) fn).arfcn (tuning_in cell (line_at cell n) fn).arfcn refl))

  named : (n fn direction : ℕ) (s : Slot) → line_of cell n fn direction ≡ accepted s
      → who_of cell (line_at cell n).tn s.tuning.arfcn fn direction ≡ accepted (some (record { line = n; slot = s }))
  unfolding who_of slot_of
  named n fn direction s e = subst (λ (x : Slot). who_of cell tn x.tuning.arfcn fn direction ≡ accepted (some (record { line = n; slot = x }))) l.slot named_so
    where
      tn : ℕ
      tn = (line_at cell n).tn

      arfcn : ℕ
      arfcn = (tuning_in cell (line_at cell n) fn).arfcn

      l : LineShown cell fn direction n s
      l = line_shown cell fn direction n s e

      on : line_is_on cell tn arfcn fn n ≡ true
      on = is_on n fn l.is_open

      w : First (line_is_on cell tn arfcn fn) line_count
      w = first_of (line_is_on cell tn arfcn fn) line_count n l.within on

      named_so : who_of cell tn arfcn fn direction ≡ accepted (some (match_at cell n fn direction))
      named_so =
          passes _ _ _ (in_range n fn direction l.within l.frame l.in_direction l.is_open).0
          ∙ (accepts _
          ∙ ap accepted (found cell tn arfcn fn direction w
          ∙ ap (λ (k : ℕ). some (match_at cell k fn direction)) (one_line tn arfcn fn w.place n l.frame w.below l.within w.passes on)))

  nobody : (tn arfcn fn direction : ℕ) → who_of cell tn arfcn fn direction ≡ accepted none → NoneShown cell tn arfcn fn direction
  nobody tn arfcn fn direction e n s h t q =
      let a : who_of cell tn arfcn fn direction ≡ accepted (some (record { line = n; slot = s })) =
      ap (λ (x : ℕ). who_of cell x arfcn fn direction) (sym t) ∙ (ap (λ (x : ℕ). who_of cell (line_at cell n).tn x fn direction) (sym q) ∙ named n fn direction s h) in
      let z : ◌≡◌ {A = ℕ} 0 1 = cc in omega arith

  only_nobody : (tn arfcn fn direction : ℕ) → tn ≤ 7 → arfcn ≤ 1023 → fn < hyperframe → direction ≤ 1 → NoneShown cell tn arfcn fn direction
      → who_of cell tn arfcn fn direction ≡ accepted none
  unfolding who_of slot_of
  only_nobody tn arfcn fn direction ht ha hf hd h =
      ⊎_elim (λ w. absurd (h w.place _ (shows_line cell fn direction w.place w.below hf hd (on_open cell tn arfcn fn w.place w.passes)) (on_tn cell tn arfcn fn w.place w.passes) (on_arfcn cell tn arfcn fn w.place w.passes)))
      (λ f. passes _ _ _ (le-ltb 7 tn ht, (le-ltb 1023 arfcn ha, (lt-leb _ _ hf, (le-ltb 1 direction hd, tt)))) ∙ (accepts _ ∙ ap accepted (none_found cell tn arfcn fn direction f)))
      (first_or_none (line_is_on cell tn arfcn fn) line_count)

  who_agrees : WhoAgrees cell
  who_agrees = record { at_most_one = one_line; shown = λ tn arfcn fn. who_shown cell tn arfcn fn; named = named; nobody = nobody; only_nobody = only_nobody }

-- ---- the claim

pub who_and_line : WhoAndLine
unfolding WhoAndLine
who_and_line c w =
    let k = known c w in
    subst WhoAgrees (sym k.as_listed) (who_agrees k.first k.begun k.past k.sound)
