-- specs/Claims.antt proved, from what Causes.antt, History.antt, SubchannelRows.antt, WhoAndLine.antt, CommonLines.antt and PageAndLine.antt
-- have. Assumes nothing.
use Prim.Native.Nat.{ℕ, ◌*◌, ◌<◌}
use mathlib.Core.Path.{◌≡◌, refl, sym, ap, ◌∙◌, subst}
use mathlib.Core.Bool.{Bool, true, false, not, ◌&&◌, ◌||◌}
use mathlib.Core.List.Memᴰ
use mathlib.Core.List.{List, [], ◌∷◌, Memᴰ}
use mathlib.Core.Logic.{inl, inr, ⊎_elim}
use native.Mathlib.Omega.{arith}
use lib.Dec.{eqb}
use borrow.Author.Tests.{eqb-true, eqb-false, eq-eqb, ne_eqb, not-true, not-false}
use Rattle.answers.specs.Outcome.{Refused, Outcome, Cause, any_of}
use Rattle.answers.specs.Ranges.{line_count}
use Rattle.answers.specs.Search.{any_below}
use Rattle.answers.specs.Claims.{Caused}
use Rattle.answers.proofs.Decide.{decided}
use Rattle.answers.proofs.Search.{First, any_at, some_first}
use Rattle.answers.proofs.Tables.{every}
use Rattle.answers.proofs.Tests.{and_left, and_right, and_both, and_false_right, and_rest, not_both, refute, or_none_left, or_none_right}
use Rattle.hops.specs.Masks.{contains, share_one}
use Rattle.hops.specs.Clash.{clash}
use Rattle.hops.proofs.Bits.{bit_contains, contains_bit}
use Rattle.maps.specs.Channels.{is_common}
use Rattle.maps.specs.Combinations.{rows_of}
use Rattle.maps.specs.Rows.{Row}
use Rattle.groups.proofs.Causes.{page_fair}
use Rattle.rules.specs.State.{Cell, LineState, Values, closed_line, is_open, line_at, empty}
use Rattle.rules.specs.Calls.{step, start_causes, start_of, physical, line_physical, clash_cause, open_causes, subchannels, is_common_line}
use Rattle.rules.specs.Paging.{common_lines, common_of, page_of}
use Rattle.rules.specs.History.{Made, opened_with, last_accepted, since, held_by, is_seized, cell_from}
use Rattle.rules.specs.CollisionFree.{begin}
use Rattle.rules.specs.WellFormed.{Closed}
use Rattle.rules.specs.Claims.{FairCalls, StartsClosed, StandsInTheWay, NamesSmallest, ClashNamesSmallest, HasRow, SubchannelsOfMap, Beside, ReadsTheList, HeldHasOwner, WhoNames, CommonIn, CountedInOrder, CommonLinesInOrder}
use Rattle.rules.proofs.Tabulate.{tabulate_at}
use Rattle.rules.proofs.Begun.{Begun, start_begun}
use Rattle.rules.proofs.Sound.{allowed_line, Sound, open_line}
use Rattle.rules.proofs.Places.{Placed}
use Rattle.rules.proofs.Shown.{held_is_owned}
use Rattle.rules.proofs.CollisionFree.{begin_keeps, run_keeps}
use Rattle.rules.proofs.Causes.{start_fair, open_fair, close_fair, seize_fair, release_fair, line_fair, who_fair, smallest_named}
use Rattle.rules.proofs.SubchannelRows.{row_subchannel, subchannel_row}
use Rattle.rules.proofs.WhoAndLine.{who_shown}
use Rattle.rules.proofs.CommonLines.{at_most_four, common_found}
use Rattle.rules.proofs.PageAndLine.{has_groups}
use Rattle.rules.proofs.WellFormed.{is_closed}
use Rattle.rules.proofs.Known.{known}

-- ---- every call is fair

pub fair_calls : FairCalls
unfolding page_of
fair_calls =
    record {
      of_start = start_fair;
      of_open = open_fair;
      of_close = close_fair;
      of_seize = seize_fair;
      of_release = release_fair;
      of_line = line_fair;
      of_who = who_fair;
      of_page = λ c digits fn. page_fair (common_of c) digits fn;
    }

-- ---- start

empty_closed : (ca : List ℕ) (c0 bcc ag p n : ℕ) → n < line_count → Closed (line_at (empty ca c0 bcc ag p) n)
unfolding empty
empty_closed ca c0 bcc ag p n h = tabulate_at line_count (λ k. closed_line) _ n h ∙ is_closed

pub starts_closed : StartsClosed
unfolding StartsClosed start_of
starts_closed ca c0 bcc ag p n h =
    decided (start_causes ca c0 bcc ag p) (empty ca c0 bcc ag p) (λ (o : Outcome Cell). Closed (line_at (step (empty (0 ∷ []) 0 0 0 2) o).cell n)) (λ r. empty_closed (0 ∷ []) 0 0 0 2 n h)
    (λ none. empty_closed ca c0 bcc ag p n h)

-- ---- 9

module _ (v : Values) (l : LineState) where
  -- what the test of 9 says, and back
  shows_clash : (is_open l && clash (physical v) (line_physical l)) ≡ true → StandsInTheWay v l
  unfolding clash share_one
  shows_clash h = here (some_first shared 64 share)
    where
      shared : ℕ → Bool
      shared p = contains v.mask p && contains l.mask p

      met : Bool
      met = eqb v.tn l.tn && any_below shared 64

      alone : Bool
      alone = eqb v.mask l.mask && eqb v.hsn l.hsn && not (eqb v.maio l.maio)

      clashes : (met && not alone) ≡ true
      clashes = and_right (is_open l) _ h

      share : any_below shared 64 ≡ true
      share = and_right (eqb v.tn l.tn) _ (and_left met _ clashes)

      here : First shared 64 → StandsInTheWay v l
      here w =
          record {
            is_open = eqb-false _ _ (not-true _ (and_left (is_open l) _ h));
            in_timeslot = sym (eqb-true _ _ (and_left (eqb v.tn l.tn) _ (and_left met _ clashes)));
            ca_position = w.place;
            below = w.below;
            one = contains_bit l.mask w.place (and_right (contains v.mask w.place) _ w.passes);
            shared = contains_bit v.mask w.place (and_left (contains v.mask w.place) _ w.passes);
            not_apart = λ m s d. not_both (and_both (and_both (eq-eqb _ _ (sym m)) (eq-eqb _ _ (sym s))) (ap not (ne_eqb _ _ (λ q. d (sym q))))) (not-true alone (and_right met _ clashes));
          }

  clash_shows : StandsInTheWay v l → (is_open l && clash (physical v) (line_physical l)) ≡ true
  unfolding clash share_one
  clash_shows w =
      and_both (ap not (ne_eqb l.combination 0 w.is_open))
      (and_both (and_both (eq-eqb _ _ (sym w.in_timeslot)) (any_at shared 64 w.ca_position w.below (and_both (bit_contains v.mask w.ca_position w.shared) (bit_contains l.mask w.ca_position w.one))))
      (ap not (refute alone apart)))
    where
      shared : ℕ → Bool
      shared p = contains v.mask p && contains l.mask p

      alone : Bool
      alone = eqb v.mask l.mask && eqb v.hsn l.hsn && not (eqb v.maio l.maio)

      apart : alone ≡ true → ⊥
      apart a =
          let both = and_left (eqb v.mask l.mask && eqb v.hsn l.hsn) _ a in
          w.not_apart (sym (eqb-true _ _ (and_left (eqb v.mask l.mask) _ both))) (sym (eqb-true _ _ (and_right (eqb v.mask l.mask) _ both)))
          (λ q. eqb-false v.maio l.maio (not-true _ (and_right (eqb v.mask l.mask && eqb v.hsn l.hsn) _ a)) (sym q))

module _ (c : Cell) (n : ℕ) (v : Values) (r : Refused) (nine : r.number ≡ 9) where
  -- the cause with number 9 is the clash
  of_clash : Caused (open_causes c n v) r → (any_of (clash_cause c v).conditions ≡ true) × ((clash_cause c v).refusal ≡ r)
  of_clash w =
      ⊎_elim (λ q. other q (λ z. omega arith)) (λ m. ⊎_elim (λ q. other q (λ z. omega arith)) (λ m. ⊎_elim (λ q. other q (λ z. omega arith)) (λ m. ⊎_elim (λ q. other q (λ z. omega arith)) (λ m. ⊎_elim (λ q. other q (λ z. omega arith))
      (λ m. ⊎_elim this (λ m. absurd (Memᴰ.not-nil m)) (Memᴰ.cases_cons m)) (Memᴰ.cases_cons m)) (Memᴰ.cases_cons m)) (Memᴰ.cases_cons m)) (Memᴰ.cases_cons m)) (Memᴰ.cases_cons w.member)
    where
      Clash : Type 0
      Clash = (any_of (clash_cause c v).conditions ≡ true) × ((clash_cause c v).refusal ≡ r)

      other : {x : Cause} → w.of ≡ x → (x.refusal.number ≡ 9 → ⊥) → Clash
      other q d = absurd (d (ap (λ (x : Cause). x.refusal.number) (sym q) ∙ (ap (λ (x : Refused). x.number) w.same ∙ nine)))

      this : w.of ≡ clash_cause c v → Clash
      this q = (subst (λ (x : Cause). any_of x.conditions ≡ true) q w.applies, subst (λ (x : Cause). x.refusal ≡ r) q w.same)

  names : (any_of (clash_cause c v).conditions ≡ true) × ((clash_cause c v).refusal ≡ r) → NamesSmallest c v r
  names h =
      let s = smallest_named c v h.0 in
      record {
        line = s.line.place;
        is_named = ap (λ (x : Refused). x.values) (sym h.1 ∙ s.is_named);
        below = s.line.below;
        in_the_way = shows_clash v (line_at c s.line.place) s.line.passes;
        smallest = λ k l w. not_both (clash_shows v (line_at c k) w) (s.line.none k l);
      }

pub clash_names_smallest : ClashNamesSmallest
unfolding ClashNamesSmallest
clash_names_smallest c n v r e nine = names c n v r nine (of_clash c n v r nine ((open_fair c n v).caused r e))

-- ---- 10

-- a row that fails the test, where not every row passes it
fails_somewhere : (test : Row → Bool) (rows : List Row) → every test rows ≡ false → (r : Row) × Memᴰ r rows × (test r ≡ false)
unfolding every
fails_somewhere test [] e = not_both refl e
fails_somewhere test (q ∷ qs) e = go (test q) refl (fails_somewhere test qs)
  where
    go : (b : Bool) → test q ≡ b → (every test qs ≡ false → (r : Row) × Memᴰ r qs × (test r ≡ false)) → (r : Row) × Memᴰ r (q ∷ qs) × (test r ≡ false)
    go true t more = let w = more (and_rest (test q) _ t e) in (w.0, Memᴰ.tail w.1, w.2)
    go false t more = (q, Memᴰ.head refl, t)

pub subchannels_of_map : SubchannelsOfMap
subchannels_of_map =
    record {
      exists = λ k tn d s ht hd w. subst (λ (t : ℕ). t < subchannels k) w.of_subchannel (row_subchannel tn ht d hd k w.row w.of_map w.not_common);
      has_row = has;
    }
  where
    has : (k tn d s : ℕ) → tn < 8 → d < 2 → s < subchannels k → HasRow k tn d s
    has k tn d s ht hd h =
        let w = fails_somewhere (λ (r : Row). is_common r.kind || not (eqb r.subchannel s)) (rows_of k tn d) (not-true _ (subchannel_row k tn d s ht hd h)) in
        record { row = w.0; of_map = w.1; not_common = or_none_left (is_common w.0.kind) _ w.2; of_subchannel = eqb-true _ _ (not-false _ (or_none_right (is_common w.0.kind) _ w.2)) }

-- ---- the list

pub reads_the_list : ReadsTheList
unfolding opened_with is_seized held_by since last_accepted
reads_the_list =
    record {
      nothing = λ k t. (refl, (refl, refl));
      refused = λ past x k t. (refl, (refl, refl));
      opened = λ past n v t. rw (eq-eqb n n refl) (refl, (refl, refl));
      closed = λ past n t. rw (eq-eqb n n refl) (refl, (refl, refl));
      beside_opened = λ past n v k t d. rw (ne_eqb n k (λ q. d (sym q))) (refl, (refl, refl));
      beside_closed = λ past n k t d. rw (ne_eqb n k (λ q. d (sym q))) (refl, (refl, refl));
      seized = λ past n s o. rw (eq-eqb n n refl, eq-eqb s s refl) (refl, refl);
      released = λ past n s o. rw (eq-eqb n n refl, eq-eqb s s refl) (refl, refl);
      beside_seized = λ past n s o k t b. rw (other n s k t b) (refl, refl);
      beside_released = λ past n s o k t b. rw (other n s k t b) (refl, refl);
      still_open = λ past n s o k. (refl, refl);
    }
  where
    other : (n s k t : ℕ) → Beside n s k t → (eqb n k && eqb s t) ≡ false
    other n s k t (inl d) = ap (λ (b : Bool). b && eqb s t) (ne_eqb n k (λ q. d (sym q)))
    other n s k t (inr d) = and_false_right (eqb n k) (ne_eqb s t (λ q. d (sym q)))

pub held_has_owner : HeldHasOwner
unfolding HeldHasOwner
held_has_owner ca c0 bcc ag p calls x = held_is_owned _ (run_keeps first calls (begin first) (begin_keeps first (start_begun ca c0 bcc ag p))).owned x
  where
    first : Cell
    first = (start_of ca c0 bcc ag p).cell

-- ---- who

pub who_names : WhoNames
who_names = record { shown = λ c tn arfcn fn. who_shown c tn arfcn fn }

-- ---- the lines that paging counts

module _ (first : Cell) (begun : Begun first) (past : List Made) (sound : Sound first past) (placed : Placed first past) where
  common_there : (j : ℕ) → j < common_lines (cell_from first past) → CommonIn (cell_from first past) (2 * j)
  common_there j h =
      let w = common_found first begun past sound placed j h in
      let q = open_line first past sound w.line w.values w.is_open in
      record {
        line = w.line;
        below = allowed_line first w.line w.values (sound.allowed w.line w.values w.is_open);
        is_common = ap is_common_line q ∙ w.common;
        in_timeslot = ap (λ (l : LineState). l.tn) q ∙ w.in_timeslot;
      }

  counted_in_order : CountedInOrder (cell_from first past)
  counted_in_order = record { at_most_four = at_most_four first begun past sound placed; in_order = common_there; has_groups = has_groups first begun past sound placed }

pub common_lines_in_order : CommonLinesInOrder
unfolding CommonLinesInOrder
common_lines_in_order c w =
    let k = known c w in
    subst CountedInOrder (sym k.as_listed) (counted_in_order k.first k.begun k.past k.sound k.placed)
