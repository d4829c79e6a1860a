-- What `page` answers of a cell that the calls can hand back, `line` and `map` show: specs/Reached.antt, PageAndLine. Assumes nothing.
use Prim.Native.Nat.{ℕ, ◌+◌, ◌-◌, ◌*◌, ◌/◌, ◌≤◌, ◌<◌}
use mathlib.Core.Path.{◌≡◌, refl, sym, ap, ◌∙◌, subst}
use mathlib.Core.Bool.{Bool, true, false, ◌&&◌, cond}
use mathlib.Core.List.{List, [], ◌∷◌}
use mathlib.Core.Logic.{inl, inr, ⊎_elim}
use mathlib.Core.Option.{some}
use native.Mathlib.Nat.{mod-lt, mul-pos, eq-zero-or-pos}
use native.Mathlib.Omega.{arith}
use lib.Dec.{eqb, lit<}
use borrow.Author.Tests.{eqb-true, eqb-false, eq-eqb, ne_eqb, leb-false, le-ltb, not-false}
use Rattle.answers.specs.Outcome.{Outcome, refused, accepted, cause, any_of, decide}
use Rattle.answers.specs.Ranges.{hyperframe, line_count, no_ag, no_p}
use Rattle.answers.proofs.Count.{count_one}
use Rattle.answers.proofs.Decide.{accepted_has_none, passes}
use Rattle.answers.proofs.Tests.{and_left, or_none}
use Rattle.maps.specs.Combinations.{rows_of}
use Rattle.maps.specs.Map.{map_of}
use Rattle.maps.specs.Rows.{standing}
use Rattle.groups.specs.declared.PagingBlock.{PagingBlock}
use Rattle.groups.specs.Paging.{Common, last_three, n, r, timeslot, is_multiframe, block, common_in, is_paged, later, wait, block_for, is_imsi, imsi_cause, misplaced_lines, no_line_cause, paging_causes, paging_of}
use Rattle.groups.proofs.BlockFrames.{start_below}
use Rattle.groups.proofs.FirstBlock.{FirstBlock, first, past_turn}
use Rattle.groups.proofs.Group.{turn_below}
use Rattle.groups.proofs.Imsi.{last_three_below}
use Rattle.groups.proofs.PagedFrames.{stands_alone, in_map}
use Rattle.rules.specs.State.{Cell, LineState, Values, line_with, line_at}
use Rattle.rules.specs.Calls.{any_line, has_combination, is_common_line}
use Rattle.rules.specs.Paging.{common_lines, common_of, page_of}
use Rattle.rules.specs.History.{Made, opened_with, held_by, cell_from}
use Rattle.rules.specs.CollisionFree.{slot_from}
use Rattle.rules.specs.Reached.{PagedOn, PageAndLine, PageCauses}
use Rattle.rules.proofs.Begun.{Begun, Filled}
use Rattle.rules.proofs.Sound.{allowed_line, Sound, open_line}
use Rattle.rules.proofs.Places.{Place, five_common, Placed, Such, none_such, some_such, with_combination}
use Rattle.rules.proofs.CommonLines.{CommonIn, counted, at_most_four, common_found}
use Rattle.rules.proofs.LineAnswer.{line_is}
use Rattle.rules.proofs.Known.{known}

-- the multiframe of a frame that is given by multiframe and place
first_multiframe : {f m s : ℕ} → f ≡ 51 * m + s → s < 51 → f / 51 ≡ m
first_multiframe e h = omega arith

module _ (start : Cell) (begun : Begun start) (past : List Made) (sound : Sound start past) (placed : Placed start past) where
  abbrev cell : Cell
  cell = cell_from start past

  abbrev common : Common
  common = common_of cell

  -- a 5, if there is one
  five : any_line cell (has_combination 5) ≡ true → Such start past sound (has_combination 5)
  five e = some_such start past sound (has_combination 5) (with_combination start past sound 5 (λ z. omega arith)) e

  -- "5 needs AG ≤ 2"
  five_reserves : any_line cell (has_combination 5) ≡ true → start.ag ≤ 2
  five_reserves e =
      let w = five e in
      let k = eqb-true w.values.combination 5 w.passes in
      (placed.in_place w.line w.values w.is_open (five_common _ k)).reserved k

  -- n is above 0
  pub has_groups : 0 < n common
  unfolding cell_from
  has_groups = go (any_line cell (has_combination 5)) refl
    where
      go : (b : Bool) → any_line cell (has_combination 5) ≡ b → 0 < (cond b 3 9 - start.ag) * start.p
      go true e =
          let a = five_reserves e in
          let p = begun.p_range in
          mul-pos (omega (arith, a)) (omega (arith, p))
      go false e = let a = begun.ag_range in let p = begun.p_range in mul-pos (omega (arith, a)) (omega (arith, p))

  -- the combination of the common line in a timeslot
  combination_of : (tn : ℕ) (w : CommonIn start begun past sound placed tn) → w.values.combination ≡ common_in common.combined tn
  combination_of tn w = go (any_line cell (has_combination 5)) refl
    where
      go : (b : Bool) → any_line cell (has_combination 5) ≡ b → w.values.combination ≡ cond b 5 (cond (eqb tn 0) 4 6)
      go true e =
          let f = five e in
          let k = eqb-true f.values.combination 5 f.passes in
          let q = placed.alone f.line w.line f.values w.values f.is_open k w.is_open w.common in
          let z : some w.values ≡ some f.values = sym w.is_open ∙ (ap (opened_with past) (sym q) ∙ f.is_open) in
          let same : w.values.combination ≡ f.values.combination = cc in
          same ∙ k
      go false e = by_place (placed.in_place w.line w.values w.is_open w.common).place
        where
          by_place : Place w.values → w.values.combination ≡ cond (eqb tn 0) 4 6
          by_place (inl p) =
              ⊎_elim (λ k. k ∙ sym (ap (λ (b : Bool). cond b 4 6) (eq-eqb tn 0 (sym w.in_timeslot ∙ p.1))))
              (λ k. absurd (none_such start past sound (has_combination 5) e w.line w.values w.is_open (eq-eqb _ _ k))) p.0
          by_place (inr p) = p.0 ∙ sym (ap (λ (b : Bool). cond b 4 6) (ne_eqb tn 0 (λ z. let t = w.in_timeslot in let h = p.1 in omega (arith, z, t, h))))

  -- ---- the answer

  module _ (digits : List ℕ) (fn : ℕ) (hf : fn < hyperframe) (imsi : is_imsi digits ≡ true) (hk : 0 < common.K) where
    abbrev i : ℕ
    i = last_three digits

    frame : ℕ
    frame = later fn (wait common i fn)

    found : FirstBlock common i fn
    found = first common i fn has_groups (last_three_below digits imsi) hf

    line : CommonIn start begun past sound placed (timeslot common i)
    line = common_found start begun past sound placed (r common i / n common) (turn_below common i has_groups hk)

    paged_on : PagedOn cell digits fn (block_for common i fn)
    unfolding is_paged frame block_for
    paged_on =
        record {
          line = line.line;
          within = allowed_line start line.line v (sound.allowed line.line v line.is_open);
          common = ap is_common_line opened ∙ line.common;
          in_timeslot = ap (λ (l : LineState). l.tn) opened ∙ line.in_timeslot;
          slot = slot_from start past line.line v frame 0;
          answer = line_is start begun past sound line.line v line.is_open frame in_hyperframe 0 (lit< tt);
          burst = ap (λ (k : ℕ). standing (rows_of k v.tn 0) frame) combination ∙ (ap (λ (t : ℕ). standing (rows_of (common_in common.combined (timeslot common i)) t 0) frame) line.in_timeslot ∙ stands_alone common i has_groups frame found.begins);
          combination = ap (λ (l : LineState). l.combination) opened ∙ combination;
          on_map = ap (λ (k : ℕ). map_of k (timeslot common i) frame 0) (ap (λ (l : LineState). l.combination) opened ∙ combination) ∙ in_map common i has_groups frame found.begins below_8 in_hyperframe;
          multiframe = eqb-true _ _ (and_left (is_multiframe common i frame) _ found.begins);
          frame = refl;
          first = found.none_before;
          past_turn = λ none. first_multiframe (past_turn common i fn has_groups (last_three_below digits imsi) hf none) (start_below (block common i));
        }
      where
        v : Values
        v = line.values

        opened : line_at cell line.line ≡ line_with v (held_by past line.line)
        opened = open_line start past sound line.line v line.is_open

        in_hyperframe : frame < hyperframe
        in_hyperframe = mod-lt (fn + wait common i fn) (lit< tt)

        combination : v.combination ≡ common_in common.combined (timeslot common i)
        combination = combination_of (timeslot common i) line

        below_8 : timeslot common i < 8
        below_8 = let a = turn_below common i has_groups hk in let b = at_most_four start begun past sound placed in omega (arith, a, b)

  page_shown : (digits : List ℕ) (fn : ℕ) (b : PagingBlock) → page_of cell digits fn ≡ accepted b → PagedOn cell digits fn b
  unfolding page_of paging_of
  page_shown digits fn b e =
      let w = accepted_has_none _ (paging_causes common digits fn) b e in
      let hk : 0 < common.K = ⊎_elim (λ z. absurd (eqb-false _ _ w.1.1.1.1.0.0 z)) (λ p. p) (eq-zero-or-pos common.K) in
      subst (PagedOn cell digits fn) w.0 (paged_on digits fn (leb-false _ _ w.1.1.0.0) (not-false _ w.1.1.0.1.0) hk)

  -- ---- the refusals

  -- with a 5 there is no other common line
  five_alone : any_line cell (has_combination 5) ≡ true → common_lines cell ≤ 1
  five_alone e = count_one (λ m. is_common_line (line_at cell m)) line_count (λ m n hm hn em en. sym (as_five m hm em) ∙ as_five n hn en)
    where
      f : Such start past sound (has_combination 5)
      f = five e

      as_five : (m : ℕ) → m < line_count → is_common_line (line_at cell m) ≡ true → f.line ≡ m
      as_five m h c =
          let k = counted start begun past sound placed m h c in
          placed.alone f.line m f.values k.values f.is_open (eqb-true _ _ f.passes) k.is_open k.common

  unless : (b t : Bool) → (b ≡ true → t ≡ false) → (b && t) ≡ false
  unless true t f = f refl
  unless false t f = refl

  page_causes : Filled start → (digits : List ℕ) (fn : ℕ)
      → page_of cell digits fn ≡ decide (imsi_cause digits fn ∷ no_line_cause common ∷ []) (block_for common (last_three digits) fn)
  unfolding page_of paging_of cell_from decide
  page_causes filled digits fn =
      passes (cause 2 (no_ag start.ag ∷ no_p start.p ∷ [])) (imsi_cause digits fn ∷ cause 8 (misplaced_lines common) ∷ no_line_cause common ∷ []) (block_for common (last_three digits) fn) (le-ltb 7 start.ag begun.ag_range, (or_none (le-ltb start.p 2 begun.p_range) (le-ltb 9 start.p filled.p_most), tt))
      ∙ ap (λ (o : Outcome PagingBlock). cond (any_of (imsi_cause digits fn).conditions) (refused (imsi_cause digits fn).refusal) o)
      (passes (cause 8 (misplaced_lines common)) (no_line_cause common ∷ []) (block_for common (last_three digits) fn) (
        le-ltb 4 common.K (at_most_four start begun past sound placed),
        (unless _ _ (λ e. le-ltb 1 common.K (five_alone e)), (unless _ _ (λ e. le-ltb 2 start.ag (five_reserves e)), tt)),
      ))

-- ---- the claim

pub page_and_line : PageAndLine
unfolding PageAndLine
page_and_line c w =
    let k = known c w in
    subst (λ (x : Cell). (digits : List ℕ) (fn : ℕ) (b : PagingBlock) → page_of x digits fn ≡ accepted b → PagedOn x digits fn b) (sym k.as_listed)
    (page_shown k.first k.begun k.past k.sound k.placed)

pub causes_of_page : PageCauses
unfolding PageCauses
causes_of_page c w digits fn =
    let k = known c w in
    subst (λ (x : Cell). page_of x digits fn ≡ decide (imsi_cause digits fn ∷ no_line_cause (common_of x) ∷ []) (block_for (common_of x) (last_three digits) fn)) (sym k.as_listed)
    (page_causes k.first k.begun k.past k.sound k.placed k.filled digits fn)
