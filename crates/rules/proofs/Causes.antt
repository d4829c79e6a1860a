-- For each call of the cell: a refusal had its cause, no lower number applied, and the cell is handed back as it came; an accepted call had no
-- cause, and leaves the cell that document 01 describes. The line that 9 names is the smallest in the way. Assumes nothing.
use Prim.Native.Nat.{ℕ}
use mathlib.Core.Path.{◌≡◌, refl, sym, ap, ◌∙◌}
use mathlib.Core.Bool.{true}
use mathlib.Core.List.{List, [], ◌∷◌}
use mathlib.Core.Option.{none, some}
use native.Mathlib.Omega.{arith}
use Rattle.answers.specs.Outcome.{Refused, Outcome, refused, accepted, Cause, any_of, decide, ascending, ascending_from}
use Rattle.answers.specs.Ranges.{line_count}
use Rattle.answers.specs.Search.{any_below}
use Rattle.answers.specs.Claims.{FairAnswer, NoCause}
use Rattle.answers.proofs.Decide.{refused_has_cause, refused_is_lowest, fair_answer, decided}
use Rattle.answers.proofs.Search.{First, least_first, some_first}
use Rattle.answers.proofs.Tests.{or_false}
use Rattle.rules.specs.State.{Cell, Values, line_with, free, closed_line, line_at, empty}
use Rattle.rules.specs.Calls.{step, start_causes, refused_cell, start_of, with_line, with_owner, in_the_way, clash_cause, open_causes, open_of, close_causes, close_of, seize_causes, seize_of, release_causes, release_of}
use Rattle.rules.specs.OnAir.{slot_of, line_causes, line_of}
use Rattle.rules.specs.Who.{who_causes, match_of, who_of}
use Rattle.rules.specs.Claims.{Fair}

module _ (cs : List Cause) (before after : Cell) (ascends : ascending cs ≡ true) where
  refused_of : (r : Refused) (o : Outcome Cell) → (step before o).refusal ≡ some r → o ≡ refused r
  refused_of r (refused q) e = let z : q ≡ r = cc in ap refused z
  refused_of r (accepted a) e = absurd (let z : ◌≡◌ {A = ℕ} 0 1 = cc in omega arith)

  came : (r : Refused) (o : Outcome Cell) → (step before o).refusal ≡ some r → (step before o).cell ≡ before
  came r (refused q) e = refl
  came r (accepted a) e = absurd (let z : ◌≡◌ {A = ℕ} 0 1 = cc in omega arith)

  -- what an accepted call shows
  shows : (P : Type 0) → (NoCause cs → P) → (step before (decide cs after)).refusal ≡ none → P
  shows P f =
      decided cs after (λ (o : Outcome Cell). (step before o).refusal ≡ none → P) (λ r e. absurd (let z : ◌≡◌ {A = ℕ} 0 1 = cc in omega arith)) (λ w e. f w)

  left : (step before (decide cs after)).refusal ≡ none → (step before (decide cs after)).cell ≡ after
  left =
      decided cs after (λ (o : Outcome Cell). (step before o).refusal ≡ none → (step before o).cell ≡ after) (λ r e. absurd (let z : ◌≡◌ {A = ℕ} 0 1 = cc in omega arith)) (λ w e. refl)

  fair : Fair cs before after (step before (decide cs after))
  fair =
      record {
        caused = λ r e. refused_has_cause after cs r (refused_of r (decide cs after) e);
        lowest = λ r e. refused_is_lowest after 0 cs r ascends (refused_of r (decide cs after) e);
        as_it_came = λ r e. came r (decide cs after) e;
        no_cause = shows (NoCause cs) (λ w. w);
        as_described = left;
      }

pub start_fair : (ca : List ℕ) (c0 bcc ag p : ℕ) → Fair (start_causes ca c0 bcc ag p) refused_cell (empty ca c0 bcc ag p) (start_of ca c0 bcc ag p)
unfolding start_of ascending_from
start_fair ca c0 bcc ag p = fair _ _ _ refl

module _ (c : Cell) (n : ℕ) where
  pub open_fair : (v : Values) → Fair (open_causes c n v) c (with_line c n (line_with v free)) (open_of c n v)
  unfolding open_of ascending_from
  open_fair v = fair _ _ _ refl

  pub close_fair : Fair (close_causes c n) c (with_line c n closed_line) (close_of c n)
  unfolding close_of ascending_from
  close_fair = fair _ _ _ refl

  pub seize_fair : (s o : ℕ) → Fair (seize_causes c n s o) c (with_line c n (with_owner (line_at c n) s o)) (seize_of c n s o)
  unfolding seize_of ascending_from
  seize_fair s o = fair _ _ _ refl

  pub release_fair : (s o : ℕ) → Fair (release_causes c n s o) c (with_line c n (with_owner (line_at c n) s 0)) (release_of c n s o)
  unfolding release_of ascending_from
  release_fair s o = fair _ _ _ refl

  -- `line` and `who` hand back no cell
  pub line_fair : (fn direction : ℕ) → FairAnswer (slot_of c (line_at c n) fn direction) (line_causes c n fn direction) (line_of c n fn direction)
  unfolding line_of ascending_from
  line_fair fn direction = fair_answer _ (line_causes c n fn direction) refl

pub who_fair : (c : Cell) (tn arfcn fn direction : ℕ) → FairAnswer (match_of c tn arfcn fn direction) (who_causes tn arfcn fn direction) (who_of c tn arfcn fn direction)
unfolding who_of ascending_from
who_fair c tn arfcn fn direction = fair_answer _ (who_causes tn arfcn fn direction) refl

-- the line that 9 names is in the way, and none below it is
pub record Smallest (c : Cell) (v : Values) : Type 0 where
  pub line : First (in_the_way c v) line_count
  pub is_named : (clash_cause c v).refusal ≡ record { number = 9; values = line.place ∷ [] }

pub smallest_named : (c : Cell) (v : Values) → any_of (clash_cause c v).conditions ≡ true → Smallest c v
unfolding any_of
smallest_named c v e = named (some_first (in_the_way c v) line_count (way e))
  where
    named : First (in_the_way c v) line_count → Smallest c v
    named w = record { line = w; is_named = ap (λ (m : ℕ). record { number = 9; values = m ∷ [] }) (least_first (in_the_way c v) line_count line_count w) }

    way : any_of (clash_cause c v).conditions ≡ true → any_below (in_the_way c v) line_count ≡ true
    way h = sym (or_false (any_below (in_the_way c v) line_count)) ∙ h
