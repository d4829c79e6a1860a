-- The third demand, and what is reached, of the code. Assumes nothing.
use Prim.Native.Nat.{ℕ}
use mathlib.Core.Path.{◌≡◌, sym, ap, subst, ◌∙◌}
use mathlib.Core.List.{List, [], ◌∷◌}
use Rattle.rules.specs.State.{Cell}
use Rattle.rules.specs.Calls.{Step, changed}
use Rattle.rules.specs.History.{Call, Made}
use Rattle.rules.specs.CollisionFree.{CollisionFree, Run, calling, run}
use Rattle.rules.proofs.Begun.{Begun, start_begun}
use Rattle.rules.proofs.CollisionFree.{Invariant, begin_keeps, step_keeps, collision_free_of}
use Rattle.storage.specs.Words.{cell_of}
use Rattle.cell.specs.OfCode.{Answered, Promised, Followed, handed, ThirdDemandOfCode, ReachedByCode, ThirdDemandOfFollowed, ReachedByFollowed}

handed_keeps : (first : Cell) (calls : List Answered) (words : List ℕ) (past : List Made) → Invariant first (record { cell = cell_of words; past = past }) → Followed words calls
    → Invariant first (handed words past calls)
unfolding Followed handed
handed_keeps first [] words past h p = h
handed_keeps first (a ∷ more) words past h p =
    handed_keeps first more a.words _ (step_keeps first (record { cell = cell_of words; past = past }) h a.call (changed a.answer (cell_of a.words)) p.0) p.1

pub third_demand_of_followed : ThirdDemandOfFollowed
unfolding ThirdDemandOfFollowed
third_demand_of_followed ca c0 bcc ag p answer words e calls followed =
    record { collision_free = free; line = λ n v fn d o hf hd shown q. q ∙ free.line n v fn d o hf hd }
  where
    first : Cell
    first = cell_of words

    begun : Begun first
    begun = subst Begun (sym (ap (λ (s : Step). s.cell) e)) (start_begun ca c0 bcc ag p)

    end : Run
    end = handed words [] calls

    free : CollisionFree first end.past end.cell
    free = collision_free_of first begun end (handed_keeps first calls words [] (begin_keeps first begun) followed)

asked : List Answered → List Call
asked [] = []
asked (a ∷ more) = a.call ∷ asked more

same_cell : (calls : List Answered) (c : Cell) (words : List ℕ) (before past : List Made) → c ≡ cell_of words → Followed words calls
    → (run (record { cell = c; past = before }) (asked calls)).cell ≡ (handed words past calls).cell
unfolding run asked Followed handed
same_cell [] c words before past e p = e
same_cell (a ∷ more) c words before past e p =
    same_cell more (calling c a.call).cell a.words _ _ (ap (λ (x : Cell). (calling x a.call).cell) e ∙ sym (ap (λ (s : Step). s.cell) p.0)) p.1

pub reached_by_followed : ReachedByFollowed
unfolding ReachedByFollowed
reached_by_followed ca c0 bcc ag p answer words e calls followed =
    record {
      ca = ca;
      c0 = c0;
      bcc = bcc;
      ag = ag;
      p = p;
      calls = asked calls;
      handed_back = same_cell calls _ words [] [] (sym (ap (λ (s : Step). s.cell) e)) followed;
    }

-- what is promised is more
followed : (words : List ℕ) (calls : List Answered) → Promised words calls → Followed words calls
unfolding Promised Followed
followed words [] p = p
followed words (a ∷ more) p = (p.0.0, followed a.words more p.1)

pub third_demand_of_code : ThirdDemandOfCode
unfolding ThirdDemandOfCode ThirdDemandOfFollowed
third_demand_of_code ca c0 bcc ag p answer words e calls promised = third_demand_of_followed ca c0 bcc ag p answer words e calls (followed words calls promised)

pub reached_by_code : ReachedByCode
unfolding ReachedByCode ReachedByFollowed
reached_by_code ca c0 bcc ag p answer words e calls promised = reached_by_followed ca c0 bcc ag p answer words e calls (followed words calls promised)
