-- specs/ThirdDemand.antt proved: what C is handed is a run of the definitions, since a refusal's number is never 0. Assumes nothing.
use Prim.Native.Nat.{ℕ}
use native.Mathlib.Omega.{arith}
use mathlib.Core.Path.{◌≡◌, refl, sym, ap, ◌∙◌, subst}
use mathlib.Core.Bool.{Bool, true}
use mathlib.Core.List.{List, [], ◌∷◌}
use mathlib.Core.Option.{Option, none, some}
use lib.Dec.{eqb}
use borrow.Author.Tests.{ne_eqb}
use Rattle.answers.specs.Outcome.{Refused, Cause, ascending, ascending_from}
use Rattle.rules.specs.State.{Cell}
use Rattle.storage.specs.Words.{cell_of}
use Rattle.rules.specs.Calls.{Step, start_of}
use Rattle.rules.specs.History.{Call, opens, closes, seizes, releases, Made}
use Rattle.rules.specs.CollisionFree.{CollisionFree, Run, calling, is_accepted, run, ThirdDemand}
use Rattle.rules.specs.Claims.{Fair}
use Rattle.rules.proofs.Causes.{open_fair, close_fair, seize_fair, release_fair}
use Rattle.rules.proofs.CollisionFree.{third_demand}
use Rattle.c_answers.specs.Numbers.{refusal_number}
use Rattle.tdma.proofs.Numbers.{caused_above}
use Rattle.tdma.specs.Cells.{line_numbers}
use Rattle.tdma.specs.ThirdDemand.{Answered, Promised, made, handed, ThirdDemandOfC, ReachedByC}
use Rattle.c_answers.specs.declared.TdmaAnswer.{TdmaAnswer}

-- ---- a refusal's number is not 0

module _ (cs : List Cause) (before after : Cell) (s : Step) (ascends : ascending cs ≡ true) (fair : Fair cs before after s) where
  told : eqb (refusal_number s.refusal) 0 ≡ is_accepted s.refusal
  told = go s.refusal refl
    where
      go : (o : Option Refused) → s.refusal ≡ o → eqb (refusal_number o) 0 ≡ is_accepted o
      go none e = refl
      go (some r) e =
          let h = caused_above cs ascends r (fair.caused r e) in
          ne_eqb r.number 0 (λ (z : r.number ≡ 0). omega (arith, h, z))

accepted_told : (c : Cell) (x : Call) → eqb (refusal_number (calling c x).refusal) 0 ≡ is_accepted (calling c x).refusal
unfolding ascending_from
accepted_told c (opens n v) = told _ _ _ _ refl (open_fair c n v)
accepted_told c (closes n) = told _ _ _ _ refl (close_fair c n)
accepted_told c (seizes n s o) = told _ _ _ _ refl (seize_fair c n s o)
accepted_told c (releases n s o) = told _ _ _ _ refl (release_fair c n s o)

-- ---- what C is handed is a run

asked : List Answered → List Call
asked [] = []
asked (a ∷ more) = a.call ∷ asked more

is_run : (calls : List Answered) (c : Cell) (words : List ℕ) (past : List Made) → c ≡ cell_of words → Promised words calls
    → run (record { cell = c; past = past }) (asked calls) ≡ handed words past calls
unfolding run asked Promised handed
is_run [] c words past e p = ap (λ (x : Cell). record { cell = x; past = past }) e
is_run (a ∷ more) c words past e p =
    ap (λ (m : Made). run (record { cell = (calling c a.call).cell; past = m ∷ past }) (asked more)) same
    ∙ is_run more (calling c a.call).cell a.words (made a ∷ past) (ap (λ (x : Cell). (calling x a.call).cell) e ∙ sym p.0.0.1) p.1
  where
    same : record { call = a.call; accepted = is_accepted (calling c a.call).refusal } ≡ made a
    same =
        ap (λ (b : Bool). record { call = a.call; accepted = b })
        (sym (accepted_told c a.call)
        ∙ (ap (λ (x : Cell). eqb (refusal_number (calling x a.call).refusal) 0) e
        ∙ ap (λ (r : TdmaAnswer). eqb r.refusal 0) (sym p.0.0.0)))

pub third_demand_of_c : ThirdDemandOfC
unfolding ThirdDemandOfC ThirdDemand
third_demand_of_c ca c0 bcc ag p answer words e calls promised =
    record { collision_free = free; line = λ n v fn d o hf hd shown q. q ∙ ap line_numbers (free.line n v fn d o hf hd) }
  where
    end : Run
    end = handed words [] calls

    first : Cell
    first = (start_of ca c0 bcc ag p).cell

    free : CollisionFree (cell_of words) end.past end.cell
    free =
        subst (λ (f : Cell). CollisionFree f end.past end.cell) (sym e.1)
        (subst (λ (r : Run). CollisionFree first r.past r.cell) (is_run calls first words [] (sym e.1) promised) (third_demand ca c0 bcc ag p (asked calls)))

pub reached_by_c : ReachedByC
unfolding ReachedByC
reached_by_c ca c0 bcc ag p answer words e calls promised =
    record {
      ca = ca;
      c0 = c0;
      bcc = bcc;
      ag = ag;
      p = p;
      calls = asked calls;
      handed_back = ap (λ (r : Run). r.cell) (is_run calls (start_of ca c0 bcc ag p).cell words [] (sym e.1) promised);
    }
