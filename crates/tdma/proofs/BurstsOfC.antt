-- tdma_build_.. and tdma_take_.. undo each other, from their promises alone. Assumes nothing.
use Prim.Native.Nat.{ℕ}
use native.Mathlib.Omega.{arith}
use mathlib.Core.Path.{◌≡◌, refl, sym, ap, ◌∙◌}
use mathlib.Core.Bool.{true}
use mathlib.Core.List.{List, ◌∷◌}
use mathlib.Core.Option.{none}
use lib.ListN.{length}
use Rattle.answers.specs.Outcome.{Outcome, refused, accepted, Cause, ascending, ascending_from, decide}
use Rattle.answers.proofs.Decide.{fair_answer}
use Rattle.layouts.specs.Layouts.{normal, synchronization, access}
use Rattle.layouts.specs.Rows.{Row, row_of}
use Rattle.layouts.specs.Bursts.{Written, written, no_code, build_causes, take_causes, build_of, take_of, build_normal_of, take_normal_of, build_synchronization_of, take_synchronization_of, build_access_of, take_access_of}
use Rattle.layouts.specs.Claims.{Call, done, UndoEachOther}
use Rattle.layouts.proofs.Undo.{round_trips}
use Rattle.c_answers.specs.declared.TdmaAnswer.{TdmaAnswer}
use Rattle.c_answers.specs.Numbers.{refusal_number}
use Rattle.tdma.specs.Buffers.{Wrote}
use Rattle.tdma.specs.OfC.{UndoEachOtherOfC, BurstsOfC}
use Rattle.tdma.proofs.Numbers.{number_above}

-- a call that is told as accepted is accepted
abbrev Told : Call → Type 0
Told f = (x before : List ℕ) → refusal_number (f x before).refusal ≡ 0 → (f x before).refusal ≡ none

told : (cs : List Cause) (answer before : List ℕ) → ascending cs ≡ true → refusal_number (written before (decide cs answer)).refusal ≡ 0
    → (written before (decide cs answer)).refusal ≡ none
told cs answer before ascends = go (decide cs answer) refl
  where
    go : (o : Outcome (List ℕ)) → decide cs answer ≡ o → refusal_number (written before o).refusal ≡ 0 → (written before o).refusal ≡ none
    go (refused r) e h = let n = number_above answer cs _ ascends (fair_answer answer cs ascends) r e in absurd (omega (arith, n, h))
    go (accepted a) e h = refl

told_build : (row : Row) → Told (build_of row)
unfolding build_of ascending_from
told_build row payload before = told (build_causes row payload before) _ before refl

told_take : (row : Row) → Told (take_of row)
unfolding take_of ascending_from
told_take row burst before = told (take_causes row burst before) _ before refl

told_build_normal : (tsc : ℕ) → Told (build_normal_of tsc)
unfolding build_normal_of ascending_from
told_build_normal tsc payload before = told (no_code tsc ∷ build_causes (row_of (normal tsc)) payload before) _ before refl

told_take_normal : (tsc : ℕ) → Told (take_normal_of tsc)
unfolding take_normal_of ascending_from
told_take_normal tsc burst before = told (no_code tsc ∷ take_causes (row_of (normal tsc)) burst before) _ before refl

-- g after f gives back what f read
undone : (f g : Call) → Told f → ((x before lent : List ℕ) → (f x before).refusal ≡ none → length lent ≡ length x → g (f x before).bytes lent ≡ done x)
    → (x before y lent after : List ℕ) (r s : TdmaAnswer) → Wrote r y (f x before) → Wrote s after (g y lent) → r.refusal ≡ 0 → length lent ≡ length x
    → (s.refusal ≡ 0) × (after ≡ x)
undone f g says undoes x before y lent after r s fr gs ok same =
    let e = says x before (sym (ap (λ (a : TdmaAnswer). a.refusal) fr.0) ∙ ok) in
    let q : g y lent ≡ done x = ap (λ (b : List ℕ). g b lent) fr.1 ∙ undoes x before lent e same in
    (ap (λ (a : TdmaAnswer). a.refusal) gs.0 ∙ ap (λ (w : Written). refusal_number w.refusal) q, gs.1 ∙ ap (λ (w : Written). w.bytes) q)

undo_of_c : (build take : Call) → Told build → Told take → UndoEachOther build take → UndoEachOtherOfC build take
undo_of_c build take b t u =
    record { take_undoes_build = undone build take b u.take_undoes_build; build_undoes_take = undone take build t u.build_undoes_take }

pub bursts_of_c : BurstsOfC
bursts_of_c =
    record {
      normal = λ tsc. undo_of_c (build_normal_of tsc) (take_normal_of tsc) (told_build_normal tsc) (told_take_normal tsc) (round_trips.normal tsc);
      synchronization = undo_of_c build_synchronization_of take_synchronization_of (told_build (row_of synchronization)) (told_take (row_of synchronization)) round_trips.synchronization;
      access = undo_of_c build_access_of take_access_of (told_build (row_of access)) (told_take (row_of access)) round_trips.access;
    }
