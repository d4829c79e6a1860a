-- `common::misplaced` meets its contract: its tests are the conditions, none of which holds of another combination. Assumes nothing.
use Prim.Native.Nat.{◌-◌}
use borrow.Author.Rules.{rules}
use mathlib.Core.Path.{◌≡◌, refl, sym, ◌∙◌}
use mathlib.Core.Bool.{Bool, true, false, ◌||◌}
use lib.Dec.{eqb}
use Rattle.answers.specs.Outcome.{any_of}
use Rattle.answers.proofs.Decide.{any_combined}
use Rattle.answers.proofs.Tests.{not_both}
use Rattle.rules.specs.State.{Cell}
use Rattle.rules.specs.declared.Values.{Values}
use Rattle.storage.specs.Words.{cell_of}
use Rattle.rules.specs.Calls.{stands_in, has_combination, is_common_line, is_common_combination, misplaced}
use Rattle.placing.proofs.Found.{any_found}
use Rattle.placing.proofs.common.misplaced.Goals as goal

none_of : (a b d : Bool) → (a || b || d) ≡ false → (a ≡ false) × (b ≡ false) × (d ≡ false)
none_of true b d h = not_both refl h
none_of false true d h = not_both refl h
none_of false false true h = not_both refl h
none_of false false false h = (refl, refl, refl)

-- a line of another combination is never misplaced
another : (c : Cell) (v : Values) → is_common_combination v.combination ≡ false → false ≡ any_of (misplaced c v)
unfolding any_of
another c v h =
    let e : (eqb v.combination 4 ≡ false) × (eqb v.combination 5 ≡ false) × (eqb v.combination 6 ≡ false) = none_of _ _ _ h in
    simp (e.0, e.1, e.2)

pub returns-then-not-common : goal.returns-then-not-common
returns-then-not-common c =
    let x = c.args in
    another (cell_of x.cell.now) x.values (sym c.is_common_combination-common.ensures ∙ c.if-not-common.true)

pub returns : goal.returns
returns c =
    let x = c.args in
    let common = any_found is_common_line _ c.any_line.ensures (λ l b k. search rules) in
    let four = any_found (has_combination 4) _ c.any_line-2.ensures (λ l b k. search rules) in
    let six = any_found (stands_in 6 (x.values.tn - 2)) _ c.any_line-3.ensures (λ l b k. search rules) in
    rw (c.is_common_combination-common.ensures, c.c0_alone.ensures, c.parameters.ensures, common, c.parameters-2.ensures, four, six) (any_combined (misplaced (cell_of x.cell.now) x.values))
