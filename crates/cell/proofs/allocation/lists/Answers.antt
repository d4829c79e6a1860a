-- `allocation::lists` meets its contract: the chain tests each entry. Assumes nothing.
use Prim.Native.Nat.{ℕ}
use mathlib.Core.Path.{◌∙◌}
use lib.Dec.{eqb}
use borrow.Author.Rules.{rules}
use Rattle.std.proofs.lemmas.Iterator.{YieldsList-from_slice}
use Rattle.std.proofs.lemmas.Iterator.Search.{any_from_yields_List}
use Rattle.cell.proofs.Listed.{any_entry}
use Rattle.cell.proofs.allocation.lists.Goals as goal

pub returns : goal.returns
returns c =
    let x = c.args in
    any_from_yields_List (λ (a : ℕ). eqb a x.arfcn) _ _ _ c.any.ensures.ran (YieldsList-from_slice x.ca.now cc) (λ a b q k. search rules)
    ∙ any_entry (λ (a : ℕ). eqb a x.arfcn) x.ca.now
