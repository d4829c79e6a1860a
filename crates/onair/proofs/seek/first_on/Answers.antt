-- `seek::first_on` meets its contract: no line below n is on. Assumes nothing.
use mathlib.Core.Path.{sym, ◌∙◌}
use native.Mathlib.Omega.{arith}
use borrow.Author.Count.{below_none, below_more}
use Rattle.answers.proofs.Search.{first_is, first_none}
use borrow.Author.Rules.{rules}
use Rattle.onair.proofs.seek.first_on.Goals as goal

pub loop-n-init : goal.loop-n-init
loop-n-init c = below_none _

pub returns-then-is_on : goal.returns-then-is_on
returns-then-is_on c = sym (first_is _ 64 _ (search rules) (sym c.is_on.ensures ∙ c.if-is_on.true) c.loop-n.invariant)

pub loop-n-preserved : goal.loop-n-preserved
loop-n-preserved c = below_more _ _ c.loop-n.invariant (sym c.is_on.ensures ∙ c.if-is_on.false)

pub returns : goal.returns
returns c = sym (first_none _ 64 (λ k h. c.loop-n.invariant k (omega arith)))
