-- `clash::in_the_way` meets its contract: no line below n is in the way. Assumes nothing.
use mathlib.Core.Path.{sym, ◌∙◌}
use native.Mathlib.Omega.{arith}
use borrow.Author.Count.{below_none, below_more}
use Rattle.answers.proofs.Search.{first_is, first_none}
use borrow.Author.Rules.{rules}
use Rattle.placing.proofs.clash.in_the_way.Goals as goal

pub loop-n-init : goal.loop-n-init
loop-n-init c = (search rules, below_none _)

pub loop-n-preserved : goal.loop-n-preserved
loop-n-preserved c = (search rules, below_more _ _ c.loop-n.invariant.1 (sym c.clashes.ensures ∙ c.if-clashes.false))

pub returns-then-n-ge64 : goal.returns-then-n-ge64
returns-then-n-ge64 c = sym (first_none _ 64 (λ k h. c.loop-n.invariant.1 k (omega arith)))

pub returns-then-clashes : goal.returns-then-clashes
returns-then-clashes c = sym (first_is _ 64 _ (search rules) (sym c.clashes.ensures ∙ c.if-clashes.true) c.loop-n.invariant.1)
