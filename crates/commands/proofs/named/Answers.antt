use Rattle.std.proofs.Common.{sym, ◌∙◌}
use Rattle.commands.proofs.Names.{named_none, named_here, named_later}
use Rattle.commands.proofs.named.Goals as goal

pub returns-then-eq : goal.returns-then-eq
returns-then-eq g c = sym (named_here _ _ _ c.loop-name-item.result c.loop-name-test.true c.loop-name-item.is (sym c.eq.ensures ∙ c.if-eq.true)) ∙ c.loop-name.invariant

pub loop-name-preserved : goal.loop-name-preserved
loop-name-preserved g c = sym (named_later _ _ _ c.loop-name-item.result c.loop-name-test.true c.loop-name-item.is (sym c.eq.ensures ∙ c.if-eq.false)) ∙ c.loop-name.invariant

pub returns : goal.returns
returns g c = sym (named_none _ _ _ c.loop-name-test.false) ∙ c.loop-name.invariant
