use Rattle.std.proofs.Common.{sym, ◌∙◌}
use Rattle.text.proofs.Taken.{same_case, only_further, only_done}
use Rattle.text.proofs.numbers.only.Goals as goal

pub returns-then-is_some : goal.returns-then-is_some
returns-then-is_some g c = only_further _ _ _ _ c.in_ok-values.ensures (same_case _ c.next_word.result c.next_word.ensures (sym c.is_some.ensures ∙ c.if-is_some.true))

pub returns : goal.returns
returns g c = only_done _ _ _ _ c.in_ok-values.ensures (same_case _ c.next_word.result c.next_word.ensures (sym c.is_some.ensures ∙ c.if-is_some.false))
