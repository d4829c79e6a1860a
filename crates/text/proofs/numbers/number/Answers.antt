use Rattle.std.proofs.Common.{sym, ◌∙◌}
use Rattle.wording.proofs.Digits.{number_value}
use Rattle.text.proofs.Digits.{number_none}
use Rattle.text.proofs.numbers.number.Goals as goal

pub returns-then-not-is_number : goal.returns-then-not-is_number
returns-then-not-is_number c = sym (number_none c.args.word.now (sym c.is_number.ensures ∙ c.if-not-is_number.true))

pub returns : goal.returns
returns c = c.value.ensures ∙ sym (number_value c.args.word.now (sym c.is_number.ensures ∙ c.if-not-is_number.false))
