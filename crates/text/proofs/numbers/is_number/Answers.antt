use Rattle.std.proofs.Common.{sym, ap, ◌∙◌, arith, rules}
use borrow.Author.Tests.{tests}
use mathlib.Core.Bool.{not}
use Rattle.std.proofs.lemmas.Iterator.{YieldsList-from_slice}
use Rattle.std.proofs.lemmas.Iterator.Search.{all_from_yields_List}
use Rattle.std.proofs.lemmas.Grind.{common_steps}
use Rattle.wording.specs.Numbers.{is_digit}
use Rattle.wording.proofs.Digits.{some_digits}
use Rattle.text.proofs.Digits.{is_number-nothing}
use Rattle.text.proofs.numbers.is_number.Goals as goal

pub returns-then-not-is_empty : goal.returns-then-not-is_empty
returns-then-not-is_empty c =
    all_from_yields_List is_digit _ _ _ c.all.ensures.ran (YieldsList-from_slice c.args.word.now c.iter.ensures.rest) (λ x b q k. search (rules, tests)) ∙ sym (some_digits c.args.word.now (grind (arith, common_steps)))

pub returns-else-not-is_empty : goal.returns-else-not-is_empty
returns-else-not-is_empty c = ap not c.if-not-is_empty.false ∙ sym (is_number-nothing c.args.word.now (grind (arith, common_steps)))
