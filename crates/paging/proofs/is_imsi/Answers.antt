-- `is_imsi` meets its contract: each digit is tested. Assumes nothing.
use Rattle.std.proofs.Common.{rules, leb, sym, ◌∙◌}
use Rattle.std.proofs.lemmas.Iterator.{YieldsList-from_slice}
use Rattle.std.proofs.lemmas.Iterator.Search.{all_from_yields_List}
use borrow.Author.Tests.{tests}
use Rattle.paging.proofs.Digits.{all_digits}
use Rattle.paging.proofs.is_imsi.Goals as goal

pub returns-then-contains : goal.returns-then-contains
returns-then-contains c =
    all_from_yields_List (λ d. leb d 9) _ _ _ c.all.ensures.ran (YieldsList-from_slice c.args.digits.now cc) (λ x b q k. search (rules, tests))
    ∙ sym (all_digits c.args.digits.now (search rules) (search rules))
