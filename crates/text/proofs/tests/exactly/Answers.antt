use Rattle.std.proofs.Common.{sym, ◌∙◌}
use Rattle.text.proofs.Taken.{as_it_is}
use Rattle.text.proofs.tests.exactly.Goals as goal

pub returns : goal.returns
returns g c = sym (as_it_is c.only.result) ∙ c.only.ensures
