-- `common::has_combined` meets its contract: a 5 is looked for. Assumes nothing.
use borrow.Author.Rules.{rules}
use Rattle.rules.specs.Calls.{has_combination}
use Rattle.placing.proofs.Found.{any_found}
use Rattle.placing.proofs.common.has_combined.Goals as goal

pub returns : goal.returns
returns c = any_found (has_combination 5) _ c.any_line.ensures (λ l b k. search rules)
