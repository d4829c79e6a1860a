-- `common::has_c0` meets its contract: the chain tests each position of CA that a mask has. Assumes nothing.
use mathlib.Core.Path.{refl, ◌∙◌}
use borrow.Author.Rules.{rules}
use borrow.Author.Tests.{tests}
use Rattle.answers.proofs.Ranges.{any_in_range}
use Rattle.storage.specs.Words.{cell_of}
use Rattle.placing.proofs.Found.{clipped}
use Rattle.placing.proofs.common.has_c0.Goals as goal

pub returns : goal.returns
returns c = any_in_range _ refl _ _ _ c.any.ensures.ran (λ x b q k. search (rules, tests)) ∙ clipped (cell_of c.args.cell.now) c.args.mask _ (search rules) (search rules)
