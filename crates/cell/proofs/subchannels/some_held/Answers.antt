-- `subchannels::some_held` meets its contract: the chain tests each subchannel. Assumes nothing.
use mathlib.Core.Path.{refl}
use borrow.Author.Rules.{rules}
use Rattle.answers.proofs.Ranges.{any_in_range}
use Rattle.cell.proofs.subchannels.some_held.Goals as goal

pub returns : goal.returns
returns c = any_in_range 8 refl _ _ _ c.any.ensures.ran (λ s b q k. search rules)
