use Rattle.wording.specs.Names.{burst_of}
use Rattle.commands.proofs.burst.Goals as goal

pub returns : goal.returns
unfolding burst_of
returns c = c.named.ensures
