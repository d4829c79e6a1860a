use Rattle.wording.specs.Names.{command_of}
use Rattle.commands.proofs.command.Goals as goal

pub returns : goal.returns
unfolding command_of
returns c = c.named.ensures
