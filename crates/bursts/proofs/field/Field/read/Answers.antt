-- `Field::read` meets its contract: payload bits are copied, and fixed bits are none. Assumes nothing.
use mathlib.Core.Path.{◌∙◌}
use Rattle.bursts.proofs.FieldRows.{read_fixed, read_room}
use Rattle.bursts.proofs.field.Field.read.Goals as goal

pub returns-in-Room : goal.returns-in-Room
returns-in-Room c = c.copy_from_slice.ensures.after ∙ read_room _ _ c.in-Room.is _ c.requires.0

pub returns-in_default : goal.returns-in_default
returns-in_default c = read_fixed _ _ _ c.in_default.is _ _ c.requires.1
