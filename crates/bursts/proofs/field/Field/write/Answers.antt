-- `Field::write` meets its contract: a word's bits, or the payload as it is. Assumes nothing.
use mathlib.Core.Path.{◌∙◌}
use Rattle.bursts.proofs.FieldRows.{written_fixed, written_room}
use Rattle.bursts.proofs.field.Field.write.Goals as goal

pub returns-in-Fixed : goal.returns-in-Fixed
returns-in-Fixed c = c.write_bits.ensures ∙ written_fixed _ _ _ c.in-Fixed.is _ _ c.requires.1

pub returns-in-Room : goal.returns-in-Room
returns-in-Room c = c.copy_from_slice.ensures.after ∙ written_room _ _ c.in-Room.is _ c.requires.0
