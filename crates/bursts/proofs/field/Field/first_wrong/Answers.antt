-- `Field::first_wrong` meets its contract: a word's bits are compared, payload bits are never wrong. Assumes nothing.
use mathlib.Core.Path.{subst}
use Rattle.layouts.specs.Rows.{Row}
use Rattle.bursts.specs.Helpers.{FirstWrong}
use Rattle.bursts.proofs.FieldRows.{row_fixed, none_wrong_room}
use Rattle.bursts.proofs.field.Field.first_wrong.Goals as goal

pub returns-in-Fixed : goal.returns-in-Fixed
returns-in-Fixed c =
    subst (λ (row : Row). FirstWrong row c.args.bits.now c.first_other.result) (row_fixed _ _ _ c.in-Fixed.is _ c.requires) c.first_other.ensures

pub returns-in-Room : goal.returns-in-Room
returns-in-Room c k h = none_wrong_room _ _ c.in-Room.is _ k
