-- `Normal::new` meets its contract: a TSC past the table is refused, and the code's first 10 bits are the bits of the code without its last 6.
-- Assumes nothing.
use Rattle.std.proofs.Common.{◌≡◌, ℕ, ◌/◌, ◌^◌, List, [], ◌∷◌, ◌++◌, map, get_or, refl, ap, ◌∙◌}
use Rattle.std.proofs.Math.Option.{some}
use Rattle.answers.specs.Outcome.{accepted}
use Rattle.bursts.specs.declared.field.Field.TheVariants.{Fixed, Room}
use Rattle.bursts.specs.Helpers.{field_row, fields_row}
use Rattle.layouts.specs.Layouts.{bits, training_codes, normal}
use Rattle.layouts.specs.Rows.{row_of, room}
use Rattle.layouts.proofs.Bits.{bits_high}
use Rattle.layouts.proofs.NormalCalls.{normal_refuses, normal_accepts}
use Rattle.bursts.proofs.layout.Normal.new.Goals as goal

-- the repeat's bits stand in one place of the row
same_row : (tsc : ℕ) → fields_row (Fixed 3 0 ∷ Room 58 ∷ Fixed 16 (get_or training_codes tsc 0) ∷ Fixed 10 (get_or training_codes tsc 0 / 2 ^ 6) ∷ Room 58 ∷ Fixed 3 0 ∷ []) ≡ row_of (normal tsc)
unfolding fields_row field_row row_of normal bits
same_row tsc =
    ap (λ (l : List ℕ). field_row (Fixed 3 0) ++ (field_row (Room 58) ++ (field_row (Fixed 16 (get_or training_codes tsc 0)) ++ (map some l ++ fields_row (Room 58 ∷ Fixed 3 0 ∷ []))))) (bits_high 10 6 (get_or training_codes tsc 0))

pub returns-in_default : goal.returns-in_default
returns-in_default c = normal_refuses c.args.tsc c.in_default.ensures.lookup.3

pub invariant_of-result : goal.invariant_of-result
unfolding fields_row field_row bits room
invariant_of-result c = record { size = refl; room = refl }

pub returns : goal.returns
returns c =
    let entry = c.in-Some.ensures.lookup.3 in
    ap accepted (ap (λ (code : ℕ). fields_row (Fixed 3 0 ∷ Room 58 ∷ Fixed 16 code ∷ Fixed 10 (code / 2 ^ 6) ∷ Room 58 ∷ Fixed 3 0 ∷ [])) (entry.1 0) ∙ same_row c.args.tsc)
    ∙ normal_accepts c.args.tsc entry.0
