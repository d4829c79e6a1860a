-- Opens the rows of clause 5.2 and those of the code's fields, which are the same. Assumes nothing.
use Rattle.std.specs.Prelude.{⊤}
use Rattle.layouts.specs.Layouts.{bits, frequency_correction, synchronization, dummy, access}
use Rattle.layouts.specs.Rows.{row_of, room}
use Rattle.bursts.specs.Helpers.{field_row, fields_row}

unfoldable pub rows : ⊤
unfolding fields_row field_row bits room row_of frequency_correction synchronization dummy access
rows = tt
