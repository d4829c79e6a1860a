-- What a line has in a frame reads the same of what `line` answers and of what C gets for it; and some rows of numbers that no call gives. Proved in
-- proofs/Claims.antt. Assumes nothing.
use Rattle.std.specs.Prelude.{ℕ, ◌≡◌}
use Rattle.c_answers.specs.Numbers.{on_air_numbers}
use Rattle.c_answers.specs.declared.TdmaLine.{TdmaLine}
use Rattle.slots.specs.declared.OnAir.{OnAir}
use Rattle.wording.specs.Words.{ascii}
use Rattle.wording.specs.Table.{cell_text}
use Rattle.timetable.specs.Numbered.{numbered_cell_text}

pub record ShownAlike : Type 0 where
  pub same : (a : OnAir) → numbered_cell_text (on_air_numbers a) ≡ cell_text a

-- a channel, how many blocks, and the owner, on ARFCN 1024
abbrev pub line_of : ℕ → ℕ → ℕ → TdmaLine
line_of channel blocks owner =
    record { refusal = 0; arfcn = 1024; owner = owner; channel = channel; subchannel = 5; blocks = blocks; block = 4; place = 5; block2 = 6; place2 = 70; mai = 0; position = 0 }

pub record OddNumbers : Type 0 where
  pub no_channel : numbered_cell_text (line_of 9 1 1) ≡ ascii "  1024       -     -  4.5      |"
  pub last_channel : numbered_cell_text (line_of 8 1 1) ≡ ascii "  1024 RACH  -     -  4.5      |"
  pub last_with_owner : numbered_cell_text (line_of 3 2 70000) ≡ ascii "  1024 SDCCH 5 70000  4.5  6.70 |"
  pub common_with_owner : numbered_cell_text (line_of 4 0 70000) ≡ ascii "  1024 FCCH  -     -  4.5      |"
  pub three_blocks : numbered_cell_text (line_of 1 3 0) ≡ ascii "  1024 TCH   5  free  4.5      |"
  pub idle : numbered_cell_text (line_of 0 2 1) ≡ ascii "  1024 idle                    |"
