-- Which channels the cell carries, and where they stand: document 01, "A held subchannel stands in the frames and directions that the map above
-- gives its s, SACCH included; a common part stands in its own frames. Both stand in the line's TN, on the ARFCN that the hopping rules give for
-- CA and the line's mask, HSN and MAIO." By the rows of the map and the history; no answer of a call is looked at here. Assumes nothing.
use Rattle.std.specs.Prelude.{ℕ, ◌≡◌, Bool, true, not, ◌&&◌, eqb}
use mathlib.Core.List.{List, Memᴰ}
use Rattle.std.proofs.Math.Option.{some}
use Rattle.hops.specs.Hopping.{line_arfcn}
use Rattle.maps.specs.Channels.{Standing, is_common}
use Rattle.maps.specs.Combinations.{rows_of}
use Rattle.maps.specs.Rows.{Row, stands, told}
use Rattle.rules.specs.State.{Cell, Values, allocation}
use Rattle.rules.specs.History.{Made, opened_with, is_seized}

-- subchannel s of line n, or the common part of line n
pub data Channel : Type 0 where
  subchannel : ℕ → ℕ → Channel
  common_part : ℕ → Channel

abbrev pub line_number : Channel → ℕ
line_number (subchannel n s) = n
line_number (common_part n) = n

-- a subchannel is carried while it is held, a common part while its line is open
abbrev pub is_held : List Made → Channel → Bool
is_held past (subchannel n s) = is_seized past n s
is_held past (common_part n) = true

-- the burst is the channel's: of its s, SACCH included; or of the common part
abbrev pub is_of : Channel → Standing → Bool
is_of (subchannel n s) x = not (is_common x.kind) && eqb x.subchannel s
is_of (common_part n) x = is_common x.kind

-- "the same frame, timeslot, direction and ARFCN"
pub record Spot : Type 0 where
  pub fn : ℕ
  pub tn : ℕ
  pub direction : ℕ
  pub arfcn : ℕ

-- the channel is carried by a cell with the CA of `first` after these calls, and stands in the spot
pub record Stands (first : Cell) (past : List Made) (x : Channel) (spot : Spot) : Type 0 where
  pub values : Values
  pub is_open : opened_with past (line_number x) ≡ some values
  pub held : is_held past x ≡ true
  pub row : Row
  pub of_map : Memᴰ row (rows_of values.combination values.tn spot.direction)
  pub of_channel : is_of x (told row) ≡ true
  pub in_frame : stands row spot.fn ≡ true
  pub in_timeslot : values.tn ≡ spot.tn
  pub on_arfcn : line_arfcn (allocation first) values.mask values.hsn values.maio spot.fn ≡ spot.arfcn
