-- The third demand: over every list of open, close, seize and release, from the cell that any start hands back, no two different channels that
-- the cell carries ever stand in the same frame, timeslot, direction and ARFCN, and what is open and held is exactly what the list says.
-- The statements; proofs/CollisionFree.antt proves them. Assumes nothing.
use Rattle.std.specs.Prelude.{ℕ, ◌<◌, ◌≡◌, Bool, true, false, not, eqb}
use mathlib.Core.List.{List, [], ◌∷◌, Memᴰ}
use Rattle.std.proofs.Math.Option.{Option, none, some}
use Rattle.answers.specs.Outcome.{Refused, accepted}
use Rattle.answers.specs.Ranges.{hyperframe}
use Rattle.hops.specs.Hopping.{line_tuning}
use Rattle.maps.specs.Channels.{Standing}
use Rattle.maps.specs.Combinations.{rows_of}
use Rattle.maps.specs.Rows.{standing}
use Rattle.rules.specs.State.{Cell, Values, line_at, allocation}
use Rattle.rules.specs.Calls.{Step, start_of, open_of, close_of, seize_of, release_of}
use Rattle.rules.specs.OnAir.{Slot, owner_of, line_of}
use Rattle.rules.specs.History.{Call, opens, closes, seizes, releases, Made, opened_with, held_by, cell_from}
use Rattle.rules.specs.Carried.{Channel, subchannel, common_part, line_number, is_of, Spot, Stands}

-- ---- the claim about a cell, the one before the first call, and the history between them

-- "that ARFCN and what the map has there", with MAI, the position and the owner that the history names
abbrev pub slot_from : Cell → List Made → ℕ → Values → ℕ → ℕ → Slot
slot_from first past n v fn direction =
    record { tuning = line_tuning (allocation first) v.mask v.hsn v.maio fn; standing = there; owner = owner_of (held_by past n) there }
  where
    there : List Standing
    there = standing (rows_of v.combination v.tn direction) fn

-- an owner, where the channel is a subchannel; none, where it is a common part
abbrev pub is_owned : Channel → ℕ → Bool
is_owned (subchannel n s) owner = not (eqb owner 0)
is_owned (common_part n) owner = eqb owner 0

-- `line` shows the channel in the spot
pub record Shown (cell : Cell) (x : Channel) (spot : Spot) : Type 0 where
  pub slot : Slot
  pub answer : line_of cell (line_number x) spot.fn spot.direction ≡ accepted slot
  pub burst : Standing
  pub in_frame : Memᴰ burst slot.standing
  pub of_channel : is_of x burst ≡ true
  pub owned : is_owned x slot.owner ≡ true
  pub in_timeslot : (line_at cell (line_number x)).tn ≡ spot.tn
  pub on_arfcn : slot.tuning.arfcn ≡ spot.arfcn

pub record CollisionFree (first : Cell) (past : List Made) (cell : Cell) : Type 0 where
  -- what is open and held is exactly what the list says, and CA, C0, BCC, AG and P are as before the first call
  pub as_listed : cell ≡ cell_from first past
  -- two channels that the cell carries and that stand in one spot are one channel
  pub apart : (x y : Channel) (spot : Spot) → spot.direction < 2 → Stands first past x spot → Stands first past y spot → x ≡ y
  -- "For every open line, frame and direction, line gives that ARFCN and what the map has there."
  pub line : (n : ℕ) (v : Values) (fn direction : ℕ) → opened_with past n ≡ some v → fn < hyperframe → direction < 2
      → line_of cell n fn direction ≡ accepted (slot_from first past n v fn direction)
  -- a channel stands exactly where `line` shows it
  pub shown : (x : Channel) (spot : Spot) → spot.fn < hyperframe → spot.direction < 2 → Stands first past x spot → Shown cell x spot
  pub stands : (x : Channel) (spot : Spot) → spot.fn < hyperframe → spot.direction < 2 → Shown cell x spot → Stands first past x spot

-- ---- a list of calls

abbrev pub calling : Cell → Call → Step
calling c (opens n v) = open_of c n v
calling c (closes n) = close_of c n
calling c (seizes n s o) = seize_of c n s o
calling c (releases n s o) = release_of c n s o

abbrev pub is_accepted : Option Refused → Bool
is_accepted none = true
is_accepted (some r) = false

-- the cell after some calls, and the history of them
pub record Run : Type 0 where
  pub cell : Cell
  pub past : List Made

abbrev pub made : Call → Step → Made
made x s = record { call = x; accepted = is_accepted s.refusal }

abbrev pub next : Run → Call → Run
next r x = record { cell = (calling r.cell x).cell; past = made x (calling r.cell x) ∷ r.past }

unfoldable pub run : Run → List Call → Run
run r [] = r
run r (x ∷ xs) = run (next r x) xs

abbrev pub begin : Cell → Run
begin c = record { cell = c; past = [] }

-- the third demand
unfoldable pub ThirdDemand : Type 0
ThirdDemand =
    (ca : List ℕ) (c0 bcc ag p : ℕ) (calls : List Call)
    → let first = (start_of ca c0 bcc ag p).cell in
    let end = run (begin first) calls in
    CollisionFree first end.past end.cell
