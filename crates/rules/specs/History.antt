-- What the list of calls says: document 01, "What the third demand calls open and held is read from the list: the calls, their arguments and
-- whether each was accepted." No cell is looked at here. Assumes nothing.
use Rattle.std.specs.Prelude.{ℕ, Bool, true, false, ◌&&◌, cond, List, [], ◌∷◌, eqb}
use Rattle.std.proofs.Math.Option.{Option, none, some}
use Rattle.answers.specs.Ranges.{line_count}
use Rattle.rules.specs.State.{Cell, LineState, Values, tabulate, line_with, closed_line}

-- a call with its arguments: the line, then the six values, or the subchannel and the owner
pub data Call : Type 0 where
  opens : ℕ → Values → Call
  closes : ℕ → Call
  seizes : ℕ → ℕ → ℕ → Call
  releases : ℕ → ℕ → ℕ → Call

-- a call that was made, and whether it was accepted
pub record Made : Type 0 where
  pub call : Call
  pub accepted : Bool

-- the last accepted call that passes the test. A history is a list of calls made, the latest first
unfoldable pub last_accepted : (Call → Bool) → List Made → Option Call
last_accepted test [] = none
last_accepted test (m ∷ past) = cond (m.accepted && test m.call) (some m.call) (last_accepted test past)

-- an open or close that names line n
abbrev pub opens_or_closes : ℕ → Call → Bool
opens_or_closes n (opens m v) = eqb m n
opens_or_closes n (closes m) = eqb m n
opens_or_closes n (seizes m s o) = false
opens_or_closes n (releases m s o) = false

abbrev pub values_in : Option Call → Option Values
values_in none = none
values_in (some (opens n v)) = some v
values_in (some (closes n)) = none
values_in (some (seizes n s o)) = none
values_in (some (releases n s o)) = none

-- "A line is open if the last accepted open or close that names it is an open; its six values are the ones named there."
unfoldable pub opened_with : List Made → ℕ → Option Values
opened_with past n = values_in (last_accepted (opens_or_closes n) past)

-- the calls since the last accepted open or close that names line n
unfoldable pub since : ℕ → List Made → List Made
since n [] = []
since n (m ∷ past) = cond (m.accepted && opens_or_closes n m.call) [] (m ∷ since n past)

-- a seize or release of subchannel s of line n
abbrev pub seizes_or_releases : ℕ → ℕ → Call → Bool
seizes_or_releases n s (opens m v) = false
seizes_or_releases n s (closes m) = false
seizes_or_releases n s (seizes m t o) = eqb m n && eqb t s
seizes_or_releases n s (releases m t o) = eqb m n && eqb t s

abbrev pub owner_in : Option Call → ℕ
owner_in none = 0
owner_in (some (opens n v)) = 0
owner_in (some (closes n)) = 0
owner_in (some (seizes n s o)) = o
owner_in (some (releases n s o)) = 0

-- "Subchannel s of an open line is held if the last accepted seize or release of it since that open is a seize; its owner is the one named
-- there." 0 where it is not held
unfoldable pub held_by : List Made → ℕ → ℕ → ℕ
held_by past n s = owner_in (last_accepted (seizes_or_releases n s) (since n past))

abbrev pub is_seize : Option Call → Bool
is_seize none = false
is_seize (some (opens n v)) = false
is_seize (some (closes n)) = false
is_seize (some (seizes n s o)) = true
is_seize (some (releases n s o)) = false

-- "held if the last accepted seize or release of it since that open is a seize"
unfoldable pub is_seized : List Made → ℕ → ℕ → Bool
is_seized past n s = is_seize (last_accepted (seizes_or_releases n s) (since n past))

-- "Every other line is closed, and every other s has owner 0."
abbrev pub line_or : Option Values → (ℕ → ℕ) → LineState
line_or none owners = closed_line
line_or (some v) owners = line_with v owners

-- "The cell after the list has exactly these lines, values and owners, with CA, C0, BCC, AG and P as they were in the cell before the first
-- call."
unfoldable pub cell_from : Cell → List Made → Cell
cell_from first past =
    record { ca = first.ca; size = first.size; c0 = first.c0; bcc = first.bcc; ag = first.ag; p = first.p; lines = tabulate line_count (λ n. line_or (opened_with past n) (held_by past n)) }
