-- What a line sends in a frame: document 01, "line(number, FN, direction)". Assumes nothing.
use Rattle.std.specs.Prelude.{ℕ, cond, List, [], ◌∷◌}
use Rattle.answers.specs.Outcome.{Outcome, refused, accepted, Cause, cause, decide}
use Rattle.answers.specs.Ranges.{no_line, no_fn, no_direction}
use Rattle.hops.specs.Hopping.{tuned, no_tuning, position_of}
use Rattle.hops.specs.declared.Selection.{Selection}
use Rattle.hops.specs.declared.Tuning.{Tuning}
use Rattle.maps.specs.Channels.{Standing, is_common}
use Rattle.maps.specs.Map.{map_of}
use Rattle.rules.specs.State.{Cell, LineState, line_at, owner_at}
use Rattle.rules.specs.Calls.{closed_cause}

-- "the ARFCN, and idle or the channel with s, blocks, places and owner": the list is empty for idle. Beside the ARFCN, MAI and the CA position:
-- document 02, No. 2, "The line and who answers carry both onward"
pub record Slot : Type 0 where
  pub tuning : Tuning
  pub standing : List Standing
  pub owner : ℕ

-- what a line with this selection is tuned to. The calls hand back no cell whose open lines have none; were there one, each number would be 0
abbrev pub tuning_at : List ℕ → Outcome Selection → Tuning
tuning_at ca (refused r) = no_tuning
tuning_at ca (accepted s) = tuned ca s

-- the ARFCN of line l in a frame, with MAI and the position
abbrev pub tuning_in : Cell → LineState → ℕ → Tuning
tuning_in c l fn = tuning_at c.ca (position_of c.size l.mask l.hsn l.maio fn)

-- what the map has. The calls hand back no cell with an open line that the map refuses; were there one, it would be idle
abbrev pub in_frame : Outcome (List Standing) → List Standing
in_frame (refused r) = []
in_frame (accepted xs) = xs

-- "(s and owner 0 for a common part, owner 0 for a free s)"
unfoldable pub owner_of : (ℕ → ℕ) → List Standing → ℕ
owner_of owners [] = 0
owner_of owners (x ∷ xs) = cond (is_common x.kind) 0 (owners x.subchannel)

-- what line l of the cell sends
unfoldable pub slot_of : Cell → LineState → ℕ → ℕ → Slot
slot_of c l fn direction =
    record { tuning = tuning_in c l fn; standing = in_frame (map_of l.combination l.tn fn direction); owner = owner_of (owner_at l) (in_frame (map_of l.combination l.tn fn direction)) }

-- "3 line number (0 to 63), .. FN, direction (0 D, 1 U) .. out of range"
abbrev pub line_causes : Cell → ℕ → ℕ → ℕ → List Cause
line_causes c n fn direction = cause 3 (no_line n ∷ no_fn fn ∷ no_direction direction ∷ []) ∷ closed_cause c n ∷ []

unfoldable pub line_of : Cell → ℕ → ℕ → ℕ → Outcome Slot
line_of c n fn direction = decide (line_causes c n fn direction) (slot_of c (line_at c n) fn direction)
