-- A cell's list as handsets read it, and starts without ARFCN 0: document 02, No. 3. The statements; proofs/Handset.antt proves them. Assumes nothing.
use Rattle.std.specs.Prelude.{ℕ, ◌≡◌, false, List, [], ◌∷◌}
use Rattle.answers.specs.Outcome.{decide}
use Rattle.hops.specs.Allocation.{lists}
use Rattle.hops.specs.Handset.{handset_list}
use Rattle.hops.specs.Former.{former_allocation_cause}
use Rattle.rules.specs.State.{Cell, allocation, empty}
use Rattle.rules.specs.Calls.{Step, step, parameter_cause, refused_cell, start_of}
use Rattle.rules.specs.Reached.{Reached}

-- "Handsets read the cell's list by 3GPP TS 04.08", "A cell with ARFCN 0 is compared with 04.08 from then on": of every cell that the calls can hand
-- back CA is, entry by entry, the list that a handset makes of the cell's ARFCNs
unfoldable pub CellsAsHandsetsRead : Type 0
CellsAsHandsetsRead = (c : Cell) → Reached c → allocation c ≡ handset_list (lists (allocation c))

-- "all other cells and the drill sheet keep their numbers": start as it was, with CA in the former order
unfoldable pub former_start_of : List ℕ → ℕ → ℕ → ℕ → ℕ → Step
former_start_of ca c0 bcc ag p =
    step refused_cell (decide (former_allocation_cause ca ∷ parameter_cause ca c0 bcc ag p ∷ []) (empty ca c0 bcc ag p))

-- of every list without ARFCN 0
unfoldable pub StartsAsBefore : Type 0
StartsAsBefore = (ca : List ℕ) (c0 bcc ag p : ℕ) → lists ca 0 ≡ false → start_of ca c0 bcc ag p ≡ former_start_of ca c0 bcc ag p
