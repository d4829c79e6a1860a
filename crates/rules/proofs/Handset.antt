-- specs/Handset.antt: what start takes as CA, and the calls keep, is a cell allocation. Assumes nothing.
use mathlib.Core.Path.{◌≡◌, sym, ap, subst}
use mathlib.Core.Bool.{Bool, not}
use mathlib.Core.List.{[], ◌∷◌}
use Rattle.answers.specs.Outcome.{cause, decide}
use Rattle.hops.specs.Allocation.{lists}
use Rattle.hops.specs.Handset.{handset_list}
use Rattle.hops.proofs.Handset.{allocation_list}
use Rattle.hops.proofs.Former.{others_as_before}
use Rattle.rules.specs.State.{Cell, allocation, empty}
use Rattle.rules.specs.Calls.{step, parameter_cause, refused_cell, start_of}
use Rattle.rules.specs.History.{cell_from}
use Rattle.rules.specs.Handset.{CellsAsHandsetsRead, former_start_of, StartsAsBefore}
use Rattle.rules.proofs.Known.{known}

pub cells_as_handsets_read : CellsAsHandsetsRead
unfolding CellsAsHandsetsRead cell_from
cells_as_handsets_read c w =
    let k = known c w in
    subst (λ (d : Cell). allocation d ≡ handset_list (lists (allocation d))) (sym k.as_listed) (allocation_list (allocation k.first) k.begun.allocated)

pub starts_as_before : StartsAsBefore
unfolding StartsAsBefore start_of former_start_of
starts_as_before ca c0 bcc ag p none =
    ap (λ (t : Bool). step refused_cell (decide (cause 1 (not t ∷ []) ∷ parameter_cause ca c0 bcc ag p ∷ []) (empty ca c0 bcc ag p)))
    (others_as_before.allocation ca none)
