-- The third demand, and what is reached, of the cell as a value: its methods are calls on its words. Assumes nothing.
use mathlib.Core.List.{List, [], ◌∷◌}
use Rattle.cell.specs.OfCode as OfCode
use Rattle.cell.specs.OfCode.{ThirdDemandOfCode, ReachedByCode}
use Rattle.cell.specs.OfCell.{Handed, Promised, on_words, ThirdDemandOfCell, ReachedByCell}
use Rattle.cell.specs.declared.value.Cell.{Cell}
use Rattle.cell.specs.Value.{kept}
use Rattle.cell.proofs.OfCode.{third_demand_of_code, reached_by_code}

promised : (cell : Cell) (calls : List Handed) → Promised cell calls → OfCode.Promised (kept cell) (on_words calls)
unfolding Promised OfCode.Promised on_words
promised cell [] k = tt
promised cell (h ∷ more) k = (k.0, promised h.back.cell more k.1)

pub third_demand_of_cell : ThirdDemandOfCell
unfolding ThirdDemandOfCell ThirdDemandOfCode
third_demand_of_cell ca c0 bcc ag p begun e calls promises =
    third_demand_of_code ca c0 bcc ag p begun.answer (kept begun.cell) e (on_words calls) (promised begun.cell calls promises)

pub reached_by_cell : ReachedByCell
unfolding ReachedByCell ReachedByCode
reached_by_cell ca c0 bcc ag p begun e calls promises =
    reached_by_code ca c0 bcc ag p begun.answer (kept begun.cell) e (on_words calls) (promised begun.cell calls promises)
