-- `common::common_lines` meets its contract: the chain adds one for each line that passes. Assumes nothing.
use Rattle.std.proofs.Common.{ℕ, refl, ◌∙◌, arith, rules}
use mir.Val.{bool_byte}
use Rattle.std.proofs.lemmas.Iterator.{YieldsList-from_range, YieldsList-from_map}
use Rattle.std.proofs.lemmas.Iterator.Consumers.{YieldsList-at, sum_from_yields_List, fits_from_yields_list}
use Rattle.rules.specs.State.{line_at}
use Rattle.rules.specs.Calls.{is_common_line}
use Rattle.storage.specs.Words.{cell_of}
use Rattle.placing.proofs.Counted.{counted, few}
use Rattle.placing.proofs.common.common_lines.Goals as goal

pub sum-requires-clause-fits : goal.sum-requires-clause-fits
sum-requires-clause-fits c =
    fits_from_yields_list c.map.result 4294967296
    (YieldsList-from_map _ (λ k. bool_byte (is_common_line (line_at (cell_of c.args.cell.now) k)))
    (YieldsList-at c.map.ensures.source (YieldsList-from_range 0 64 64 refl refl)) c.map.ensures.closure (λ x r q k. search rules))
    (few (λ (k : ℕ). is_common_line (line_at (cell_of c.args.cell.now) k)) 64 (omega arith))

pub returns : goal.returns
returns c =
    sum_from_yields_List c.map.result _ c.sum.ensures.ran
    (YieldsList-from_map _ (λ k. bool_byte (is_common_line (line_at (cell_of c.args.cell.now) k)))
    (YieldsList-at c.map.ensures.source (YieldsList-from_range 0 64 64 refl refl)) c.map.ensures.closure (λ x r q k. search rules))
    ∙ counted (λ (k : ℕ). is_common_line (line_at (cell_of c.args.cell.now) k)) 64
