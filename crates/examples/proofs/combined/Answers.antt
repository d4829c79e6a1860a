-- `combined` meets its contract: each call is accepted, and the last leaves the definition's cell. Assumes nothing.
use lib.ListN.{drop}
use Rattle.storage.specs.Words.{cell_of}
use Rattle.rules.specs.DrillSheet.{empty, combined_calls, combined}
use Rattle.rules.proofs.DrillSheet.{drill_sheet}
use Rattle.examples.proofs.Checks.{told, nones, Remaining, started, called, next_accepted, ended}
use Rattle.examples.proofs.combined.Goals as goal

pub expect_accepted-requires : goal.expect_accepted-requires
expect_accepted-requires c = told c.start.ensures.0 drill_sheet.accepted_start

-- the calls that are left after each call; from one to the next it is three steps: the check, the cell lent anew, the call
remaining : (c : goal.After-start) → Remaining (cell_of c.start.new.cell) combined_calls combined
unfolding nones
remaining c = started empty combined_calls c.start.ensures.1 drill_sheet.accepted_combined

pub expect_accepted-requires-2 : goal.expect_accepted-requires-2
expect_accepted-requires-2 c = next_accepted (remaining c.before.before.before) c.tdma_open.ensures.0.0

remaining_2 : (c : goal.After-tdma_open) → Remaining (cell_of c.tdma_open.new.cell) (drop 1 combined_calls) combined
remaining_2 c = called (remaining c.before.before.before) c.tdma_open.ensures.0.1

pub expect_accepted-requires-3 : goal.expect_accepted-requires-3
expect_accepted-requires-3 c = next_accepted (remaining_2 c.before.before.before) c.tdma_seize.ensures.0.0

remaining_3 : (c : goal.After-tdma_seize) → Remaining (cell_of c.tdma_seize.new.cell) (drop 2 combined_calls) combined
remaining_3 c = called (remaining_2 c.before.before.before) c.tdma_seize.ensures.0.1

pub returns : goal.returns
returns c = ended (remaining_3 c.before)
