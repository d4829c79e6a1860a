-- `traffic` meets its contract: each call is accepted, and the last leaves the definition's cell. Assumes nothing.
use lib.ListN.{drop}
use Rattle.storage.specs.Words.{cell_of}
use Rattle.rules.specs.DrillSheet.{empty, calls, traffic}
use Rattle.rules.proofs.DrillSheet.{drill_sheet}
use Rattle.examples.proofs.Checks.{told, nones, Remaining, started, called, next_accepted, ended}
use Rattle.examples.proofs.traffic.Goals as goal

pub expect_accepted-requires : goal.expect_accepted-requires
expect_accepted-requires c = told c.start.ensures.0 drill_sheet.accepted_start

-- the calls that are left after each call; from one to the next it is three steps: the check, the cell lent anew, the call
remaining : (c : goal.After-start) → Remaining (cell_of c.start.new.cell) calls traffic
unfolding nones
remaining c = started empty calls c.start.ensures.1 drill_sheet.accepted_calls

pub expect_accepted-requires-2 : goal.expect_accepted-requires-2
expect_accepted-requires-2 c = next_accepted (remaining c.before.before.before) c.tdma_open.ensures.0.0

remaining_2 : (c : goal.After-tdma_open) → Remaining (cell_of c.tdma_open.new.cell) (drop 1 calls) traffic
remaining_2 c = called (remaining c.before.before.before) c.tdma_open.ensures.0.1

pub expect_accepted-requires-3 : goal.expect_accepted-requires-3
expect_accepted-requires-3 c = next_accepted (remaining_2 c.before.before.before) c.tdma_open-2.ensures.0.0

remaining_3 : (c : goal.After-tdma_open-2) → Remaining (cell_of c.tdma_open-2.new.cell) (drop 2 calls) traffic
remaining_3 c = called (remaining_2 c.before.before.before) c.tdma_open-2.ensures.0.1

pub expect_accepted-requires-4 : goal.expect_accepted-requires-4
expect_accepted-requires-4 c = next_accepted (remaining_3 c.before.before.before) c.tdma_open-3.ensures.0.0

remaining_4 : (c : goal.After-tdma_open-3) → Remaining (cell_of c.tdma_open-3.new.cell) (drop 3 calls) traffic
remaining_4 c = called (remaining_3 c.before.before.before) c.tdma_open-3.ensures.0.1

pub expect_accepted-requires-5 : goal.expect_accepted-requires-5
expect_accepted-requires-5 c = next_accepted (remaining_4 c.before.before.before) c.tdma_open-4.ensures.0.0

remaining_5 : (c : goal.After-tdma_open-4) → Remaining (cell_of c.tdma_open-4.new.cell) (drop 4 calls) traffic
remaining_5 c = called (remaining_4 c.before.before.before) c.tdma_open-4.ensures.0.1

pub expect_accepted-requires-6 : goal.expect_accepted-requires-6
expect_accepted-requires-6 c = next_accepted (remaining_5 c.before.before.before) c.tdma_open-5.ensures.0.0

remaining_6 : (c : goal.After-tdma_open-5) → Remaining (cell_of c.tdma_open-5.new.cell) (drop 5 calls) traffic
remaining_6 c = called (remaining_5 c.before.before.before) c.tdma_open-5.ensures.0.1

pub expect_accepted-requires-7 : goal.expect_accepted-requires-7
expect_accepted-requires-7 c = next_accepted (remaining_6 c.before.before.before) c.tdma_open-6.ensures.0.0

remaining_7 : (c : goal.After-tdma_open-6) → Remaining (cell_of c.tdma_open-6.new.cell) (drop 6 calls) traffic
remaining_7 c = called (remaining_6 c.before.before.before) c.tdma_open-6.ensures.0.1

pub expect_accepted-requires-8 : goal.expect_accepted-requires-8
expect_accepted-requires-8 c = next_accepted (remaining_7 c.before.before.before) c.tdma_seize.ensures.0.0

remaining_8 : (c : goal.After-tdma_seize) → Remaining (cell_of c.tdma_seize.new.cell) (drop 7 calls) traffic
remaining_8 c = called (remaining_7 c.before.before.before) c.tdma_seize.ensures.0.1

pub returns : goal.returns
returns c = ended (remaining_8 c.before)
