-- `traffic_rows` meets its contract: each check follows from what the question promises and the sheet's row. Assumes nothing.
use Rattle.maps.specs.Numbers.{standing_numbers}
use Rattle.rules.proofs.DrillSheet.{drill_sheet}
use Rattle.examples.proofs.Checks.{on_line}
use Rattle.examples.proofs.traffic_rows.Goals as goal

pub expect_one_block-requires : goal.expect_one_block-requires
unfolding standing_numbers
expect_one_block-requires c = on_line _ _ _ c.tdma_line.ensures c.requires drill_sheet.line_full_rate_sacch

pub expect_idle_line-requires : goal.expect_idle_line-requires
unfolding standing_numbers
expect_idle_line-requires c = on_line _ _ _ c.tdma_line-2.ensures c.requires drill_sheet.line_full_rate_idle

pub expect_one_block-requires-2 : goal.expect_one_block-requires-2
unfolding standing_numbers
expect_one_block-requires-2 c = on_line _ _ _ c.tdma_line-3.ensures c.requires drill_sheet.line_half_rate_sacch

pub expect_one_block-requires-3 : goal.expect_one_block-requires-3
unfolding standing_numbers
expect_one_block-requires-3 c = on_line _ _ _ c.tdma_line-4.ensures c.requires drill_sheet.line_sdcch8_sacch
