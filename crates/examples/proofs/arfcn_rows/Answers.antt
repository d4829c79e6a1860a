-- `arfcn_rows` meets its contract: each check follows from what the question promises and the sheet's row. Assumes nothing.
use Rattle.maps.specs.Numbers.{standing_numbers}
use Rattle.rules.proofs.DrillSheet.{drill_sheet}
use Rattle.examples.proofs.Checks.{on_line}
use Rattle.examples.proofs.arfcn_rows.Goals as goal

pub expect_two_blocks-requires : goal.expect_two_blocks-requires
unfolding standing_numbers
expect_two_blocks-requires c = on_line _ _ _ c.tdma_line.ensures c.requires drill_sheet.line_cyclic

pub expect_two_blocks-requires-2 : goal.expect_two_blocks-requires-2
unfolding standing_numbers
expect_two_blocks-requires-2 c = on_line _ _ _ c.tdma_line-2.ensures c.requires drill_sheet.line_mask_7_fn_0

pub expect_two_blocks-requires-3 : goal.expect_two_blocks-requires-3
unfolding standing_numbers
expect_two_blocks-requires-3 c = on_line _ _ _ c.tdma_line-3.ensures c.requires drill_sheet.line_mask_7_fn_2

pub expect_two_blocks-requires-4 : goal.expect_two_blocks-requires-4
unfolding standing_numbers
expect_two_blocks-requires-4 c = on_line _ _ _ c.tdma_line-4.ensures c.requires drill_sheet.line_mask_7_fn_4

pub expect_two_blocks-requires-5 : goal.expect_two_blocks-requires-5
unfolding standing_numbers
expect_two_blocks-requires-5 c = on_line _ _ _ c.tdma_line-5.ensures c.requires drill_sheet.line_mask_7_maio_1

pub expect_one_block-requires : goal.expect_one_block-requires
unfolding standing_numbers
expect_one_block-requires c = on_line _ _ _ c.tdma_line-6.ensures c.requires drill_sheet.line_mask_15
