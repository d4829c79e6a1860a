-- `page_rows` meets its contract: each check follows from what the question promises and the sheet's row. Assumes nothing.
use Rattle.maps.specs.Numbers.{standing_numbers}
use Rattle.tdma.specs.Cells.{page_numbers}
use Rattle.rules.specs.Paging.{page_of}
use Rattle.rules.specs.DrillSheet.{imsi}
use Rattle.rules.proofs.DrillSheet.{drill_sheet}
use Rattle.examples.proofs.Checks.{on_cell, on_line}
use Rattle.examples.proofs.page_rows.Goals as goal

pub expect_page-requires : goal.expect_page-requires
expect_page-requires c = on_cell page_numbers (λ x. page_of x imsi 0) c.page.ensures c.requires drill_sheet.page_asked

pub expect_one_block-requires : goal.expect_one_block-requires
unfolding standing_numbers
expect_one_block-requires c = on_line _ _ _ c.tdma_line.ensures c.requires drill_sheet.line_paged
