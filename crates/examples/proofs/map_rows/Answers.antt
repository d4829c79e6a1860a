-- `map_rows` meets its contract: each check follows from what the question promises and the sheet's row. Assumes nothing.
use mathlib.Core.Path.{ap, ◌∙◌}
use lib.Dec.{lit≤}
use Rattle.maps.specs.Numbers.{standing_numbers, numbers_of}
use Rattle.c_answers.specs.Numbers.{map_numbers}
use Rattle.rules.proofs.DrillSheet.{drill_sheet}
use Rattle.examples.proofs.map_rows.Goals as goal

pub expect_burst-requires : goal.expect_burst-requires
unfolding standing_numbers numbers_of
expect_burst-requires c = c.tdma_map.ensures ∙ ap map_numbers (drill_sheet.full_rate_sacch 0 (lit≤ tt))

pub expect_burst-requires-2 : goal.expect_burst-requires-2
unfolding standing_numbers numbers_of
expect_burst-requires-2 c = c.tdma_map-2.ensures ∙ ap map_numbers (drill_sheet.full_rate_sacch 1 (lit≤ tt))

pub expect_idle-requires : goal.expect_idle-requires
unfolding standing_numbers numbers_of
expect_idle-requires c = c.tdma_map-3.ensures ∙ ap map_numbers (drill_sheet.full_rate_idle 0 (lit≤ tt))

pub expect_idle-requires-2 : goal.expect_idle-requires-2
unfolding standing_numbers numbers_of
expect_idle-requires-2 c = c.tdma_map-4.ensures ∙ ap map_numbers (drill_sheet.full_rate_idle 1 (lit≤ tt))

pub expect_burst-requires-3 : goal.expect_burst-requires-3
unfolding standing_numbers numbers_of
expect_burst-requires-3 c = c.tdma_map-5.ensures ∙ ap map_numbers (drill_sheet.half_rate_sacch 0 (lit≤ tt))

pub expect_burst-requires-4 : goal.expect_burst-requires-4
unfolding standing_numbers numbers_of
expect_burst-requires-4 c = c.tdma_map-6.ensures ∙ ap map_numbers (drill_sheet.half_rate_sacch 1 (lit≤ tt))

pub expect_burst-requires-5 : goal.expect_burst-requires-5
unfolding standing_numbers numbers_of
expect_burst-requires-5 c = c.tdma_map-7.ensures ∙ ap map_numbers (drill_sheet.sdcch8_sacch 0 (lit≤ tt))

pub expect_burst-requires-6 : goal.expect_burst-requires-6
unfolding standing_numbers numbers_of
expect_burst-requires-6 c = c.tdma_map-8.ensures ∙ ap map_numbers (drill_sheet.combined_fn_13 0 (lit≤ tt))

pub expect_burst-requires-7 : goal.expect_burst-requires-7
unfolding standing_numbers numbers_of
expect_burst-requires-7 c = c.tdma_map-9.ensures ∙ ap map_numbers (drill_sheet.combined_fn_14 0 (lit≤ tt))

pub expect_burst-requires-8 : goal.expect_burst-requires-8
unfolding standing_numbers numbers_of
expect_burst-requires-8 c = c.tdma_map-10.ensures ∙ ap map_numbers (drill_sheet.combined_fn_64 0 (lit≤ tt))
