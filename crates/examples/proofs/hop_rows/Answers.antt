-- `hop_rows` meets its contract: each check follows from what the question promises and the sheet's row. Assumes nothing.
use mathlib.Core.Path.{ap, ◌∙◌}
use Rattle.c_answers.specs.Numbers.{hop_numbers}
use Rattle.rules.proofs.DrillSheet.{drill_sheet}
use Rattle.examples.proofs.hop_rows.Goals as goal

pub expect_hop-requires : goal.expect_hop-requires
expect_hop-requires c = c.hop.ensures ∙ ap hop_numbers drill_sheet.cyclic

pub expect_hop-requires-2 : goal.expect_hop-requires-2
expect_hop-requires-2 c = c.hop-2.ensures ∙ ap hop_numbers drill_sheet.mask_7_fn_0

pub expect_hop-requires-3 : goal.expect_hop-requires-3
expect_hop-requires-3 c = c.hop-3.ensures ∙ ap hop_numbers drill_sheet.mask_7_fn_2

pub expect_hop-requires-4 : goal.expect_hop-requires-4
expect_hop-requires-4 c = c.hop-4.ensures ∙ ap hop_numbers drill_sheet.mask_7_fn_4

pub expect_hop-requires-5 : goal.expect_hop-requires-5
expect_hop-requires-5 c = c.hop-5.ensures ∙ ap hop_numbers drill_sheet.mask_7_maio_1

pub expect_hop-requires-6 : goal.expect_hop-requires-6
expect_hop-requires-6 c = c.hop-6.ensures ∙ ap hop_numbers drill_sheet.mask_15
