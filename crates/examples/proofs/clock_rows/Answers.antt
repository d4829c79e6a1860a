-- `clock_rows` meets its contract: each check follows from what the question promises and the sheet's row. Assumes nothing.
use mathlib.Core.Path.{ap, ◌∙◌}
use Rattle.answers.specs.Outcome.{any_of}
use Rattle.clock.specs.Clock.{prime_of}
use Rattle.c_answers.specs.Numbers.{split_numbers, join_numbers}
use Rattle.rules.proofs.DrillSheet.{drill_sheet}
use Rattle.examples.proofs.clock_rows.Goals as goal

pub expect_split-requires : goal.expect_split-requires
unfolding any_of prime_of
expect_split-requires c = c.tdma_split.ensures ∙ ap split_numbers drill_sheet.last_frame

pub expect_join-requires : goal.expect_join-requires
expect_join-requires c = c.tdma_join.ensures ∙ ap join_numbers drill_sheet.frame_51
