-- `who_rows` meets its contract: each check follows from what the question promises and the sheet's row. Assumes nothing.
use mathlib.Core.Path.{◌≡◌, ap, ◌∙◌}
use Rattle.maps.specs.Numbers.{standing_numbers}
use Rattle.tdma.specs.Cells.{match_numbers, nobody, who_numbers}
use Rattle.rules.specs.Who.{who_of}
use Rattle.rules.specs.DrillSheet.{cyclic_slot}
use Rattle.rules.proofs.DrillSheet.{drill_sheet}
use Rattle.examples.proofs.Checks.{on_cell, equal_who}
use Rattle.examples.proofs.who_rows.Goals as goal

told_found : (c : goal.After-tdma_who) → c.tdma_who.result ≡ match_numbers (record { line = 1; slot = cyclic_slot })
told_found c = on_cell who_numbers (λ x. who_of x 1 20 5 0) c.tdma_who.ensures c.requires drill_sheet.who_cyclic

pub expect_who-answer-requires : goal.expect_who-answer-requires
expect_who-answer-requires c = equal_who (told_found c)

pub expect_two_blocks-requires : goal.expect_two_blocks-requires
unfolding standing_numbers
expect_two_blocks-requires c = c.expect_who-answer.ensures ∙ ap (λ a. a.answer) (told_found c.before)

told_nobody : (c : goal.After-tdma_who-2) → c.tdma_who-2.result ≡ nobody 0
told_nobody c = on_cell who_numbers (λ x. who_of x 1 10 5 0) c.tdma_who-2.ensures c.requires drill_sheet.who_nobody

pub expect_who-answer-requires-2 : goal.expect_who-answer-requires-2
expect_who-answer-requires-2 c = equal_who (told_nobody c)

pub expect_idle_line-requires : goal.expect_idle_line-requires
expect_idle_line-requires c = c.expect_who-answer-2.ensures ∙ ap (λ a. a.answer) (told_nobody c.before)
