use Rattle.std.proofs.Common.{arith}
use Rattle.std.proofs.lemmas.Grind.{common_steps}
use Rattle.text.proofs.Scan.{word_found, no_word_found}
use Rattle.text.proofs.words.next_word.Goals as goal

pub returns-then-is_empty : goal.returns-then-is_empty
returns-then-is_empty c = no_word_found _ _ _ _ c.trim_start.ensures c.split_before.ensures (grind (arith, common_steps))

pub returns : goal.returns
returns c = word_found _ _ _ _ c.trim_start.ensures c.split_before.ensures (grind (arith, common_steps))
