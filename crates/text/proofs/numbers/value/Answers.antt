use Rattle.std.proofs.Common.{arith, rules}
use Rattle.std.proofs.lemmas.Grind.{common_steps}
use Rattle.text.proofs.Digits.{value_overflows, value_kept, value_done}
use Rattle.text.proofs.numbers.value.Goals as goal

pub returns-in_err-tens : goal.returns-in_err-tens
returns-in_err-tens c = grind (arith, common_steps, value_overflows c.args.word.now c.loop-c.c-index c.loop-c.n c.loop-c.invariant.1)

pub returns-in_err-n : goal.returns-in_err-n
returns-in_err-n c = grind (arith, common_steps, value_overflows c.args.word.now c.loop-c.c-index c.loop-c.n c.loop-c.invariant.1)

pub loop-c-preserved : goal.loop-c-preserved
loop-c-preserved c = (search rules, grind (arith, common_steps, value_kept c.args.word.now c.loop-c.c-index c.loop-c.n c.loop-c.invariant.1 c.in_ok-n.n))

pub returns : goal.returns
returns c = value_done c.args.word.now c.loop-c.c-index c.loop-c.n c.loop-c.invariant.1 (search rules) c.loop-c.invariant.0
