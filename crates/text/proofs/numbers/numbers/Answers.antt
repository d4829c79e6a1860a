use Rattle.std.proofs.Common.{length, ap, length-set, ◌∙◌, arith, rules}
use Rattle.std.proofs.lemmas.Grind.{common_steps}
use Rattle.std.proofs.lemmas.List.{length-replicate}
use Rattle.text.proofs.Taken.{taken_from, taken_done, taken_missing, taken_wrong, taken_more}
use Rattle.text.proofs.numbers.numbers.Goals as goal

pub loop-i-init : goal.loop-i-init
loop-i-init g c = (ap length c.zeros-values.ensures ∙ length-replicate _ _, taken_from _ _)

pub returns-in_err-word : goal.returns-in_err-word
returns-in_err-word g c =
    let missing = taken_missing _ _ _ _ _ c.loop-i.invariant.1 (grind (arith, common_steps)) (grind (arith, common_steps)) in
    grind (arith, common_steps)

pub returns-in_err-number : goal.returns-in_err-number
returns-in_err-number g c =
    let wrong = taken_wrong _ _ _ _ _ c.loop-i.invariant.1 (grind (arith, common_steps)) c.in_ok-word.word.now c.in_ok-word.after.now (grind (arith, common_steps)) c.in_err-number.field-0.0 (search rules) in
    grind (arith, common_steps)

pub loop-i-preserved : goal.loop-i-preserved
loop-i-preserved g c =
    rw c.put.ensures
    (length-set _ _ _ ∙ c.loop-i.invariant.0, taken_more _ _ _ _ _ c.loop-i.invariant.1 (grind (arith, common_steps)) c.in_ok-word.word.now c.in_ok-word.after.now (grind (arith, common_steps)) (omega arith) _ (search rules))

pub returns : goal.returns
returns g c = taken_done _ _ _ _ _ c.loop-i.invariant.1 (omega arith) (omega arith)
