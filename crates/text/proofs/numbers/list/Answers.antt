use Rattle.std.proofs.Common.{sym, ◌∙◌, arith, rules}
use Rattle.std.proofs.lemmas.Grind.{common_steps}
use Rattle.wording.proofs.Words.{word_shorter}
use Rattle.wording.proofs.Written.{written_whole}
use Rattle.text.proofs.Taken.{filled_from, list_done, list_full, list_wrong, list_more}
use Rattle.text.proofs.numbers.list.Goals as goal

pub loop-word-init : goal.loop-word-init
loop-word-init g c = (filled_from _ _ _ (search rules), search rules)

pub returns-then-is_full : goal.returns-then-is_full
returns-then-is_full g c = (list_full _ _ _ _ c.loop-word.invariant.0 _ _ c.in-Some.ensures (grind (arith, common_steps)), c.loop-word.invariant.1)

pub returns-in_err-number : goal.returns-in_err-number
returns-in_err-number g c =
    let wrong = list_wrong _ _ _ _ c.loop-word.invariant.0 _ _ c.in-Some.ensures (grind (arith, common_steps)) c.in_err-number.field-0.0 (search rules) in
    (grind (arith, common_steps), c.loop-word.invariant.1)

pub loop-word-smaller : goal.loop-word-smaller
loop-word-smaller g c = word_shorter _ _ _ (sym c.in-Some.ensures)

pub loop-word-preserved : goal.loop-word-preserved
loop-word-preserved g c =
    let more = list_more _ _ _ _ c.loop-word.invariant.0 _ _ c.in-Some.ensures (grind (arith, common_steps)) c.in_ok-number.field-0 c.unwrap_or.result (search rules) (grind (arith, common_steps)) in
    let pushed = c.push.ensures.0 ∙ written_whole _ _ _ (grind (arith, common_steps)) in
    (cc (more, pushed), (c.push.ensures.1.0 ∙ c.loop-word.invariant.1.0, c.push.ensures.1.1 ∙ c.loop-word.invariant.1.1))

pub returns : goal.returns
returns g c = (list_done _ _ _ _ c.loop-word.invariant.0 c.in_default.ensures, c.loop-word.invariant.1)
