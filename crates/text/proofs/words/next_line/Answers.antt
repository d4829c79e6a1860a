use Rattle.std.proofs.Common.{◌≡◌, length, arith, rules}
use Rattle.std.proofs.lemmas.Grind.{common_steps}
use Rattle.text.proofs.Scan.{line_found, no_line_found}
use Rattle.text.proofs.words.next_line.Goals as goal

pub returns-in_err-rest : goal.returns-in_err-rest
returns-in_err-rest c =
    let empty : length c.split_before.result.1.now ≡ 0 = grind (arith, common_steps) in
    let found = no_line_found _ _ _ c.split_before.ensures empty in
    grind (arith, common_steps)

pub returns : goal.returns
returns c = line_found _ _ _ c.split_before.ensures c.in_ok-rest.field-0-0.now c.in_ok-rest.rest.now (search rules)
