use Rattle.std.proofs.Common.{◌∙◌, rules}
use Rattle.text.proofs.Append.{to_the_right}
use Rattle.text.proofs.Decimal.{std_decimal-decimal}
use Rattle.text.proofs.Puts.{put_both, put_as}
use Rattle.text.proofs.print.put_right.Goals as goal

pub returns : goal.returns
returns g c =
    let digits = c.as_bytes-text.ensures.value ∙ c.format.ensures.text ∙ std_decimal-decimal c.args.n (search rules) in
    put_as _ _ (to_the_right c.args.width c.saturating_sub.result digits c.saturating_sub.ensures) (put_both _ _ _ _ _ c.put_spaces.ensures c.put.ensures)
