use Rattle.std.proofs.Common.{◌∙◌, rules}
use Rattle.text.proofs.Decimal.{std_decimal-decimal}
use Rattle.text.proofs.Puts.{put_as}
use Rattle.text.proofs.print.put_number.Goals as goal

pub returns : goal.returns
returns g c = put_as _ _ (c.as_bytes.ensures.value ∙ c.format.ensures.text ∙ std_decimal-decimal c.args.n (search rules)) c.put.ensures
