-- `map` meets its contract: it is refused with its bytes, and else what stands in the frame is taken from them. Assumes nothing.
use Rattle.std.proofs.Common.{Ok, Err, rules, ap, ◌∙◌}
use Rattle.answers.specs.Outcome.{accepted}
use Rattle.frame_map.proofs.Within.{mapped}
use Rattle.frame_map.proofs.map.Goals as goal

pub returns-in_err-bytes : goal.returns-in_err-bytes
returns-in_err-bytes c = let m = mapped _ _ _ _ (Err _) c.in_err-bytes.ensures in search rules

pub returns : goal.returns
returns c = ap accepted c.unpack.ensures ∙ mapped _ _ _ _ (Ok _) c.in_ok-bytes.ensures
