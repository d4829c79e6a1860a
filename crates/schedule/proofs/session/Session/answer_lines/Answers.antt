use Rattle.std.proofs.Common.{sym}
use Rattle.wording.proofs.Words.{line_shorter}
use Rattle.schedule.proofs.session.Session.answer_lines.Goals as goal

pub loop-line-smaller : goal.loop-line-smaller
loop-line-smaller c = line_shorter _ _ _ (sym c.in-Some.ensures)
