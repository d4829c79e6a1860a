use Rattle.std.proofs.Common.{rules}
use Rattle.text.proofs.Filled.{appended}
use Rattle.timetable.proofs.tests.frame_at.Goals as goal

pub returns : goal.returns
returns c = appended _ _ _ _ c.frame.new.out.at _ (search rules) (search rules) (search rules)
