use Rattle.std.proofs.Common.{ap}
use borrow.Author.Tests.{ne_eqb}
use Rattle.wording.specs.Print.{left}
use Rattle.text.proofs.Puts.{put_both, put_as}
use Rattle.timetable.proofs.numbered.Goals as goal

pub returns-else-line-eq0 : goal.returns-else-line-eq0
returns-else-line-eq0 g c =
    let name = put_as _ _ (ap (left 5) c.channel_name.ensures) c.kind.ensures in
    let space = put_both _ _ _ _ _ name c.put-else-line-eq0.ensures in
    let holder = put_both _ _ _ _ _ space c.numbered_holder.ensures in
    rw (ne_eqb c.args.line.channel 0 c.if-line-eq0.false) (put_both _ _ _ _ _ holder c.numbered_columns.ensures)
