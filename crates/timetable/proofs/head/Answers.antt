-- `head` meets its contract: its parts in a row. Assumes nothing.
use Rattle.std.proofs.Common.{ap}
use Rattle.wording.specs.Print.{decimal_of}
use Rattle.text.proofs.Puts.{put_both, put_as}
use Rattle.timetable.proofs.head.Goals as goal

pub returns : goal.returns
returns g c =
    let tn = put_both _ _ _ _ _ c.put.ensures (put_as _ _ (ap decimal_of c.from.ensures) c.put_number.ensures) in
    let direction = put_both _ _ _ _ _ tn (put_as _ _ c.direction_name.ensures c.put-2.ensures) in
    let count = put_both _ _ _ _ _ direction (put_as _ _ (ap decimal_of c.from-2.ensures) c.put_number-2.ensures) in
    let from = put_both _ _ _ _ _ count c.put-3.ensures in
    let frame = put_both _ _ _ _ _ from (put_as _ _ (ap decimal_of c.from-3.ensures) c.put_number-3.ensures) in
    put_both _ _ _ _ _ frame c.put-4.ensures
