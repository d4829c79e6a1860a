use Rattle.std.proofs.Common.{◌∙◌, arith}
use Rattle.std.proofs.lemmas.List.{replicate-append-replicate}
use Rattle.text.proofs.Append.{replicate_fits}
use Rattle.text.proofs.Puts.{put_nothing, put_both, put_as}
use Rattle.text.proofs.print.put_spaces.Goals as goal

pub loop-init : goal.loop-init
loop-init g c = put_nothing _

pub loop-preserved : goal.loop-preserved
loop-preserved g c = put_as _ _ (replicate-append-replicate c.loop.counter 1 32) (put_both _ _ _ _ _ c.loop.invariant c.put_byte.ensures)

pub returns : goal.returns
returns g c =
    let fits = replicate_fits (g.B.Room.buffer c.args.out.now).room (g.B.Room.buffer c.args.out.now).items c.left.result c.loop.counter c.args.count 32 c.left.ensures (omega arith) in
    (c.loop.invariant.0 ∙ fits, c.loop.invariant.1)
