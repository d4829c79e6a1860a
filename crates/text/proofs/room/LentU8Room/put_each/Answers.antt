use Rattle.std.proofs.Common.{map, ap, ◌∙◌, rules}
use Rattle.text.proofs.InPlace.{one_more, all_changed}
use Rattle.text.proofs.Filled.{filled_each}
use Rattle.text.proofs.room.LentU8Room.put_each.Goals as goal

pub loop-byte-preserved : goal.loop-byte-preserved
loop-byte-preserved g c = one_more g.C.Change.changed _ _ _ c.loop-byte.invariant c.loop-byte-test.true c.loop-byte.auto.byte-items _ c.change.ensures

pub returns : goal.returns
returns g c =
    let f = g.C.Change.changed in
    let changed = all_changed f _ _ _ c.loop-byte.invariant c.loop-byte-test.false ∙ ap (map f) c.copy_from_slice.ensures.after in
    (filled_each f c.args.self.now.slice.now c.args.text.now c.args.self.now.at _ _ _ (search rules) (search rules) (search rules) c.loop-byte.byte-items _ changed, search rules)
