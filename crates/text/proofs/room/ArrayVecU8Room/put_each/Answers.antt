use Rattle.std.proofs.Common.{refl, rules}
use Rattle.text.proofs.InPlace.{one_more, stood, end_changed}
use Rattle.text.proofs.room.ArrayVecU8Room.put_each.Goals as goal

pub slice_bounds-byte-items-count : goal.slice_bounds-byte-items-count
slice_bounds-byte-items-count g c = stood g.C.Change.changed g.row.N _ c.args.text.now _ _ c.put.ensures.0 c.as_mut_slice.ensures.value _ (search rules)

pub slice_bounds-byte-items-start : goal.slice_bounds-byte-items-start
slice_bounds-byte-items-start g c = stood g.C.Change.changed g.row.N _ c.args.text.now _ _ c.put.ensures.0 c.as_mut_slice.ensures.value _ (search rules)

pub loop-byte-preserved : goal.loop-byte-preserved
loop-byte-preserved g c = one_more g.C.Change.changed _ _ _ c.loop-byte.invariant c.loop-byte-test.true c.loop-byte.auto.byte-items _ c.change.ensures

pub returns : goal.returns
returns g c =
    (end_changed g.C.Change.changed g.row.N _ c.args.text.now _ _ c.put.ensures.0 c.as_mut_slice.ensures.value _ _ _ (search rules) (c.loop-byte.invariant, c.loop-byte-test.false), (refl, refl))
