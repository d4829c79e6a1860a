-- A payload has no more bits than its burst, and so has room in 148. Assumes nothing.
use Rattle.std.proofs.Common.{◌≤◌, length, [], ◌∷◌, sym, arith, length-take-le}
use Rattle.std.proofs.Math.Option.{some, none}
use Rattle.layouts.specs.Rows.{Row, room}
use Rattle.schedule.proofs.run_bursts.taken.Given as given
use Rattle.schedule.proofs.run_bursts.taken.Goals as goal

room-le : (row : Row) → room row ≤ length row
unfolding room
room-le [] = omega arith
room-le (some bit ∷ row) = omega (arith, room-le row)
room-le (none ∷ row) = omega (arith, room-le row)

fits : (g : given.Over) → g.row.L.Denot → g.L.Layout.ROOM ≤ 148
fits g layout =
    let sizes = g.met.L.Layout.sizes layout in
    omega (arith, sizes.bits, sizes.payload_bits, g.met.L.Layout.fits, room-le (g.L.Layout.burst_row layout))

pub slice_bounds-payload-end : goal.slice_bounds-payload-end
slice_bounds-payload-end g c = omega (arith, c.ROOM.ensures, fits g c.args.layout)

pub slice_bounds-bits-end : goal.slice_bounds-bits-end
slice_bounds-bits-end g c = sym (length-take-le _ _ (omega (arith, c.ROOM.ensures, fits g c.args.layout)))
