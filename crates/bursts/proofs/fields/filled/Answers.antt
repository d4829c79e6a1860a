-- `fields::filled` meets its contract: the bytes below `at` are the burst's, and the rest is built of the fields that are left. Assumes nothing.
use Rattle.std.proofs.Common.{◌≡◌, ℕ, ◌+◌, ◌≤◌, List, length, refl, sym, ◌∙◌, arith}
use Rattle.bursts.proofs.Turns.{part_length, part_kept, part_written, whole_front, length_from, room_from, built_from, built_length, no_length, none_built}
use Rattle.bursts.proofs.fields.filled.Goals as goal

pub write-requires : goal.write-requires
write-requires c =
    let fits : c.loop-field.at + c.width.result ≤ length c.loop-field.burst = omega (arith, c.loop-field.invariant.0, c.loop-field.invariant.1, length_from _ _ c.loop-field-test.true, c.width.ensures, c.requires.0) in
    (c.split_at.ensures.front_len ∙ c.room.ensures, part_length c.loop-field.at c.width.result c.loop-field.burst fits ∙ c.width.ensures)

pub loop-field-preserved : goal.loop-field-preserved
loop-field-preserved c =
    let turn = c.loop-field in
    let fields = c.args.fields.now in
    let inside = c.loop-field-test.true in
    let w = c.width.result in
    let ys : List ℕ = c.write.new.to in
    let fits : turn.at + w ≤ length turn.burst = omega (arith, turn.invariant.0, turn.invariant.1, length_from _ _ inside, c.width.ensures, c.requires.0) in
    let long : length ys ≡ w = built_length _ _ ys c.write.ensures ∙ sym c.width.ensures in (
      part_kept turn.at w turn.burst ys fits long ∙ turn.invariant.0,
      omega (arith, turn.invariant.1, length_from _ _ inside, c.width.ensures),
      omega (arith, turn.invariant.2, room_from _ _ inside, c.room.ensures, c.split_at.ensures.back_len),
      part_written turn.at w turn.burst ys fits long _ _ _ turn.invariant.3
          (built_from fields turn.field-index inside turn.left.now c.room.result c.room.ensures
          ∙ rw (← c.split_at.ensures.front, ← c.split_at.ensures.back, ← c.write.ensures) refl),
    )

pub returns : goal.returns
returns c =
    let turn = c.loop-field in
    let after = c.loop-field-test.false in
    whole_front _ turn.burst _ turn.at _ (none_built _ _ after turn.left.now) (omega (arith, turn.invariant.1, no_length _ _ after)) turn.invariant.3
