-- `fields::gather` meets its contract: the bytes below `at` are the payload's, and the rest is taken from the fields that are left. Assumes
-- nothing.
use Rattle.std.proofs.Common.{◌≡◌, ℕ, ◌+◌, ◌≤◌, List, length, refl, sym, ◌∙◌, arith}
use lib.Seq.{take-length}
use Rattle.bursts.proofs.Turns.{part_length, part_kept, part_written, whole_front, length_from, room_from, taken_from, taken_length, no_room, none_taken}
use Rattle.bursts.proofs.fields.gather.Goals as goal

pub read-requires : goal.read-requires
read-requires c =
    let fits : c.loop-field.at + c.room.result ≤ length c.loop-field.payload = omega (arith, c.loop-field.invariant.0, room_from _ _ c.loop-field-test.true, c.room.ensures) in
    (c.split_at.ensures.front_len ∙ c.width.ensures, part_length c.loop-field.at c.room.result c.loop-field.payload fits ∙ c.room.ensures)

pub loop-field-preserved : goal.loop-field-preserved
loop-field-preserved c =
    let turn = c.loop-field in
    let fields = c.args.fields.now in
    let inside = c.loop-field-test.true in
    let p = c.room.result in
    let ys : List ℕ = c.read.new.payload in
    let fits : turn.at + p ≤ length turn.payload = omega (arith, turn.invariant.0, room_from _ _ inside, c.room.ensures) in
    let long : length ys ≡ p = taken_length _ _ ys c.read.ensures ∙ sym c.room.ensures in (
      omega (arith, part_kept turn.at p turn.payload ys fits long, turn.invariant.0, room_from _ _ inside, c.room.ensures),
      omega (arith, turn.invariant.1, length_from _ _ inside, c.width.ensures, c.split_at.ensures.back_len),
      part_written turn.at p turn.payload ys fits long _ _ _ turn.invariant.2
          (taken_from fields turn.field-index inside turn.left.now c.width.result c.width.ensures
          ∙ rw (← c.split_at.ensures.front, ← c.split_at.ensures.back, ← c.read.ensures) refl),
    )

pub returns : goal.returns
returns c =
    let turn = c.loop-field in
    let after = c.loop-field-test.false in
    sym (take-length turn.payload)
    ∙ whole_front _ turn.payload _ turn.at _ (none_taken _ _ after turn.left.now) (omega (arith, turn.invariant.0, no_room _ _ after)) turn.invariant.2
