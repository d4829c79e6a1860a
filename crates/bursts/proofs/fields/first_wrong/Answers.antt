-- `fields::first_wrong` meets its contract: before a field no fixed bit differs, and the rest of the burst is compared with the fields from
-- there on. Assumes nothing.
use Rattle.std.proofs.Common.{ℕ, ◌+◌, ◌<◌, sym, ap, ◌∙◌, arith}
use Rattle.layouts.specs.Rows.{differs}
use Rattle.bursts.specs.Helpers.{field_row, fields_row}
use Rattle.bursts.proofs.FieldRows.{length_field}
use Rattle.bursts.proofs.Turns.{field_at, row_from, length_from, no_length, differs_here, differs_rest, none_more}
use Rattle.bursts.proofs.fields.first_wrong.Goals as goal

pub loop-field-init : goal.loop-field-init
loop-field-init c =
    (c.requires, omega arith, λ k h. absurd (omega arith), λ k. ap (λ (i : ℕ). differs (fields_row c.args.fields.now) c.args.burst.now i) (omega arith))

pub first_wrong-requires : goal.first_wrong-requires
first_wrong-requires c = c.split_at.ensures.front_len ∙ c.width-width.ensures

pub overflow_add-result : goal.overflow_add-result
overflow_add-result c =
    let fields = c.args.fields.now in
    let inside = c.loop-field-test.true in
    omega (arith, c.in-Some.ensures.0, c.width-width.ensures, c.loop-field.invariant.0, c.loop-field.invariant.1, length_from _ _ inside, length_field (field_at fields c.loop-field.field-index))

pub loop-field-preserved : goal.loop-field-preserved
loop-field-preserved c =
    let turn = c.loop-field in
    let fields = c.args.fields.now in
    let burst = c.args.burst.now in
    let w = c.width-width.result in
    let wide = c.width-width.ensures in
    let row = fields_row fields in
    let inside = c.loop-field-test.true in (
      omega (arith, turn.invariant.0, length_from _ _ inside, wide, c.split_at.ensures.back_len),
      omega (arith, turn.invariant.1, c.split_at.ensures.back_len),
      none_more row burst turn.at w turn.invariant.2 (λ k h.
          turn.invariant.3 k ∙ differs_here fields turn.field-index inside turn.left.now w wide k h
          ∙ ap (λ s. differs (field_row (field_at fields turn.field-index)) s k) (sym c.split_at.ensures.front)
          ∙ c.in_default.ensures k (omega (arith, h, wide, length_field (field_at fields turn.field-index)))),
      λ k.
          ap (λ (i : ℕ). differs row burst i) (omega arith) ∙ turn.invariant.3 (w + k) ∙ differs_rest fields turn.field-index inside turn.left.now w wide k
          ∙ ap (λ s. differs (row_from (turn.field-index + 1) fields) s k) (sym c.split_at.ensures.back),
    )

pub returns-in-Some : goal.returns-in-Some
returns-in-Some c =
    let turn = c.loop-field in
    let fields = c.args.fields.now in
    let w = c.width-width.result in
    let wide = c.width-width.ensures in
    let inside = c.loop-field-test.true in
    let found = c.in-Some.ensures in
    let narrow : c.in-Some.k < w = omega (arith, found.0, wide, length_field (field_at fields turn.field-index)) in
    let here = λ (k : ℕ) (h : k < w).
    turn.invariant.3 k ∙ differs_here fields turn.field-index inside turn.left.now w wide k h ∙ ap (λ s. differs (field_row (field_at fields turn.field-index)) s k) (sym c.split_at.ensures.front) in (
      omega (arith, narrow, turn.invariant.0, turn.invariant.1, c.requires, length_from _ _ inside, wide),
      here c.in-Some.k narrow ∙ found.1,
      none_more (fields_row fields) c.args.burst.now turn.at c.in-Some.k turn.invariant.2 (λ k h. here k (omega arith) ∙ found.2 k h),
    )

pub returns : goal.returns
returns c k h =
    c.loop-field.invariant.2 k (omega (arith, h, c.loop-field.invariant.0, c.loop-field.invariant.1, c.requires, no_length _ _ c.loop-field-test.false))
