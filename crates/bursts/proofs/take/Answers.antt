-- `take` meets its contract: malformed, a fixed bit that differs, or the payload that `gather` reads. Assumes nothing.
use Rattle.std.proofs.Common.{length, sym, ap, ◌∙◌, subst, arith}
use Rattle.std.specs.Prelude.{Some, None}
use Rattle.layouts.specs.Rows.{Row, room, taken}
use Rattle.layouts.specs.Claims.{done}
use Rattle.bursts.specs.Helpers.{FirstWrong}
use Rattle.bursts.proofs.Calls.{fitting, take_refuses, take_tells, take_accepts}
use Rattle.bursts.proofs.take.Goals as goal

pub returns-then-malformed : goal.returns-then-malformed
returns-then-malformed g c = take_refuses _ _ _ (sym c.if-malformed.ensures)

pub first_wrong-requires : goal.first_wrong-requires
first_wrong-requires g c = (fitting _ _ _ _ (sym c.if-malformed.ensures)).0 ∙ ap (λ (r : Row). length r) (sym c.fields-fields.ensures)

pub overflow_cast-result : goal.overflow_cast-result
overflow_cast-result g c =
    let long = (g.met.L.Layout.sizes c.args.layout).bits in
    omega (arith, c.in-Some.ensures.0, ap (λ (r : Row). length r) c.fields-fields.ensures, long, g.met.L.Layout.fits)

pub returns-in-Some : goal.returns-in-Some
returns-in-Some g c =
    take_tells _ _ _ (sym c.if-malformed.ensures) c.in-Some.bit (subst (λ (r : Row). FirstWrong r c.args.burst.now (Some c.in-Some.bit)) c.fields-fields.ensures c.in-Some.ensures)

pub gather-requires : goal.gather-requires
gather-requires g c =
    let fit = fitting _ _ _ _ (sym c.if-malformed.ensures) in
    (fit.0 ∙ ap (λ (r : Row). length r) (sym c.fields-fields.ensures), fit.1 ∙ ap room (sym c.fields-fields.ensures))

pub returns : goal.returns
returns g c =
    ap done (c.gather.ensures ∙ ap (λ (r : Row). taken r c.args.burst.now) c.fields-fields.ensures)
    ∙ take_accepts _ _ _ (sym c.if-malformed.ensures) (subst (λ (r : Row). FirstWrong r c.args.burst.now None) c.fields-fields.ensures c.in_default.ensures)
