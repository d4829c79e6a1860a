-- `build` meets its contract: malformed or not, and then the burst is `filled`'s. Assumes nothing.
use Rattle.std.proofs.Common.{◌≡◌, ℕ, ◌≤◌, List, length, take, sym, ap, ◌∙◌, subst}
use Rattle.layouts.specs.Rows.{Row, room, built}
use Rattle.layouts.specs.Claims.{done}
use Rattle.layouts.proofs.Undo.{length_built}
use Rattle.bursts.proofs.Calls.{fitting, build_refuses, build_accepts}
use Rattle.bursts.proofs.build.Goals as goal

pub returns-then-malformed : goal.returns-then-malformed
returns-then-malformed g c = build_refuses _ _ _ (sym c.if-malformed.ensures)

pub filled-bits-requires : goal.filled-bits-requires
filled-bits-requires g c =
    let law = g.met.L.Layout.sizes c.args.layout in
    let same = c.fields.ensures in
    (subst (λ (n : ℕ). n ≤ 148) (sym (ap (λ (r : Row). length r) same ∙ law.bits)) g.met.L.Layout.fits, ap room same ∙ sym (fitting _ _ _ _ (sym c.if-malformed.ensures)).1)

-- the front of what `filled` made is the burst
front : (row fields : Row) (payload bits : List ℕ) (size : ℕ) → fields ≡ row → size ≡ length row → take (length fields) bits ≡ built fields payload → take size bits ≡ built row payload
front row fields payload bits size e h q = ap (λ (n : ℕ). take n bits) (h ∙ ap (λ (r : Row). length r) (sym e)) ∙ q ∙ ap (λ (r : Row). built r payload) e

pub copy_from_slice-requires : goal.copy_from_slice-requires
copy_from_slice-requires g c =
    let law = g.met.L.Layout.sizes c.args.layout in
    let whole = front _ _ _ _ _ c.fields.ensures (c.SIZE.ensures ∙ sym law.bits) c.filled-bits.ensures in
    (fitting _ _ _ _ (sym c.if-malformed.ensures)).0 ∙ sym (ap (λ (l : List ℕ). length l) whole ∙ length_built _ _)

pub returns : goal.returns
returns g c =
    let law = g.met.L.Layout.sizes c.args.layout in
    ap done (c.copy_from_slice.ensures.after ∙ front _ _ _ _ _ c.fields.ensures (c.SIZE.ensures ∙ sym law.bits) c.filled-bits.ensures) ∙ build_accepts _ _ _ (sym c.if-malformed.ensures)
