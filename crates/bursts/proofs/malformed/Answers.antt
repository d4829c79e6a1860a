-- `malformed` meets its contract: its tests are the conditions of refusal 14, in order. Assumes nothing.
use Rattle.std.proofs.Common.{◌≡◌, ℕ, Bool, true, false, not, eqb, ◌∷◌, [], length, refl, sym, ap, ◌∙◌}
use borrow.Author.Tests.{eq-eqb, ne_eqb}
use Rattle.answers.specs.Outcome.{any_of}
use Rattle.answers.proofs.Decide.{holds}
use Rattle.answers.proofs.Tests.{or_false, not_both}
use Rattle.layouts.specs.Bursts.{malformed}
use Rattle.bursts.proofs.malformed.Goals as goal
use Rattle.bursts.proofs.malformed.Goals.{then-burst-SIZE, else-burst-SIZE}

last_of : (a b c : Bool) → a ≡ false → b ≡ false → any_of (a ∷ b ∷ c ∷ []) ≡ c
unfolding any_of
last_of false false c p q = or_false c
last_of true b c p q = not_both refl p
last_of false true c p q = not_both refl q

pub returns-then-payload-ROOM : goal.returns-then-payload-ROOM
returns-then-payload-ROOM g c =
    let law = g.met.L.Layout.sizes c.args.layout in
    let bs = (malformed (g.L.Layout.burst_row c.args.layout) c.args.burst.now c.args.payload.now c.args.read.now).conditions in
    let some_holds : any_of bs ≡ true = elim c.if-burst-SIZE.branch [
      | then-burst-SIZE w ↦ holds 0 bs (ap not (ne_eqb _ _ (λ e. w.if-burst-SIZE.true (e ∙ law.bits ∙ sym c.SIZE.ensures))))
      | else-burst-SIZE w ↦ holds 1 bs (ap (λ (n : ℕ). not (eqb (length c.args.payload.now) n)) (law.payload_bits ∙ sym w.ROOM.ensures) ∙ sym w.value-is ∙ c.if-payload-ROOM.true)
    ] in
    c.if-payload-ROOM.true ∙ sym some_holds

pub returns-else-payload-ROOM : goal.returns-else-payload-ROOM
returns-else-payload-ROOM g c =
    let law = g.met.L.Layout.sizes c.args.layout in
    let bs = (malformed (g.L.Layout.burst_row c.args.layout) c.args.burst.now c.args.payload.now c.args.read.now).conditions in
    elim c.if-burst-SIZE.branch [
      | then-burst-SIZE w ↦ not_both (w.value-is ∙ ap not (ne_eqb _ _ w.if-burst-SIZE.true)) c.if-payload-ROOM.false
      | else-burst-SIZE w ↦
          c.byte_above_one.ensures
          ∙ sym (last_of _ _ _ (ap not (eq-eqb _ _ (w.if-burst-SIZE.false ∙ c.SIZE.ensures ∙ sym law.bits)))
          (ap (λ (n : ℕ). not (eqb (length c.args.payload.now) n)) (law.payload_bits ∙ sym w.ROOM.ensures) ∙ sym w.value-is ∙ c.if-payload-ROOM.false))
    ]
