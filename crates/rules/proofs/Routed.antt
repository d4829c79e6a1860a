-- What `line` and `who` carry of the hop is that of the line's mask and of CA: specs/Reached.antt, BurstsAreRouted. Assumes nothing.
use Prim.Native.Nat.{ℕ}
use mathlib.Core.Path.{◌≡◌, sym, ap, ◌∙◌, subst}
use mathlib.Core.Bool.{true, false}
use mathlib.Core.List.{List}
use lib.ListN.{get_or}
use Rattle.answers.specs.Outcome.{accepted}
use Rattle.hops.specs.declared.Tuning.{Tuning}
use Rattle.hops.specs.Masks.{one_at_or_above}
use Rattle.hops.specs.Placed.{Placed}
use Rattle.hops.proofs.Placed.{line_placed}
use Rattle.rules.specs.State.{Cell, line_at, allocation}
use Rattle.rules.specs.OnAir.{Slot, tuning_in, slot_of, line_of}
use Rattle.rules.specs.Who.{line_is_on}
use Rattle.rules.specs.History.{Made, cell_from}
use Rattle.rules.specs.Reached.{Routed, BurstsAreRouted}
use Rattle.rules.proofs.Begun.{Begun}
use Rattle.rules.proofs.Known.{known}
use Rattle.rules.proofs.Sound.{Sound, allowed_within, allowed_maio}
use Rattle.rules.proofs.WhoAndLine.{LineShown, line_shown, who_shown, OnLine, on_line, one_line, is_on}

-- two positions that are one have one entry
one_entry : (ca : List ℕ) (a b : ℕ) (t u : Tuning) → Placed ca a t → Placed ca b u → t.position ≡ u.position → t.arfcn ≡ u.arfcn
one_entry ca a b t u p q e = sym p.entry ∙ (ap (λ (k : ℕ). get_or ca k 0) e ∙ q.entry)

module _ (first : Cell) (begun : Begun first) (past : List Made) (sound : Sound first past) where
  abbrev cell : Cell
  cell = cell_from first past

  -- what an open line is tuned to
  open_routed : (n fn : ℕ) → OnLine first begun past sound n fn → Placed (allocation cell) (line_at cell n).mask (tuning_in cell (line_at cell n) fn)
  unfolding cell_from
  open_routed n fn w =
      let v = w.values in
      let a = sound.allowed n v w.is_open in
      let within = subst (λ (k : ℕ). one_at_or_above v.mask k ≡ false) (sym begun.known_length) (allowed_within first n v a) in
      let p = line_placed (allocation first) v.mask v.hsn v.maio fn begun.allocated within (allowed_maio first n v a) in
      subst (λ (m : ℕ). Placed (allocation first) m (tuning_in (cell_from first past) (line_at (cell_from first past) n) fn)) (sym w.of_mask)
      (subst (Placed (allocation first) v.mask) (sym w.tuning) p)

  line_routed : (n fn direction : ℕ) (s : Slot) → line_of cell n fn direction ≡ accepted s → Placed (allocation cell) (line_at cell n).mask s.tuning
  unfolding slot_of
  line_routed n fn direction s e =
      let l = line_shown cell fn direction n s e in
      subst (λ (x : Slot). Placed (allocation cell) (line_at cell n).mask x.tuning) l.slot
      (open_routed n fn (on_line first begun past sound n fn l.within l.frame l.is_open))

  one_position : (m n fn d e : ℕ) (s t : Slot) → line_of cell m fn d ≡ accepted s → line_of cell n fn e ≡ accepted t → (line_at cell m).tn ≡ (line_at cell n).tn
      → s.tuning.position ≡ t.tuning.position → m ≡ n
  unfolding slot_of
  one_position m n fn d e s t hs ht tn q =
      one_line first begun past sound (line_at cell m).tn (tuning_in cell (line_at cell m) fn).arfcn fn m n l.frame l.within k.within
      (is_on first begun past sound m fn l.is_open)
      (subst (λ (x : ℕ). line_is_on cell x (tuning_in cell (line_at cell m) fn).arfcn fn n ≡ true) (sym tn)
      (subst (λ (x : ℕ). line_is_on cell (line_at cell n).tn x fn n ≡ true) (sym arfcn) (is_on first begun past sound n fn k.is_open)))
    where
      l : LineShown cell fn d m s
      l = line_shown cell fn d m s hs

      k : LineShown cell fn e n t
      k = line_shown cell fn e n t ht

      arfcn : (tuning_in cell (line_at cell m) fn).arfcn ≡ (tuning_in cell (line_at cell n) fn).arfcn
      arfcn =
          ap (λ (x : Slot). x.tuning.arfcn) l.slot
          ∙ (one_entry (allocation cell) (line_at cell m).mask (line_at cell n).mask s.tuning t.tuning (line_routed m fn d s hs) (line_routed n fn e t ht) q
          ∙ sym (ap (λ (x : Slot). x.tuning.arfcn) k.slot))

  routed : Routed cell
  routed =
      record {
        line = line_routed;
        who = λ tn arfcn fn direction f e. line_routed f.line fn direction f.slot (who_shown cell tn arfcn fn direction f e).0;
        one_line = one_position;
      }

pub bursts_are_routed : BurstsAreRouted
unfolding BurstsAreRouted
bursts_are_routed c w =
    let k = known c w in
    subst Routed (sym k.as_listed) (routed k.first k.begun k.past k.sound)
