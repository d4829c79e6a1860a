-- What tdma_hop, tdma_line and tdma_who carry of the hop is placed, from their promises alone. Assumes nothing.
use Prim.Native.Nat.{ℕ}
use native.Mathlib.Omega.{arith}
use mathlib.Core.Path.{◌≡◌, refl, sym, ap, ◌∙◌, subst}
use mathlib.Core.List.{List}
use mathlib.Core.Option.{Option, none, some}
use Rattle.answers.specs.Outcome.{Outcome, refused, accepted, ascending_from}
use Rattle.hops.specs.Hopping.{line_tuning, hop_causes, hop_of}
use Rattle.hops.specs.Placed.{Placed, HopsArePlaced}
use Rattle.hops.specs.declared.Tuning.{Tuning}
use Rattle.hops.proofs.Claims.{fair_calls}
use Rattle.hops.proofs.Placed.{hops_are_placed}
use Rattle.storage.specs.Words.{cell_of}
use Rattle.rules.specs.State.{line_at, allocation}
use Rattle.rules.specs.Who.{Match, who_of}
use Rattle.rules.specs.Reached.{Routed, BurstsAreRouted}
use Rattle.rules.proofs.Routed.{bursts_are_routed}
use Rattle.c_answers.specs.declared.TdmaHop.{TdmaHop}
use Rattle.c_answers.specs.declared.TdmaLine.{TdmaLine}
use Rattle.c_answers.specs.declared.TdmaWho.{TdmaWho}
use Rattle.c_answers.specs.Numbers.{hop_numbers}
use Rattle.tdma.specs.Cells.{who_numbers}
use Rattle.tdma.specs.OfC.{tuning_of_hop, tuning_of_line, HopOfC, AnswersLine, AnswersWho, BurstsAreRoutedOfC}
use Rattle.tdma.proofs.Numbers.{number_above}
use Rattle.tdma.proofs.WhoOfC.{line_answer}

pub hop_of_c : HopOfC
unfolding HopOfC HopsArePlaced ascending_from
hop_of_c ca m hsn maio fn a e h = go (hop_of ca m hsn maio fn) refl e
  where
    go : (o : Outcome Tuning) → hop_of ca m hsn maio fn ≡ o → a ≡ hop_numbers o → Placed ca m (tuning_of_hop a)
    go (refused r) q z =
        let above = number_above (line_tuning ca m hsn maio fn) (hop_causes ca m hsn maio fn) (hop_of ca m hsn maio fn) refl (fair_calls.of_hop ca m hsn maio fn) r q in
        let told : a.refusal ≡ r.number = ap (λ (x : TdmaHop). x.refusal) z in
        absurd (omega (arith, above, told, h))
    go (accepted t) q z = subst (λ (x : TdmaHop). Placed ca m (tuning_of_hop x)) (sym z) (hops_are_placed ca m hsn maio fn t q)

module _ (words : List ℕ) (routed : Routed (cell_of words)) where
  line_routed : (n fn direction : ℕ) (l : TdmaLine) → AnswersLine words n fn direction l → l.refusal ≡ 0
      → Placed (allocation (cell_of words)) (line_at (cell_of words) n).mask (tuning_of_line l)
  line_routed n fn direction l e h =
      let a = line_answer (cell_of words) n fn direction l e h in
      subst (λ (x : TdmaLine). Placed (allocation (cell_of words)) (line_at (cell_of words) n).mask (tuning_of_line x)) (sym a.numbers)
      (routed.line n fn direction a.slot a.accepted_is)

  who_routed : (tn arfcn fn direction : ℕ) (w : TdmaWho) → AnswersWho words tn arfcn fn direction w → w.refusal ≡ 0 → w.found ≡ 1
      → Placed (allocation (cell_of words)) (line_at (cell_of words) w.line).mask (tuning_of_line w.answer)
  who_routed tn arfcn fn direction w e h f = go (who_of (cell_of words) tn arfcn fn direction) refl e
    where
      OfWho : TdmaWho → Type 0
      OfWho x = Placed (allocation (cell_of words)) (line_at (cell_of words) x.line).mask (tuning_of_line x.answer)

      go : (o : Outcome (Option Match)) → who_of (cell_of words) tn arfcn fn direction ≡ o → w ≡ who_numbers o → OfWho w
      go (refused r) q z = let y : w.found ≡ 0 = ap (λ (x : TdmaWho). x.found) z in absurd (omega arith)
      go (accepted none) q z = let y : w.found ≡ 0 = ap (λ (x : TdmaWho). x.found) z in absurd (omega arith)
      go (accepted (some m)) q z = subst OfWho (sym z) (routed.who tn arfcn fn direction m q)

  one_line : (m n fn d e : ℕ) (k l : TdmaLine) → AnswersLine words m fn d k → k.refusal ≡ 0 → AnswersLine words n fn e l → l.refusal ≡ 0
      → (line_at (cell_of words) m).tn ≡ (line_at (cell_of words) n).tn → k.position ≡ l.position → m ≡ n
  one_line m n fn d e k l p hk q hl tn same =
      let a = line_answer (cell_of words) m fn d k p hk in
      let b = line_answer (cell_of words) n fn e l q hl in
      routed.one_line m n fn d e a.slot b.slot a.accepted_is b.accepted_is tn
      (sym (ap (λ (x : TdmaLine). x.position) a.numbers) ∙ (same ∙ ap (λ (x : TdmaLine). x.position) b.numbers))

pub bursts_are_routed_of_c : BurstsAreRoutedOfC
unfolding BurstsAreRoutedOfC BurstsAreRouted
bursts_are_routed_of_c words reached =
    let routed = bursts_are_routed (cell_of words) reached in
    record { line = line_routed words routed; who = who_routed words routed; one_line = one_line words routed }
