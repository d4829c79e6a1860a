-- tdma_who and tdma_line agree, from their promises alone, over the words of every cell that the calls can hand back. Assumes nothing.
use Prim.Native.Nat.{ℕ}
use native.Mathlib.Omega.{arith}
use mathlib.Core.Path.{◌≡◌, refl, sym, ap, ◌∙◌}
use mathlib.Core.List.{List, [], ◌∷◌}
use mathlib.Core.Option.{Option, none, some}
use Rattle.answers.specs.Outcome.{Outcome, refused, accepted, ascending_from}
use Rattle.maps.specs.Channels.{Standing}
use Rattle.maps.specs.Numbers.{standing_numbers}
use Rattle.storage.specs.Words.{cell_of}
use Rattle.rules.specs.State.{Cell, line_at}
use Rattle.rules.specs.OnAir.{Slot, line_causes, line_of}
use Rattle.rules.specs.Who.{Match, who_causes, who_of}
use Rattle.rules.specs.Reached.{WhoAgrees, WhoAndLine}
use Rattle.rules.proofs.Causes.{line_fair, who_fair}
use Rattle.rules.proofs.WhoAndLine.{who_and_line}
use Rattle.c_answers.specs.declared.TdmaLine.{TdmaLine}
use Rattle.c_answers.specs.declared.TdmaWho.{TdmaWho}
use Rattle.tdma.specs.Cells.{line_numbers, who_numbers}
use Rattle.tdma.specs.OfC.{AnswersLine, AnswersWho, NoneOnAir, WhoAndLineOfC}
use Rattle.tdma.proofs.Numbers.{number_above}

-- an accepted answer has the refusal 0
pub standing_accepted : (xs : List Standing) → (standing_numbers xs).refusal ≡ 0
unfolding standing_numbers
standing_accepted [] = refl
standing_accepted (x ∷ []) = refl
standing_accepted (x ∷ y ∷ more) = refl

-- an answer of tdma_line that is told as accepted is one
pub record LineAnswer (c : Cell) (n fn direction : ℕ) (l : TdmaLine) : Type 0 where
  pub slot : Slot
  pub accepted_is : line_of c n fn direction ≡ accepted slot
  pub numbers : l ≡ line_numbers (accepted slot)

pub line_answer : (c : Cell) (n fn direction : ℕ) (l : TdmaLine) → l ≡ line_numbers (line_of c n fn direction) → l.refusal ≡ 0 → LineAnswer c n fn direction l
unfolding ascending_from
line_answer c n fn direction l e h = go (line_of c n fn direction) refl e
  where
    go : (o : Outcome Slot) → line_of c n fn direction ≡ o → l ≡ line_numbers o → LineAnswer c n fn direction l
    go (refused r) q z =
        let a = number_above _ (line_causes c n fn direction) _ refl (line_fair c n fn direction) r q in
        let b : l.refusal ≡ r.number = ap (λ (x : TdmaLine). x.refusal) z in
        absurd (omega (arith, a, b, h))
    go (accepted s) q z = record { slot = s; accepted_is = q; numbers = z }

module _ (words : List ℕ) (agrees : WhoAgrees (cell_of words)) where
  shown : (tn arfcn fn direction : ℕ) (w : TdmaWho) (l : TdmaLine) → AnswersWho words tn arfcn fn direction w → w.refusal ≡ 0 → w.found ≡ 1
      → AnswersLine words w.line fn direction l → (l.refusal ≡ 0) × (l ≡ w.answer) × (l.arfcn ≡ arfcn) × ((line_at (cell_of words) w.line).tn ≡ tn)
  shown tn arfcn fn direction w l e h f q = go (who_of (cell_of words) tn arfcn fn direction) refl e
    where
      Told : Type 0
      Told = (l.refusal ≡ 0) × (l ≡ w.answer) × (l.arfcn ≡ arfcn) × ((line_at (cell_of words) w.line).tn ≡ tn)

      go : (o : Outcome (Option Match)) → who_of (cell_of words) tn arfcn fn direction ≡ o → w ≡ who_numbers o → Told
      go (refused r) s z = let y : w.found ≡ 0 = ap (λ (x : TdmaWho). x.found) z in absurd (omega arith)
      go (accepted none) s z = let y : w.found ≡ 0 = ap (λ (x : TdmaWho). x.found) z in absurd (omega arith)
      go (accepted (some m)) s z =
          let g = agrees.shown tn arfcn fn direction m s in
          let line : w.line ≡ m.line = ap (λ (x : TdmaWho). x.line) z in
          let same : l ≡ line_numbers (accepted m.slot) = q ∙ ap (λ (k : ℕ). line_numbers (line_of (cell_of words) k fn direction)) line ∙ ap line_numbers g.0 in (
            ap (λ (x : TdmaLine). x.refusal) same ∙ standing_accepted m.slot.standing,
            same ∙ sym (ap (λ (x : TdmaWho). x.answer) z),
            ap (λ (x : TdmaLine). x.arfcn) same ∙ g.2,
            ap (λ (k : ℕ). (line_at (cell_of words) k).tn) line ∙ g.1,
          )

  named : (n fn direction : ℕ) (l : TdmaLine) (w : TdmaWho) → AnswersLine words n fn direction l → l.refusal ≡ 0
      → AnswersWho words (line_at (cell_of words) n).tn l.arfcn fn direction w → w ≡ record { refusal = 0; found = 1; line = n; answer = l }
  named n fn direction l w e h q =
      let a = line_answer (cell_of words) n fn direction l e h in
      let arfcn : l.arfcn ≡ a.slot.tuning.arfcn = ap (λ (x : TdmaLine). x.arfcn) a.numbers in
      let there = ap (λ (x : ℕ). who_of (cell_of words) (line_at (cell_of words) n).tn x fn direction) arfcn ∙ agrees.named n fn direction a.slot a.accepted_is in
      q ∙ ap who_numbers there ∙ ap (λ (x : TdmaLine). record { refusal = 0; found = 1; line = n; answer = x }) (sym a.numbers)

  nobody : (tn arfcn fn direction : ℕ) (w : TdmaWho) → AnswersWho words tn arfcn fn direction w → w.refusal ≡ 0 → w.found ≡ 0
      → (n : ℕ) (l : TdmaLine) → AnswersLine words n fn direction l → l.refusal ≡ 0 → (line_at (cell_of words) n).tn ≡ tn → l.arfcn ≡ arfcn → ⊥
  unfolding ascending_from
  nobody tn arfcn fn direction w e h f n l q k t u = go (who_of (cell_of words) tn arfcn fn direction) refl e
    where
      go : (o : Outcome (Option Match)) → who_of (cell_of words) tn arfcn fn direction ≡ o → w ≡ who_numbers o → ⊥
      go (refused r) s z =
          let a = number_above _ (who_causes tn arfcn fn direction) _ refl (who_fair (cell_of words) tn arfcn fn direction) r s in
          let b : w.refusal ≡ r.number = ap (λ (x : TdmaWho). x.refusal) z in
          absurd (omega (arith, a, b, h))
      go (accepted none) s z =
          let a = line_answer (cell_of words) n fn direction l q k in
          agrees.nobody tn arfcn fn direction s n a.slot a.accepted_is t (sym (ap (λ (x : TdmaLine). x.arfcn) a.numbers) ∙ u)
      go (accepted (some m)) s z = let y : w.found ≡ 1 = ap (λ (x : TdmaWho). x.found) z in absurd (omega arith)

  only_nobody : (tn arfcn fn direction : ℕ) (w : TdmaWho) → AnswersWho words tn arfcn fn direction w → NoneOnAir words tn arfcn fn direction → w.found ≡ 0
  only_nobody tn arfcn fn direction w e none_shown = go (who_of (cell_of words) tn arfcn fn direction) refl e
    where
      go : (o : Outcome (Option Match)) → who_of (cell_of words) tn arfcn fn direction ≡ o → w ≡ who_numbers o → w.found ≡ 0
      go (refused r) s z = ap (λ (x : TdmaWho). x.found) z
      go (accepted none) s z = ap (λ (x : TdmaWho). x.found) z
      go (accepted (some m)) s z =
          let g = agrees.shown tn arfcn fn direction m s in
          let l = ap line_numbers g.0 in
          absurd (none_shown m.line (line_numbers (accepted m.slot)) (sym l) (standing_accepted m.slot.standing) g.1 g.2)

pub who_and_line_of_c : WhoAndLineOfC
unfolding WhoAndLineOfC WhoAndLine
who_and_line_of_c words reached =
    let agrees = who_and_line (cell_of words) reached in
    record { shown = shown words agrees; named = named words agrees; nobody = nobody words agrees; only_nobody = only_nobody words agrees }
