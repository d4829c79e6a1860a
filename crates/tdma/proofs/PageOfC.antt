-- tdma_page and tdma_line agree, from their promises alone, over the words of every cell that the calls can hand back. Assumes nothing.
use Prim.Native.Nat.{ℕ}
use native.Mathlib.Omega.{arith}
use mathlib.Core.Path.{◌≡◌, refl, sym, ap, ◌∙◌, subst}
use mathlib.Core.List.{List, [], ◌∷◌}
use Rattle.answers.specs.Outcome.{Outcome, refused, accepted, ascending_from}
use Rattle.maps.specs.declared.Kind.TheVariants.{Ccch}
use Rattle.maps.specs.Channels.{Standing, at}
use Rattle.maps.specs.Numbers.{standing_numbers}
use Rattle.groups.specs.declared.PagingBlock.{PagingBlock}
use Rattle.groups.specs.Paging.{paging_causes}
use Rattle.groups.proofs.Causes.{page_fair}
use Rattle.storage.specs.Words.{cell_of}
use Rattle.rules.specs.OnAir.{Slot}
use Rattle.rules.specs.Paging.{common_of, page_of}
use Rattle.rules.specs.Reached.{PagedOn, PageAndLine}
use Rattle.rules.proofs.PageAndLine.{page_and_line}
use Rattle.c_answers.specs.declared.TdmaLine.{TdmaLine}
use Rattle.c_answers.specs.declared.TdmaPage.{TdmaPage}
use Rattle.tdma.specs.Cells.{line_fields, line_numbers, page_numbers}
use Rattle.tdma.specs.OfC.{PageOfC, PageAndLineOfC}
use Rattle.tdma.proofs.Numbers.{number_above}

-- a slot with that burst alone, in numbers
burst_numbers : (s : Slot) (b : PagingBlock) (l : TdmaLine) → s.standing ≡ at Ccch 0 b.block 0 ∷ [] → l ≡ line_numbers (accepted s)
    → (l.refusal ≡ 0) × (l.channel ≡ 7) × (l.blocks ≡ 1) × (l.block ≡ b.block) × (l.place ≡ 0)
unfolding standing_numbers
burst_numbers s b l e q =
    let z = q ∙ ap (λ (xs : List Standing). line_fields s.tuning s.owner (standing_numbers xs)) e in (
      ap (λ (x : TdmaLine). x.refusal) z,
      ap (λ (x : TdmaLine). x.channel) z,
      ap (λ (x : TdmaLine). x.blocks) z,
      ap (λ (x : TdmaLine). x.block) z,
      ap (λ (x : TdmaLine). x.place) z,
    )

module _ (words digits : List ℕ) (fn : ℕ) where
  of_block : (b : PagingBlock) → PagedOn (cell_of words) digits fn b → PageOfC words digits fn (page_numbers (accepted b))
  of_block b w = record { paged_on = w; shown = λ l q. burst_numbers w.slot b l w.burst (q ∙ ap line_numbers w.answer) }

pub page_and_line_of_c : PageAndLineOfC
unfolding PageAndLineOfC PageAndLine page_of ascending_from
page_and_line_of_c words reached digits fn p e h = go (page_of (cell_of words) digits fn) refl e
  where
    go : (o : Outcome PagingBlock) → page_of (cell_of words) digits fn ≡ o → p ≡ page_numbers o → PageOfC words digits fn p
    go (refused r) q z =
        let a = number_above _ (paging_causes (common_of (cell_of words)) digits fn) _ refl (page_fair (common_of (cell_of words)) digits fn) r q in
        let b : p.refusal ≡ r.number = ap (λ (x : TdmaPage). x.refusal) z in
        absurd (omega (arith, a, b, h))
    go (accepted b) q z = subst (PageOfC words digits fn) (sym z) (of_block words digits fn b (page_and_line (cell_of words) reached digits fn b q))
