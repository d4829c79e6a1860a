use Rattle.std.proofs.Common.{◌≡◌, ℕ, List, length, take, drop, refl, sym, ap, ◌∙◌, arith}
use borrow.Author.Tests.{tests}
use mathlib.Core.Logic.{◌≢◌}
use Rattle.std.proofs.lemmas.Iterator.{IsFirst-from_position, YieldsList-from_slice, index_from_first}
use Rattle.wording.specs.Words.{until, from}
use Rattle.text.proofs.Scan.{until_cons, until_stop, until_split}
use Rattle.text.proofs.words.split_before.Goals as goal

pub returns : goal.returns
unfolding until
returns c =
    let b = c.args.byte in
    let text = c.args.text.now in
    let first = IsFirst-from_position _ _ _ (λ x. x ≡ b) (λ x. x ≢ b) c.position.ensures.ran (YieldsList-from_slice text c.iter.ensures.rest) (λ x q k. grind (arith, tests)) (λ x q k. grind (arith, tests)) in
    let at = index_from_first (λ (s : List ℕ). length (until b s)) (λ x. x ≡ b) (λ x. x ≢ b) refl (λ x xs e. ap length (until_stop b x xs e)) (λ x xs e. ap length (until_cons b x xs e) ∙ omega arith) text c.position.result first in
    let index = c.unwrap_or.ensures ∙ sym at in
    let front : c.split_at.result.0.now ≡ until b text = c.split_at.ensures.front ∙ ap (λ (n : ℕ). take n text) index ∙ (until_split b text).0 in
    let back : c.split_at.result.1.now ≡ from b text = c.split_at.ensures.back ∙ ap (λ (n : ℕ). drop n text) index ∙ (until_split b text).1 in
    cc
