use Rattle.std.proofs.Common.{◌≡◌, ℕ, drop, refl, sym, ap, ◌∙◌, arith}
use borrow.Author.Tests.{tests}
use mathlib.Core.Logic.{◌≢◌}
use Rattle.std.proofs.lemmas.Iterator.{IsFirst-from_position, YieldsList-from_slice, index_from_first}
use Rattle.text.proofs.Scan.{count_run, count_cons, count_stop, drop_run}
use Rattle.text.proofs.words.trim_start.Goals as goal

pub returns : goal.returns
unfolding count_run
returns c =
    let b = c.args.byte in
    let text = c.args.text.now in
    let first = IsFirst-from_position _ _ _ (λ x. x ≢ b) (λ x. x ≡ b) c.position.ensures.ran (YieldsList-from_slice text c.iter.ensures.rest) (λ x q k. grind (arith, tests)) (λ x q k. grind (arith, tests)) in
    let at = index_from_first (count_run b) (λ x. x ≢ b) (λ x. x ≡ b) refl (λ x xs e. count_stop b x xs e) (λ x xs e. count_cons b x xs e ∙ omega arith) text c.position.result first in
    c.split_at.ensures.back ∙ ap (λ (n : ℕ). drop n text) (c.unwrap_or.ensures ∙ sym at) ∙ drop_run b text
