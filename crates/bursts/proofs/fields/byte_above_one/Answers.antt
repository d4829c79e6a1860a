-- `fields::byte_above_one` meets its contract: what the fold has gathered is whether a byte so far is above 1. Assumes nothing.
use Rattle.std.proofs.Common.{◌≡◌, ℕ, zero, suc, Bool, false, ◌||◌, List, [], ◌∷◌, length, get_or, fold, ltb, sym, ap, ◌∙◌, rules, tests}
use Rattle.std.proofs.Math.Bool.{or_assoc}
use Rattle.std.proofs.lemmas.Iterator.{YieldsList-from_slice}
use Rattle.std.proofs.lemmas.Iterator.Consumers.{fold_from_yields_List}
use Rattle.answers.specs.Search.{any_below}
use Rattle.answers.proofs.Tests.{or_false}
use Rattle.layouts.specs.Bursts.{byte_above_one}
use Rattle.bursts.proofs.fields.byte_above_one.Goals as goal

any_first : (test : ℕ → Bool) (n : ℕ) → any_below test (suc n) ≡ (test 0 || any_below (λ k. test (suc k)) n)
unfolding any_below
any_first test zero = sym (or_false (test 0))
any_first test (suc n) = ap (λ (b : Bool). b || test (suc n)) (any_first test n) ∙ or_assoc (test 0) (any_below (λ k. test (suc k)) n) (test (suc n))

gathered : (above : Bool) (s : List ℕ) → fold (λ a x. a || ltb 1 x) above s ≡ (above || byte_above_one s)
unfolding byte_above_one any_below
gathered above [] = sym (or_false above)
gathered above (x ∷ s) =
    gathered (above || ltb 1 x) s ∙ or_assoc above (ltb 1 x) (byte_above_one s) ∙ ap (λ (b : Bool). above || b) (sym (any_first (λ k. ltb 1 (get_or (x ∷ s) k 0)) (length s)))

pub returns : goal.returns
returns c =
    fold_from_yields_List _ (λ a x. a || ltb 1 x) false _ c.fold.ensures.ran (YieldsList-from_slice c.args.s.now cc) (λ a x b q k. search (rules, tests))
    ∙ gathered false c.args.s.now
