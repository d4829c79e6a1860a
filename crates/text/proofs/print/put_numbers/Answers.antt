use Rattle.std.proofs.Common.{ℕ, [], ◌∷◌, ◌++◌, take, ap, ◌∙◌}
use Rattle.wording.specs.Print.{decimal_of, spaced}
use Rattle.text.proofs.Append.{spaced_more}
use Rattle.text.proofs.Puts.{put_nothing, put_both, put_as}
use Rattle.text.proofs.print.put_numbers.Goals as goal

pub loop-n-init : goal.loop-n-init
unfolding spaced
loop-n-init g c = put_nothing _

pub loop-n-preserved : goal.loop-n-preserved
loop-n-preserved g c =
    let before = spaced (take c.loop-n.n-index c.args.list.now) in
    let more = ap (λ (n : ℕ). before ++ ((32 ∷ []) ++ decimal_of n)) c.from.ensures ∙ spaced_more c.args.list.now c.loop-n.n-index c.loop-n-test.true in
    put_as _ _ more (put_both _ _ _ _ _ c.loop-n.invariant (put_both _ _ _ _ _ c.put_byte.ensures c.put_number.ensures))
