use Rattle.std.proofs.Common.{◌≡◌, ◌-◌, take, length}
use Rattle.wording.specs.Numbers.{numbers_in}
use Rattle.text.proofs.Taken.{taken_after}
use Rattle.text.proofs.numbers.numbers.Given as goal

abbrev pub invariant-loop-i : goal.invariant-loop-i
invariant-loop-i g l =
    let count = g.W.Wanted.count l.fn.wanted in
    let told = g.W.Wanted.told l.values in
    (length told ≡ count) × (taken_after (take l.i told) (count - l.i) l.rest ≡ numbers_in count l.fn.line)
