use Rattle.std.proofs.Common.{◌≡◌, ◌^◌, ◌<◌, drop}
use Rattle.wording.specs.Numbers.{value_from}
use Rattle.text.proofs.numbers.value.Given as goal

abbrev pub invariant-loop-c : goal.invariant-loop-c
invariant-loop-c l = (l.n < 2 ^ 64) × (value_from l.n (drop l.c-index l.word) ≡ value_from 0 l.word)
