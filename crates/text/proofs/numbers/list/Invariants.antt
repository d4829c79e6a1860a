use Rattle.std.proofs.Common.{◌≡◌, ◌-◌, length}
use Rattle.wording.specs.Words.{words_of}
use Rattle.wording.specs.Numbers.{list_filled}
use Rattle.text.specs.Room.{Kept}
use Rattle.text.proofs.Taken.{filled}
use Rattle.text.proofs.numbers.list.Given as goal

abbrev pub invariant-loop-word : goal.invariant-loop-word
invariant-loop-word g l =
    let before = g.E.Entries.buffer l.fn.out in
    let now = g.E.Entries.buffer l.out in
    (filled now.items (before.room - length now.items) (words_of l.rest) ≡ list_filled before.room (words_of l.fn.line)) × Kept before now

abbrev pub decreases-loop-word : goal.decreases-loop-word
decreases-loop-word g l = length l.rest
