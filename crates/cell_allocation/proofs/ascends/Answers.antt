-- `ascends` meets its contract: each entry is below the next, the first is above 0 and the last is an ARFCN. Assumes nothing.
use Rattle.std.proofs.Common.{rules, ltb, arith}
use Rattle.std.proofs.lemmas.List.Sorted.{answers_always}
use Rattle.cell_allocation.proofs.Ascending.{judged}
use Rattle.cell_allocation.proofs.ascends.Goals as goal

pub returns-then-last-le-LAST_ARFCN : goal.returns-then-last-le-LAST_ARFCN
returns-then-last-le-LAST_ARFCN c =
    let s = c.is_sorted_by.ensures.cases ltb (answers_always _ _ _ (λ f a r g called. search rules)) in
    judged _ (grind arith) (grind arith) (grind arith) (grind arith) _ s
