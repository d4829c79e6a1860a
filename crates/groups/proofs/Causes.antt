-- A refused `page` had its cause and no lower number applied; an accepted one had no cause, and gives the phone's block. Assumes nothing.
use Prim.Native.Nat.{ℕ}
use mathlib.Core.Path.{refl}
use mathlib.Core.List.{List}
use Rattle.answers.specs.Outcome.{ascending_from}
use Rattle.answers.specs.Claims.{FairAnswer}
use Rattle.answers.proofs.Decide.{fair_answer}
use Rattle.groups.specs.Paging.{Common, last_three, block_for, paging_causes, paging_of}

pub page_fair : (c : Common) (digits : List ℕ) (fn : ℕ) → FairAnswer (block_for c (last_three digits) fn) (paging_causes c digits fn) (paging_of c digits fn)
unfolding paging_of ascending_from
page_fair c digits fn = fair_answer _ (paging_causes c digits fn) refl
