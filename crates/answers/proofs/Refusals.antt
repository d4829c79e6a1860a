-- The cases of `Refusal`, in document 01's order, have its numbers 1 to 16; 9 and 15 alone carry a value. Which causes ascend, and the borders of the
-- ranges. Assumes nothing.
use mathlib.Core.Path.{refl}
use Rattle.answers.specs.Outcome.{ascending_from}
use Rattle.answers.specs.Claims.{Numbered, Ascends, InRange}

pub numbered : Numbered
numbered = record { numbers = λ line bit. refl; values = λ line bit. refl }

pub ascends : Ascends
unfolding ascending_from
ascends = record { ascending_causes = refl; other_causes = refl }

pub in_range : InRange
in_range = record { fn = refl; tn = refl; direction = refl; arfcn = refl; size = refl; hsn = refl; bcc = refl; ag = refl; p = refl; line = refl; tsc = refl; owner = refl }
