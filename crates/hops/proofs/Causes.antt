-- The causes of `position` and `hop` stand in the order of their numbers, whatever the request. Assumes nothing.
use Prim.Native.Nat.{ℕ}
use mathlib.Core.Path.{◌≡◌, refl}
use mathlib.Core.Bool.{true}
use mathlib.Core.List.{List}
use Rattle.answers.specs.Outcome.{ascending, ascending_from}
use Rattle.hops.specs.Hopping.{position_causes, hop_causes}

pub position_ascends : (size m hsn maio fn : ℕ) → ascending (position_causes size m hsn maio fn) ≡ true
unfolding ascending_from
position_ascends size m hsn maio fn = refl

pub hop_ascends : (ca : List ℕ) (m hsn maio fn : ℕ) → ascending (hop_causes ca m hsn maio fn) ≡ true
unfolding ascending_from
hop_ascends ca m hsn maio fn = refl
