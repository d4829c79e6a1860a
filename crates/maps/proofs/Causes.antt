-- The causes of `map` stand in the order of their numbers, whatever the request. Assumes nothing.
use Prim.Native.Nat.{ℕ}
use mathlib.Core.Path.{◌≡◌, refl}
use mathlib.Core.Bool.{true}
use Rattle.answers.specs.Outcome.{ascending, ascending_from}
use Rattle.maps.specs.Map.{map_causes}

pub map_ascends : (combination tn fn direction : ℕ) → ascending (map_causes combination tn fn direction) ≡ true
unfolding ascending_from
map_ascends combination tn fn direction = refl
