-- The number of a refusal is never 0, so that C tells an accepted call by `refusal`. Assumes nothing.
use Prim.Native.Nat.{◌<◌}
use mathlib.Core.Path.{◌≡◌, subst}
use mathlib.Core.Bool.{true}
use mathlib.Core.List.{List}
use Rattle.answers.specs.Outcome.{Refused, Outcome, refused, Cause, ascending}
use Rattle.answers.specs.Claims.{Caused, FairAnswer}
use Rattle.answers.proofs.Decide.{above}

pub caused_above : (cs : List Cause) → ascending cs ≡ true → (r : Refused) → Caused cs r → 0 < r.number
caused_above cs ascends r w = subst (λ (x : Refused). 0 < x.number) w.same (above 0 cs ascends w.of w.member)

pub number_above : {A : Type 0} (answer : A) (cs : List Cause) (o : Outcome A) → ascending cs ≡ true → FairAnswer answer cs o → (r : Refused) → o ≡ refused r → 0 < r.number
number_above answer cs o ascends fair r e = caused_above cs ascends r (fair.caused r e)
