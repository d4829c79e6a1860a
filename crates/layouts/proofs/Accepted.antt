-- What an accepted call shows: it had no cause, and the lent bytes are its answer. Assumes nothing.
use Prim.Native.Nat.{ℕ}
use mathlib.Core.Path.{◌≡◌, refl, ap, ◌∙◌}
use mathlib.Core.List.{List, [], ◌∷◌}
use mathlib.Core.Option.{none}
use native.Mathlib.Omega.{arith}
use Rattle.answers.specs.Outcome.{Outcome, Cause, decide}
use Rattle.answers.specs.Claims.{NoCause}
use Rattle.answers.proofs.Decide.{decided, accepts, passes}
use Rattle.layouts.specs.Bursts.{written}
use Rattle.layouts.specs.Claims.{done}

module _ (lent answer : List ℕ) where
  pub accepted_shows : (cs : List Cause) → (written lent (decide cs answer)).refusal ≡ none → (written lent (decide cs answer) ≡ done answer) × NoCause cs
  accepted_shows cs =
      decided cs answer (λ (o : Outcome (List ℕ)). (written lent o).refusal ≡ none → (written lent o ≡ done answer) × NoCause cs)
      (λ r e. absurd (let z : ◌≡◌ {A = ℕ} 0 1 = cc in omega arith)) (λ free e. (refl, free))

  pub no_cause_accepts : (cs : List Cause) → NoCause cs → written lent (decide cs answer) ≡ done answer
  no_cause_accepts [] free = ap (written lent) (accepts answer)
  no_cause_accepts (c ∷ cs) free = ap (written lent) (passes c cs answer free.0) ∙ no_cause_accepts cs free.1
