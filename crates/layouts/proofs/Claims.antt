-- Each call of the bursts is fair: what its causes decide is, and a refused call leaves what was lent. Assumes nothing.
use Prim.Native.Nat.{ℕ}
use mathlib.Core.Path.{◌≡◌, refl, ap}
use mathlib.Core.List.{List}
use mathlib.Core.Option.{some}
use native.Mathlib.Omega.{arith}
use Rattle.answers.specs.Outcome.{Refused, Outcome, refused, accepted, Cause, decide}
use Rattle.answers.specs.Claims.{FairAnswer}
use Rattle.layouts.specs.Bursts.{Written, written, build_of, build_normal_of, take_of, take_normal_of}
use Rattle.layouts.specs.Claims.{FairCall, FairCalls}
use Rattle.layouts.proofs.Accepted.{accepted_shows}
use Rattle.layouts.proofs.Causes.{build_fair, take_fair, build_normal_fair, take_normal_fair}

module _ (causes : List Cause) (lent answer : List ℕ) where
  is_refused : (r : Refused) (o : Outcome (List ℕ)) → (written lent o).refusal ≡ some r → o ≡ refused r
  is_refused r (refused q) e = let z : q ≡ r = cc in ap refused z
  is_refused r (accepted a) e = absurd (let z : ◌≡◌ {A = ℕ} 0 1 = cc in omega arith)

  left : (r : Refused) (o : Outcome (List ℕ)) → (written lent o).refusal ≡ some r → (written lent o).bytes ≡ lent
  left r (refused q) e = refl
  left r (accepted a) e = absurd (let z : ◌≡◌ {A = ℕ} 0 1 = cc in omega arith)

  fair_call : FairAnswer answer causes (decide causes answer) → FairCall causes lent answer (written lent (decide causes answer))
  fair_call f =
      record {
        caused = λ r e. f.caused r (is_refused r (decide causes answer) e);
        lowest = λ r e. f.lowest r (is_refused r (decide causes answer) e);
        as_lent = λ r. left r (decide causes answer);
        no_cause = λ e. (accepted_shows lent answer causes e).1;
        as_answered = λ e. ap (λ (w : Written). w.bytes) (accepted_shows lent answer causes e).0;
      }

pub fair_calls : FairCalls
unfolding build_of build_normal_of take_of take_normal_of
fair_calls =
    record {
      of_build_normal = λ tsc payload burst. fair_call _ burst _ (build_normal_fair tsc payload burst);
      of_take_normal = λ tsc burst payload. fair_call _ payload _ (take_normal_fair tsc burst payload);
      of_build = λ row payload burst. fair_call _ burst _ (build_fair row payload burst);
      of_take = λ row burst payload. fair_call _ payload _ (take_fair row burst payload);
    }
