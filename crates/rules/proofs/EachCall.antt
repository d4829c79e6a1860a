-- The one case split over the calls: what holds after a call that is refused, and after each that no cause refuses, holds after every call.
-- Assumes nothing.
use Prim.Native.Nat.{ℕ}
use Rattle.answers.specs.Outcome.{Refused, Outcome, refused, accepted}
use Rattle.answers.specs.Claims.{NoCause}
use Rattle.answers.proofs.Decide.{decided}
use Rattle.rules.specs.State.{Cell, Values, line_with, free, closed_line, line_at}
use Rattle.rules.specs.Calls.{Step, step, with_line, open_causes, open_of, close_causes, close_of, with_owner, seize_causes, seize_of, release_causes, release_of}
use Rattle.rules.specs.History.{Call, opens, closes, seizes, releases}
use Rattle.rules.specs.CollisionFree.{calling}

pub each_call : (before : Cell) (Has : Call → Step → Type 0)
    → ((x : Call) (r : Refused) → Has x (step before (refused r)))
    → ((n : ℕ) (v : Values) → NoCause (open_causes before n v) → Has (opens n v) (step before (accepted (with_line before n (line_with v free)))))
    → ((n : ℕ) → NoCause (close_causes before n) → Has (closes n) (step before (accepted (with_line before n closed_line))))
    → ((n s o : ℕ) → NoCause (seize_causes before n s o) → Has (seizes n s o) (step before (accepted (with_line before n (with_owner (line_at before n) s o)))))
    → ((n s o : ℕ) → NoCause (release_causes before n s o) → Has (releases n s o) (step before (accepted (with_line before n (with_owner (line_at before n) s 0)))))
    → (x : Call) → Has x (calling before x)
unfolding open_of close_of seize_of release_of
each_call before Has bad opened closed seized released (opens n v) =
    decided (open_causes before n v) _ (λ (o : Outcome Cell). Has (opens n v) (step before o)) (bad (opens n v)) (opened n v)
each_call before Has bad opened closed seized released (closes n) =
    decided (close_causes before n) _ (λ (o : Outcome Cell). Has (closes n) (step before o)) (bad (closes n)) (closed n)
each_call before Has bad opened closed seized released (seizes n s o) =
    decided (seize_causes before n s o) _ (λ (p : Outcome Cell). Has (seizes n s o) (step before p)) (bad (seizes n s o)) (seized n s o)
each_call before Has bad opened closed seized released (releases n s o) =
    decided (release_causes before n s o) _ (λ (p : Outcome Cell). Has (releases n s o) (step before p)) (bad (releases n s o)) (released n s o)
