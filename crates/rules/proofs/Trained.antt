-- Each open common line has BCC as its training code, whatever the list. Kept by each call. Assumes nothing.
use Prim.Native.Nat.{ℕ}
use mathlib.Core.Path.{◌≡◌, refl, sym, ap, ◌∙◌, subst}
use mathlib.Core.Bool.{true}
use mathlib.Core.List.{List, [], ◌∷◌}
use mathlib.Core.Logic.{⊎_elim}
use mathlib.Core.Option.{some}
use borrow.Author.Tests.{eqb-true, not-false}
use Rattle.answers.specs.Claims.{NoneHolds}
use Rattle.answers.proofs.Tests.{and_rest}
use Rattle.rules.specs.State.{Cell, Values}
use Rattle.rules.specs.Calls.{Step, is_common_combination, misplaced}
use Rattle.rules.specs.History.{Call, opens, closes, seizes, releases, Made, opened_with, last_accepted, cell_from}
use Rattle.rules.specs.CollisionFree.{calling, made}
use Rattle.rules.proofs.History.{none_is_not_some, was_accepted, was_refused, open_after_open, open_after_close, still_opened}
use Rattle.rules.proofs.EachCall.{each_call}

abbrev pub Trained : Cell → List Made → Type 0
Trained first past = (n : ℕ) (v : Values) → opened_with past n ≡ some v → is_common_combination v.combination ≡ true → v.tsc ≡ first.bcc

-- nothing is open before the first call
pub trained_first : (first : Cell) → Trained first []
unfolding opened_with last_accepted
trained_first first n v e h = absurd (none_is_not_some e)

module _ (first : Cell) (past : List Made) (trained : Trained first past) where
  abbrev before : Cell
  before = cell_from first past

  -- a call that opens and closes nothing
  trained_same : (after : List Made) → ((k : ℕ) → opened_with after k ≡ opened_with past k) → Trained first after
  trained_same after same n v e h = trained n v (sym (same n) ∙ e) h

  trained_refused : (x : Call) → Trained first (was_refused x ∷ past)
  unfolding opened_with last_accepted
  trained_refused x = trained_same (was_refused x ∷ past) (λ k. refl)

  trained_closed : (n : ℕ) → Trained first (was_accepted (closes n) ∷ past)
  trained_closed n k v e h = trained k v (open_after_close past n k v e).1 h

  trained_opened : (n : ℕ) (v : Values) → NoneHolds (misplaced before v) → Trained first (was_accepted (opens n v) ∷ past)
  unfolding cell_from
  trained_opened n v free k w e h =
      ⊎_elim (λ q. subst (λ (u : Values). u.tsc ≡ first.bcc) q.1 (new (ap (λ (u : Values). is_common_combination u.combination) q.1 ∙ h))) (λ o. trained k w o h) (open_after_open past n v k w e)
    where
      new : is_common_combination v.combination ≡ true → v.tsc ≡ first.bcc
      new g = eqb-true _ _ (not-false _ (and_rest (is_common_combination v.combination) _ g free.1.1.1.0))

  pub call_trained : (x : Call) → Trained first (made x (calling before x) ∷ past)
  call_trained =
      each_call before (λ (x : Call) (s : Step). Trained first (made x s ∷ past))
      (λ x r. trained_refused x)
      (λ n v none. trained_opened n v none.1.1.1.1.0)
      (λ n none. trained_closed n)
      (λ n s o none. trained_same _ (still_opened past (seizes n s o) n s (λ k t. refl) (λ k. refl)))
      (λ n s o none. trained_same _ (still_opened past (releases n s o) n s (λ k t. refl) (λ k. refl)))
