-- What `decide` comes to. First what a call's proof cites at each return: a condition that holds stops, a cause of which none holds is
-- passed. Then what a reader wants to know: a refusal had its cause and no lower number applied, an accepted call had no cause.
-- Assumes nothing.
use Prim.Native.Nat.{ℕ, zero, suc, ◌≤◌, ◌<◌}
use native.Mathlib.Nat.{lt_trans, le_of_lt, le_refl}
use mathlib.Core.Path.{◌≡◌, refl, sym, ap, ◌∙◌, subst}
use mathlib.Core.Bool.{Bool, true, false, ◌||◌, cond}
use mathlib.Core.List.Memᴰ
use mathlib.Core.List.{List, [], ◌∷◌, Memᴰ}
use mathlib.Core.Logic.{⊎_elim}
use native.Mathlib.Omega.{arith}
use borrow.Author.Tests.{ltb-true}
use lib.Dec.{ltb}
use Rattle.answers.specs.Outcome.{Refused, Outcome, refused, accepted, alone, Cause, any_of, decide, ascending, ascending_from}
use Rattle.answers.specs.Claims.{Caused, NoneHolds, NoCause, FairAnswer, DecidesFairly}
use Rattle.answers.proofs.Tests.{and_left, and_right, or_left, or_right, or_none, or_false, not_both}

-- ---- at a call's returns

-- condition i of the list holds
abbrev pub Holds : ℕ → List Bool → Type 0
Holds i [] = ⊥
Holds zero (b ∷ bs) = b ≡ true
Holds (suc i) (b ∷ bs) = Holds i bs

pub holds : (i : ℕ) (bs : List Bool) → Holds i bs → any_of bs ≡ true
unfolding any_of
holds i [] h = absurd h
holds zero (b ∷ bs) h = or_left (any_of bs) h
holds (suc i) (b ∷ bs) h = or_right b (holds i bs h)

pub none_holds : (bs : List Bool) → NoneHolds bs → any_of bs ≡ false
unfolding any_of
none_holds [] h = refl
none_holds (b ∷ bs) h = or_none h.0 (none_holds bs h.1)

pub holds_none : (bs : List Bool) → any_of bs ≡ false → NoneHolds bs
unfolding any_of
holds_none [] h = tt
holds_none (true ∷ bs) h = not_both refl h
holds_none (false ∷ bs) h = (refl, holds_none bs h)

-- the conditions as code combines them: nothing follows the last
abbrev pub combined : List Bool → Bool
combined [] = false
combined (b ∷ []) = b
combined (b ∷ d ∷ bs) = b || combined (d ∷ bs)

pub any_combined : (bs : List Bool) → combined bs ≡ any_of bs
unfolding any_of
any_combined [] = refl
any_combined (b ∷ []) = sym (or_false b)
any_combined (b ∷ d ∷ bs) = ap (λ (t : Bool). b || t) (any_combined (d ∷ bs))

module _ {A : Type 0} (c : Cause) (cs : List Cause) (answer : A) where
  -- the first cause applies: it refuses
  pub first : any_of c.conditions ≡ true → decide (c ∷ cs) answer ≡ refused c.refusal
  unfolding decide
  first h = ap (λ (b : Bool). cond b (refused c.refusal) (decide cs answer)) h

  -- it does not: the others decide
  pub rest : any_of c.conditions ≡ false → decide (c ∷ cs) answer ≡ decide cs answer
  unfolding decide
  rest h = ap (λ (b : Bool). cond b (refused c.refusal) (decide cs answer)) h

  pub stops : (i : ℕ) → Holds i c.conditions → decide (c ∷ cs) answer ≡ refused c.refusal
  stops i h = first (holds i c.conditions h)

  pub passes : NoneHolds c.conditions → decide (c ∷ cs) answer ≡ decide cs answer
  passes h = rest (none_holds c.conditions h)

-- no cause is left
pub accepts : {A : Type 0} (answer : A) → decide [] answer ≡ accepted answer
unfolding decide
accepts answer = refl

-- what holds of every refusal, and of the answer where no cause applies, holds of what is decided
pub decided : {A : Type 0} (cs : List Cause) (answer : A) (P : Outcome A → Type 0) → ((r : Refused) → P (refused r)) → (NoCause cs → P (accepted answer))
    → P (decide cs answer)
unfolding decide
decided [] answer P bad good = good tt
decided (c ∷ cs) answer P bad good = go (any_of c.conditions) refl (decided cs answer P bad)
  where
    go : (b : Bool) → any_of c.conditions ≡ b → ((NoCause cs → P (accepted answer)) → P (decide cs answer)) → P (cond b (refused c.refusal) (decide cs answer))
    go true e more = bad c.refusal
    go false e more = more (λ w. good (holds_none c.conditions e, w))

-- a call whose answer is computed from another's, for the same causes
abbrev pub answered : {A B : Type 0} → (A → B) → Outcome A → Outcome B
answered f (refused r) = refused r
answered f (accepted a) = accepted (f a)

pub decide_answered : {A B : Type 0} (f : A → B) (cs : List Cause) (a : A) → decide cs (f a) ≡ answered f (decide cs a)
unfolding decide
decide_answered f [] a = refl
decide_answered f (c ∷ cs) a = go (any_of c.conditions) (decide_answered f cs a)
  where
    go : (t : Bool) → decide cs (f a) ≡ answered f (decide cs a)
        → cond t (refused c.refusal) (decide cs (f a)) ≡ answered f (cond t (refused c.refusal) (decide cs a))
    go true e = refl
    go false e = e

-- ---- at a call's returns, by the place of the cause

-- cause i of the list applies, and none before it
abbrev pub Applies : ℕ → List Cause → Type 0
Applies i [] = ⊥
Applies zero (c ∷ cs) = combined c.conditions ≡ true
Applies (suc i) (c ∷ cs) = (combined c.conditions ≡ false) × Applies i cs

-- none applies
abbrev pub NoneApplies : List Cause → Type 0
NoneApplies [] = Unit
NoneApplies (c ∷ cs) = (combined c.conditions ≡ false) × NoneApplies cs

-- the refusal of cause i
abbrev pub refusal_at : ℕ → List Cause → Refused
refusal_at i [] = alone 0
refusal_at zero (c ∷ cs) = c.refusal
refusal_at (suc i) (c ∷ cs) = refusal_at i cs

module _ {A : Type 0} (answer : A) where
  pub refused_by : (i : ℕ) (cs : List Cause) → Applies i cs → refused (refusal_at i cs) ≡ decide cs answer
  refused_by i [] h = absurd h
  refused_by zero (c ∷ cs) h = sym (first c cs answer (sym (any_combined c.conditions) ∙ h))
  refused_by (suc i) (c ∷ cs) h = refused_by i cs h.1 ∙ sym (rest c cs answer (sym (any_combined c.conditions) ∙ h.0))

  pub accepted_by : (cs : List Cause) → NoneApplies cs → accepted answer ≡ decide cs answer
  accepted_by [] h = sym (accepts answer)
  accepted_by (c ∷ cs) h = accepted_by cs h.1 ∙ sym (rest c cs answer (sym (any_combined c.conditions) ∙ h.0))

-- ---- for the reader

later : (c : Cause) (cs : List Cause) (r : Refused) → Caused cs r → Caused (c ∷ cs) r
later c cs r w = record { of = w.of; member = Memᴰ.tail w.member; applies = w.applies; same = w.same }

-- every cause of the list has a number above n
pub above : (n : ℕ) (cs : List Cause) → ascending_from n cs ≡ true → (c : Cause) → Memᴰ c cs → n < c.refusal.number
unfolding ascending_from
above n [] h c m = absurd (Memᴰ.not-nil m)
above n (d ∷ ds) h c m =
    let step : n < d.refusal.number = ltb-true _ _ (and_left (ltb n d.refusal.number) _ h) in
    ⊎_elim (λ e. subst (λ (x : Cause). n < x.refusal.number) (sym e) step)
    (λ w. lt_trans step (above d.refusal.number ds (and_right (ltb n d.refusal.number) _ h) c w))
    (Memᴰ.cases_cons m)

module _ {A : Type 0} (answer : A) where
  -- a call is refused only for a cause of its list
  pub refused_has_cause : (cs : List Cause) (r : Refused) → decide cs answer ≡ refused r → Caused cs r
  refused_has_cause [] r h = absurd (let z : ◌≡◌ {A = ℕ} 0 1 = cc (accepts answer) in omega arith)
  refused_has_cause (c ∷ cs) r h = go (any_of c.conditions) refl (refused_has_cause cs r)
    where
      go : (t : Bool) → any_of c.conditions ≡ t → (decide cs answer ≡ refused r → Caused cs r) → Caused (c ∷ cs) r
      go true e more = record { of = c; member = Memᴰ.head refl; applies = e; same = cc (first c cs answer e) }
      go false e more = later c cs r (more (sym (rest c cs answer e) ∙ h))

  -- and its number is the lowest of those that apply
  pub refused_is_lowest : (n : ℕ) (cs : List Cause) (r : Refused) → ascending_from n cs ≡ true → decide cs answer ≡ refused r
      → (c : Cause) → Memᴰ c cs → any_of c.conditions ≡ true → r.number ≤ c.refusal.number
  unfolding ascending_from
  refused_is_lowest n [] r a h c m t = absurd (Memᴰ.not-nil m)
  refused_is_lowest n (d ∷ ds) r a h c m t = go (any_of d.conditions) refl (refused_is_lowest _ ds r (and_right (ltb n d.refusal.number) _ a))
    where
      Low : Type 0
      Low = r.number ≤ c.refusal.number

      low : d.refusal ≡ r → d.refusal.number ≤ c.refusal.number → Low
      low e l = subst (λ (x : Refused). x.number ≤ c.refusal.number) e l

      go : (b : Bool) → any_of d.conditions ≡ b
          → (decide ds answer ≡ refused r → (x : Cause) → Memᴰ x ds → any_of x.conditions ≡ true → r.number ≤ x.refusal.number) → Low
      go true e more =
          low (let q : d.refusal ≡ r = cc (first d ds answer e) in q)
          (⊎_elim (λ q. subst (λ (x : Cause). d.refusal.number ≤ x.refusal.number) (sym q) (le_refl _))
          (λ w. le_of_lt (above _ ds (and_right (ltb n d.refusal.number) _ a) c w))
          (Memᴰ.cases_cons m))
      go false e more =
          ⊎_elim (λ q. not_both t (ap (λ (x : Cause). any_of x.conditions) q ∙ e))
          (λ w. more (sym (rest d ds answer e) ∙ h) c w t)
          (Memᴰ.cases_cons m)

  -- an accepted call had no cause, and gives the answer
  pub accepted_has_none : (cs : List Cause) (b : A) → decide cs answer ≡ accepted b → (answer ≡ b) × NoCause cs
  accepted_has_none cs b =
      decided cs answer (λ (o : Outcome A). o ≡ accepted b → (answer ≡ b) × NoCause cs) (λ r e. absurd (let z : ◌≡◌ {A = ℕ} 0 1 = cc in omega arith))
      (λ none e. (let z : answer ≡ b = cc in z, none))

  -- all of that
  pub fair_answer : (cs : List Cause) → ascending cs ≡ true → FairAnswer answer cs (decide cs answer)
  fair_answer cs h = record { caused = refused_has_cause cs; lowest = λ r. refused_is_lowest 0 cs r h; no_cause = accepted_has_none cs }

pub decides : (A : Type 0) → DecidesFairly A
decides A = record { fair = λ cs answer. fair_answer answer cs }
