-- Whose the subchannels are, whatever the list: what is held has an owner, no owner is above 65,535, and only what the line's combination has is
-- held. Kept by each call. Assumes nothing.
use Prim.Native.Nat.{ℕ, ◌≤◌, ◌<◌}
use mathlib.Core.Path.{◌≡◌, refl, sym, ap, ◌∙◌}
use mathlib.Core.Bool.{Bool, true, false, not, cond, ◌&&◌}
use mathlib.Core.List.{List, [], ◌∷◌}
use mathlib.Core.Logic.{◌⊎◌, inl, inr, ⊎_elim}
use mathlib.Core.Option.{Option, some}
use native.Mathlib.Omega.{arith}
use lib.Dec.{eqb, ltb}
use Rattle.answers.proofs.Tests.{or_none_left, or_none_right}
use borrow.Author.Tests.{eqb-true, eqb-false, ltb-true, ltb-false, not-false}
use Rattle.rules.specs.State.{Cell, LineState, Values, line_at}
use Rattle.rules.specs.Calls.{Step, subchannels, no_subchannel}
use Rattle.rules.specs.History.{Call, opens, closes, seizes, releases, Made, opens_or_closes, opened_with, last_accepted, since, seizes_or_releases, owner_in, held_by, is_seize, is_seized, cell_from}
use Rattle.rules.specs.CollisionFree.{calling, made}
use Rattle.rules.proofs.History.{was_accepted, was_refused, named_held, other_opened, other_held, owner_named, owner_beside, owner_elsewhere, still_opened}
use Rattle.rules.proofs.EachCall.{each_call}
use Rattle.rules.proofs.Sound.{Sound, open_line}

-- a subchannel is held exactly if it has an owner
abbrev pub Owned : List Made → Type 0
Owned past = (n s : ℕ) → is_seized past n s ≡ not (eqb (held_by past n s) 0)

-- nothing is held before the first call
pub owned_first : Owned []
unfolding is_seized held_by since last_accepted
owned_first n s = refl

module _ (first : Cell) (past : List Made) (owned : Owned past) where
  abbrev start : Cell
  start = cell_from first past

  owned_refused : (x : Call) → Owned (was_refused x ∷ past)
  unfolding is_seized held_by since last_accepted
  owned_refused x = owned

  -- an open or close of line n frees its subchannels
  owned_named : (x : Call) (n : ℕ) → ((k : ℕ) → opens_or_closes k x ≡ eqb n k) → ((k s : ℕ) → seizes_or_releases k s x ≡ false) → Owned (was_accepted x ∷ past)
  unfolding is_seized held_by since last_accepted
  owned_named x n names neither k s = rw (names k) (go (eqb n k))
    where
      Last : Bool → Option Call
      Last b = last_accepted (seizes_or_releases k s) (cond b [] (was_accepted x ∷ since k past))

      go : (b : Bool) → is_seize (Last b) ≡ not (eqb (owner_in (Last b)) 0)
      go true = refl
      go false = rw (neither k s) (owned k s)

  -- a seize or release of s names an owner, or frees it
  owned_by : (x : Call) (n s : ℕ) → ((k t : ℕ) → seizes_or_releases k t x ≡ (eqb n k && eqb s t)) → ((k : ℕ) → opens_or_closes k x ≡ false)
      → is_seize (some x) ≡ not (eqb (owner_in (some x)) 0) → Owned (was_accepted x ∷ past)
  unfolding is_seized held_by since last_accepted
  owned_by x n s names neither good k t = rw (neither k, names k t) (go (eqb n k && eqb s t))
    where
      Last : Bool → Option Call
      Last b = cond b (some x) (last_accepted (seizes_or_releases k t) (since k past))

      go : (b : Bool) → is_seize (Last b) ≡ not (eqb (owner_in (Last b)) 0)
      go true = good
      go false = owned k t

  pub call_owned : (x : Call) → Owned (made x (calling start x) ∷ past)
  call_owned =
      each_call start (λ (x : Call) (s : Step). Owned (made x s ∷ past))
      (λ x r. owned_refused x)
      (λ n v none. owned_named (opens n v) n (λ k. refl) (λ k s. refl))
      (λ n none. owned_named (closes n) n (λ k. refl) (λ k s. refl))
      (λ n s o none. owned_by (seizes n s o) n s (λ k t. refl) (λ k. refl) (ap not (sym (or_none_left (eqb o 0) (ltb 65535 o) none.0.1.0))))
      (λ n s o none. owned_by (releases n s o) n s (λ k t. refl) (λ k. refl) refl)

pub record Owners (past : List Made) : Type 0 where
  pub range : (n s : ℕ) → held_by past n s ≤ 65535
  -- an open line has no owner of an s past its subchannels
  pub beyond : (n s : ℕ) (v : Values) → opened_with past n ≡ some v → subchannels v.combination ≤ s → held_by past n s ≡ 0

-- nothing is held before the first call
pub owners_first : Owners []
unfolding held_by since last_accepted
owners_first = record { range = λ n s. omega arith; beyond = λ n s v e h. refl }

module _ (first : Cell) (past : List Made) (sound : Sound first past) (owners : Owners past) where
  abbrev before : Cell
  before = cell_from first past

  owners_refused : (x : Call) → Owners (was_refused x ∷ past)
  unfolding opened_with held_by since last_accepted
  owners_refused x = record { range = owners.range; beyond = owners.beyond }

  -- an open or close of line n frees its subchannels
  module _ (x : Call) (n : ℕ) (names : (k : ℕ) → opens_or_closes k x ≡ eqb n k) (neither : (k s : ℕ) → seizes_or_releases k s x ≡ false) where
    abbrev after : List Made
    after = was_accepted x ∷ past

    freed_or_same : (k s : ℕ) → (held_by after k s ≡ 0) ⊎ ((opened_with after k ≡ opened_with past k) × (held_by after k s ≡ held_by past k s))
    freed_or_same k s = go (eqb k n) refl
      where
        go : (b : Bool) → eqb k n ≡ b → (held_by after k s ≡ 0) ⊎ ((opened_with after k ≡ opened_with past k) × (held_by after k s ≡ held_by past k s))
        go true e = inl (ap (λ (i : ℕ). held_by after i s) (eqb-true k n e) ∙ named_held past x n names s)
        go false e = inr (other_opened past x n names k (eqb-false k n e), other_held past x n names k s (eqb-false k n e) (neither k s))

    owners_named : Owners after
    owners_named =
        record {
          range = λ k s. ⊎_elim (λ z. omega arith) (λ w. let l = owners.range k s in let e = w.1 in omega arith) (freed_or_same k s);
          beyond = λ k s v e h. ⊎_elim (λ z. z) (λ w. w.1 ∙ owners.beyond k s v (sym w.0 ∙ e) h) (freed_or_same k s);
        }

  -- a seize or release of s names its owner
  module _ (x : Call) (n s : ℕ) (names : (k t : ℕ) → seizes_or_releases k t x ≡ (eqb n k && eqb s t)) (neither : (k : ℕ) → opens_or_closes k x ≡ false)
      (in_range : owner_in (some x) ≤ 65535) (exists : (v : Values) → opened_with past n ≡ some v → subchannels v.combination ≤ s → owner_in (some x) ≡ 0) where
    abbrev later : List Made
    later = was_accepted x ∷ past

    named_or_same : (k t : ℕ) → ((k ≡ n) × (t ≡ s) × (held_by later k t ≡ owner_in (some x))) ⊎ (held_by later k t ≡ held_by past k t)
    named_or_same k t = go (eqb k n) (eqb t s) refl refl
      where
        go : (a b : Bool) → eqb k n ≡ a → eqb t s ≡ b → ((k ≡ n) × (t ≡ s) × (held_by later k t ≡ owner_in (some x))) ⊎ (held_by later k t ≡ held_by past k t)
        go true true p q =
            let i = eqb-true k n p in
            let j = eqb-true t s q in
            inl (i, j, ap (λ (m : ℕ). held_by later m t) i ∙ (ap (held_by later n) j ∙ owner_named past x n s names neither))
        go true false p q =
            let i = eqb-true k n p in
            inr (ap (λ (m : ℕ). held_by later m t) i ∙ (owner_beside past x n s names neither t (eqb-false t s q) ∙ ap (λ (m : ℕ). held_by past m t) (sym i)))
        go false b p q = inr (owner_elsewhere past x n s names neither k t (eqb-false k n p))

    owners_taken : Owners later
    owners_taken =
        record {
          range = λ k t. ⊎_elim (λ w. let e = w.2 in omega (arith, in_range, e)) (λ e. let l = owners.range k t in omega arith) (named_or_same k t);
          beyond = λ k t v e h. ⊎_elim (λ w. w.2 ∙ exists v (ap (opened_with past) (sym w.0) ∙ (sym (still_opened past x n s names neither k) ∙ e)) (let q = w.1 in omega (arith, h, q))) (λ z. z ∙ owners.beyond k t v (sym (still_opened past x n s names neither k) ∙ e) h) (named_or_same k t);
        }

  -- an s that 10 does not refuse is one that the line's combination has
  has_subchannel : (n s : ℕ) → no_subchannel (line_at before n) s ≡ false → (v : Values) → opened_with past n ≡ some v → s < subchannels v.combination
  has_subchannel n s h v e =
      ltb-true _ _ (not-false _ (ap (λ (l : LineState). no_subchannel l s) (sym (open_line first past sound n v e)) ∙ h))

  pub call_owners : (x : Call) → Owners (made x (calling before x) ∷ past)
  call_owners =
      each_call before (λ (x : Call) (s : Step). Owners (made x s ∷ past))
      (λ x r. owners_refused x)
      (λ n v none. owners_named (opens n v) n (λ k. refl) (λ k s. refl))
      (λ n none. owners_named (closes n) n (λ k. refl) (λ k s. refl))
      (λ n s o none. owners_taken (seizes n s o) n s (λ k t. refl) (λ k. refl) (ltb-false 65535 o (or_none_right (eqb o 0) (ltb 65535 o) none.0.1.0)) (λ v e h. absurd (let l = has_subchannel n s none.1.1.0.0 v e in omega (arith, h, l))))
      (λ n s o none. owners_taken (releases n s o) n s (λ k t. refl) (λ k. refl) (omega arith) (λ v e h. refl))
