-- What one more call does to the history: which lines it opens or closes, and whose a subchannel becomes. Assumes nothing.
use Prim.Native.Nat.{ℕ, ◌<◌}
use mathlib.Core.Path.{◌≡◌, refl, sym, ap, ◌∙◌}
use mathlib.Core.Bool.{Bool, true, false, ◌&&◌, cond}
use mathlib.Core.List.{List, [], ◌∷◌}
use mathlib.Core.Logic.{◌⊎◌, inl, inr}
use mathlib.Core.Option.{Option, none, some}
use native.Mathlib.Omega.{arith}
use lib.Dec.{eqb}
use borrow.Author.Tests.{eq-eqb, ne_eqb, eqb-true, eqb-false}
use Rattle.answers.proofs.Tests.{and_both, and_false_right}
use Rattle.rules.specs.State.{LineState, Values, owner_room, line_with}
use Rattle.rules.specs.History.{Call, opens, closes, Made, last_accepted, opens_or_closes, values_in, opened_with, since, seizes_or_releases, owner_in, held_by, line_or}
use Rattle.rules.proofs.Tabulate.{tabulate_same}

pub none_is_not_some : {A : Type 0} {x : A} → ◌≡◌ {A = Option A} none (some x) → ⊥
none_is_not_some e = let z : ◌≡◌ {A = ℕ} 0 1 = cc in omega arith

-- the call, accepted
abbrev pub was_accepted : Call → Made
was_accepted x = record { call = x; accepted = true }

-- the call, refused
abbrev pub was_refused : Call → Made
was_refused x = record { call = x; accepted = false }

module _ (past : List Made) where
  -- ---- open and close

  module _ (x : Call) (n : ℕ) (names : (k : ℕ) → opens_or_closes k x ≡ eqb n k) where
    -- what the line that is named has from then on
    pub named_opened : opened_with (was_accepted x ∷ past) n ≡ values_in (some x)
    unfolding opened_with last_accepted
    named_opened = ap (λ (t : Bool). values_in (cond t (some x) (last_accepted (opens_or_closes n) past))) (names n ∙ eq-eqb n n refl)

    pub named_held : (s : ℕ) → held_by (was_accepted x ∷ past) n s ≡ 0
    unfolding held_by since last_accepted
    named_held s = ap (λ (t : Bool). owner_in (last_accepted (seizes_or_releases n s) (cond t [] (was_accepted x ∷ since n past)))) (names n ∙ eq-eqb n n refl)

    -- the other lines
    pub other_opened : (k : ℕ) → (k ≡ n → ⊥) → opened_with (was_accepted x ∷ past) k ≡ opened_with past k
    unfolding opened_with last_accepted
    other_opened k d =
        ap (λ (t : Bool). values_in (cond t (some x) (last_accepted (opens_or_closes k) past))) (names k ∙ ne_eqb n k (λ q. d (sym q)))

    pub other_held : (k s : ℕ) → (k ≡ n → ⊥) → seizes_or_releases k s x ≡ false → held_by (was_accepted x ∷ past) k s ≡ held_by past k s
    unfolding held_by since last_accepted
    other_held k s d e =
        ap (λ (t : Bool). owner_in (last_accepted (seizes_or_releases k s) (cond t [] (was_accepted x ∷ since k past)))) (names k ∙ ne_eqb n k (λ q. d (sym q)))
        ∙ ap (λ (t : Bool). owner_in (cond t (some x) (last_accepted (seizes_or_releases k s) (since k past)))) e

  -- a line that is open after an open is the one that was named, or was open before
  pub open_after_open : (n : ℕ) (v : Values) (k : ℕ) (w : Values) → opened_with (was_accepted (opens n v) ∷ past) k ≡ some w
      → ((k ≡ n) × (v ≡ w)) ⊎ (opened_with past k ≡ some w)
  open_after_open n v k w e = go (eqb k n) refl
    where
      go : (b : Bool) → eqb k n ≡ b → ((k ≡ n) × (v ≡ w)) ⊎ (opened_with past k ≡ some w)
      go true q =
          let r : opened_with (was_accepted (opens n v) ∷ past) k ≡ some v = ap (opened_with (was_accepted (opens n v) ∷ past)) (eqb-true k n q) ∙ named_opened (opens n v) n (λ i. refl) in
          inl (eqb-true k n q, (let z : v ≡ w = cc in z))
      go false q = inr (sym (other_opened (opens n v) n (λ i. refl) k (eqb-false k n q)) ∙ e)

  -- a line that is open after a close is another one, and was open before
  pub open_after_close : (n k : ℕ) (v : Values) → opened_with (was_accepted (closes n) ∷ past) k ≡ some v → (k ≡ n → ⊥) × (opened_with past k ≡ some v)
  open_after_close n k v e = go (eqb k n) refl
    where
      go : (b : Bool) → eqb k n ≡ b → (k ≡ n → ⊥) × (opened_with past k ≡ some v)
      go true q =
          absurd (let r : opened_with (was_accepted (closes n) ∷ past) k ≡ none = ap (opened_with (was_accepted (closes n) ∷ past)) (eqb-true k n q) ∙ named_opened (closes n) n (λ i. refl) in
          let z : ◌≡◌ {A = ℕ} 0 1 = cc in omega arith)
      go false q = (eqb-false k n q, sym (other_opened (closes n) n (λ i. refl) k (eqb-false k n q)) ∙ e)

  -- ---- seize and release

  module _ (x : Call) (n s : ℕ) (names : (k t : ℕ) → seizes_or_releases k t x ≡ (eqb n k && eqb s t)) (neither : (k : ℕ) → opens_or_closes k x ≡ false) where
    taken : (k t : ℕ) → held_by (was_accepted x ∷ past) k t ≡ owner_in (cond (eqb n k && eqb s t) (some x) (last_accepted (seizes_or_releases k t) (since k past)))
    unfolding held_by since last_accepted
    taken k t =
        ap (λ (b : Bool). owner_in (last_accepted (seizes_or_releases k t) (cond b [] (was_accepted x ∷ since k past)))) (neither k)
        ∙ ap (λ (b : Bool). owner_in (cond b (some x) (last_accepted (seizes_or_releases k t) (since k past)))) (names k t)

    pub owner_named : held_by (was_accepted x ∷ past) n s ≡ owner_in (some x)
    owner_named =
        taken n s ∙ ap (λ (b : Bool). owner_in (cond b (some x) (last_accepted (seizes_or_releases n s) (since n past)))) (and_both (eq-eqb n n refl) (eq-eqb s s refl))

    -- another subchannel of the line
    pub owner_beside : (t : ℕ) → (t ≡ s → ⊥) → held_by (was_accepted x ∷ past) n t ≡ held_by past n t
    unfolding held_by
    owner_beside t d =
        taken n t
        ∙ ap (λ (b : Bool). owner_in (cond b (some x) (last_accepted (seizes_or_releases n t) (since n past)))) (and_false_right (eqb n n) (ne_eqb s t (λ q. d (sym q))))

    -- another line
    pub owner_elsewhere : (k t : ℕ) → (k ≡ n → ⊥) → held_by (was_accepted x ∷ past) k t ≡ held_by past k t
    unfolding held_by
    owner_elsewhere k t d =
        taken k t
        ∙ ap (λ (b : Bool). owner_in (cond (b && eqb s t) (some x) (last_accepted (seizes_or_releases k t) (since k past)))) (ne_eqb n k (λ q. d (sym q)))

    pub still_opened : (k : ℕ) → opened_with (was_accepted x ∷ past) k ≡ opened_with past k
    unfolding opened_with last_accepted
    still_opened k = ap (λ (b : Bool). values_in (cond b (some x) (last_accepted (opens_or_closes k) past))) (neither k)

-- ---- the line that the history says

abbrev pub listed : List Made → ℕ → LineState
listed past n = line_or (opened_with past n) (held_by past n)

-- the same owners
pub line_same : (v : Values) (f g : ℕ → ℕ) → ((s : ℕ) → s < owner_room → f s ≡ g s) → line_with v f ≡ line_with v g
line_same v f g e =
    ap (λ (os : List ℕ). record { mask = v.mask; tn = v.tn; hsn = v.hsn; maio = v.maio; combination = v.combination; tsc = v.tsc; owners = os }) (tabulate_same owner_room f g e)

pub listed_same : (a b : List Made) (n : ℕ) → opened_with a n ≡ opened_with b n → ((s : ℕ) → held_by a n s ≡ held_by b n s) → listed a n ≡ listed b n
listed_same a b n e h = ap (λ (o : Option Values). line_or o (held_by a n)) e ∙ go (opened_with b n)
  where
    go : (o : Option Values) → line_or o (held_by a n) ≡ line_or o (held_by b n)
    go none = refl
    go (some v) = line_same v (held_by a n) (held_by b n) (λ s l. h s)
