-- The third demand, specs/CollisionFree.antt, proved: by induction on the list of calls, each call keeps the history sound and the cell as the
-- history says; and from a sound history, two channels in one spot are one. Assumes nothing.
use Prim.Native.Nat.{ℕ, ◌<◌}
use mathlib.Core.Path.{◌≡◌, refl, sym, ap, ◌∙◌, subst}
use mathlib.Core.Bool.{Bool, true, false, not}
use mathlib.Core.List.{List, [], ◌∷◌, Memᴰ}
use mathlib.Core.Logic.{⊎_elim}
use mathlib.Core.Option.{some}
use lib.Dec.{eqb}
use borrow.Author.Tests.{eqb-true, eqb-false, not-true}
use Rattle.answers.proofs.Tests.{and_left, and_right, not_both}
use Rattle.hops.specs.Hopping.{line_arfcn}
use Rattle.hops.specs.Masks.{one_at_or_above}
use Rattle.hops.proofs.Apart.{Fit, apart}
use Rattle.maps.specs.Channels.{is_common}
use Rattle.maps.specs.Combinations.{rows_of}
use Rattle.maps.specs.Rows.{Row, told}
use Rattle.maps.proofs.OneChannel.{rows_one_channel}
use Rattle.rules.specs.State.{Cell, Values, allocation}
use Rattle.rules.specs.Calls.{Step, physical, start_of}
use Rattle.rules.specs.History.{Call, Made, opened_with, cell_from}
use Rattle.rules.specs.Carried.{Channel, subchannel, common_part, line_number, is_of, Spot, Stands}
use Rattle.rules.specs.CollisionFree.{CollisionFree, Run, calling, made, next, run, begin, ThirdDemand}
use Rattle.rules.proofs.Sound.{allowed_within, allowed_maio, allowed_tn, Sound, sound_first, Kept, call_kept}
use Rattle.rules.proofs.Places.{Placed, placed_first, call_placed}
use Rattle.rules.proofs.Trained.{Trained, trained_first, call_trained}
use Rattle.rules.proofs.Owners.{Owned, owned_first, call_owned, Owners, owners_first, call_owners}
use Rattle.rules.proofs.LineAnswer.{line_is}
use Rattle.rules.proofs.Shown.{stands_shown, shown_stands}
use Rattle.rules.proofs.Begun.{Begun, start_begun}

-- ---- two open lines of one timeslot have different ARFCNs in every frame

module _ (first : Cell) (begun : Begun first) (past : List Made) (sound : Sound first past) where
  fit : (n : ℕ) (v : Values) → opened_with past n ≡ some v → Fit (allocation first) (physical v)
  fit n v e =
      let a = sound.allowed n v e in
      record {
        within = subst (λ (k : ℕ). one_at_or_above v.mask k ≡ false) (sym begun.known_length) (allowed_within first n v a);
        maio_below = allowed_maio first n v a;
      }

  pub lines_apart : (n m : ℕ) (v w : Values) → (n ≡ m → ⊥) → opened_with past n ≡ some v → opened_with past m ≡ some w → v.tn ≡ w.tn
      → (fn : ℕ) → line_arfcn (allocation first) v.mask v.hsn v.maio fn ≡ line_arfcn (allocation first) w.mask w.hsn w.maio fn → ⊥
  lines_apart n m v w d ev ew t fn e =
      ⊎_elim (λ c. apart (allocation first) (physical v) (physical w) begun.allocated (fit n v ev) (fit m w ew) t c fn e)
      (λ c. apart (allocation first) (physical w) (physical v) begun.allocated (fit m w ew) (fit n v ev) (sym t) c fn (sym e))
      (sound.clear n m v w d ev ew)

-- ---- two channels in one spot are one

module _ (first : Cell) (begun : Begun first) (past : List Made) (sound : Sound first past) (spot : Spot) (hd : spot.direction < 2) where
  -- of one line, they are of one subchannel or of the common part
  of_line : (n : ℕ) (x y : Channel) (r q : Row) → line_number x ≡ n → line_number y ≡ n → (r.kind ≡ q.kind) × (r.subchannel ≡ q.subchannel)
      → is_of x (told r) ≡ true → is_of y (told q) ≡ true → x ≡ y
  of_line n (subchannel i s) (subchannel j t) r q a b e hx hy =
      let u : r.subchannel ≡ s = eqb-true _ _ (and_right (not (is_common r.kind)) _ hx) in
      let w : q.subchannel ≡ t = eqb-true _ _ (and_right (not (is_common q.kind)) _ hy) in
      same (a ∙ sym b) (sym u ∙ (e.1 ∙ w))
    where
      same : i ≡ j → s ≡ t → subchannel i s ≡ subchannel j t
      same p o = cc
  of_line n (subchannel i s) (common_part j) r q a b e hx hy =
      not_both {b = is_common q.kind} hy (ap is_common (sym e.0) ∙ not-true _ (and_left (not (is_common r.kind)) _ hx))
  of_line n (common_part i) (subchannel j t) r q a b e hx hy =
      not_both {b = is_common r.kind} hx (ap is_common e.0 ∙ not-true _ (and_left (not (is_common q.kind)) _ hy))
  of_line n (common_part i) (common_part j) r q a b e hx hy = ap common_part (a ∙ sym b)

  -- of two lines: their timeslots or ARFCNs differ
  of_lines : (x y : Channel) → (line_number x ≡ line_number y → ⊥) → Stands first past x spot → Stands first past y spot → ⊥
  of_lines x y d a b =
      lines_apart first begun past sound (line_number x) (line_number y) a.values b.values d a.is_open b.is_open
      (a.in_timeslot ∙ sym b.in_timeslot) spot.fn (a.on_arfcn ∙ sym b.on_arfcn)

  one_spot : (x y : Channel) → Stands first past x spot → Stands first past y spot → x ≡ y
  one_spot x y a b = go (eqb (line_number x) (line_number y)) refl
    where
      go : (t : Bool) → eqb (line_number x) (line_number y) ≡ t → x ≡ y
      go false q = absurd (of_lines x y (eqb-false _ _ q) a b)
      go true q =
          of_line (line_number y) x y a.row b.row e refl
          (rows_one_channel v.tn (allowed_tn first (line_number x) v (sound.allowed (line_number x) v a.is_open)) spot.direction hd spot.fn v.combination a.row b.row a.of_map of_map a.in_frame b.in_frame)
          a.of_channel b.of_channel
        where
          v : Values
          v = a.values

          e : line_number x ≡ line_number y
          e = eqb-true _ _ q

          values : b.values ≡ v
          values = let z : some b.values ≡ some v = sym b.is_open ∙ (ap (opened_with past) (sym e) ∙ a.is_open) in let w : b.values ≡ v = cc in w

          of_map : Memᴰ b.row (rows_of v.combination v.tn spot.direction)
          of_map = subst (λ (u : Values). Memᴰ b.row (rows_of u.combination u.tn spot.direction)) values b.of_map

-- ---- from a sound history to the claim

free_of : (first : Cell) → Begun first → (past : List Made) → Sound first past → Owned past → CollisionFree first past (cell_from first past)
free_of first begun past sound owned =
    record {
      as_listed = refl;
      apart = λ x y spot hd a b. one_spot first begun past sound spot hd x y a b;
      line = λ n v fn d e hf hd. line_is first begun past sound n v e fn hf d hd;
      shown = λ x spot hf hd a. stands_shown first begun past sound x spot hf hd owned a;
      stands = λ x spot hf hd a. shown_stands first begun past sound x spot hf hd owned a;
    }

-- what every run has. That the common lines are in their places is for paging (PageAndLine.antt); that, their training codes and the owners are
-- for WellFormed.antt
pub record Invariant (first : Cell) (r : Run) : Type 0 where
  pub as_listed : r.cell ≡ cell_from first r.past
  pub sound : Sound first r.past
  pub placed : Placed first r.past
  pub owned : Owned r.past
  pub trained : Trained first r.past
  pub owners : Owners r.past

pub collision_free_of : (first : Cell) → Begun first → (r : Run) → Invariant first r → CollisionFree first r.past r.cell
collision_free_of first begun r h = subst (λ (c : Cell). CollisionFree first r.past c) (sym h.as_listed) (free_of first begun r.past h.sound h.owned)

pub begin_keeps : (first : Cell) → Begun first → Invariant first (begin first)
begin_keeps first begun = record { as_listed = begun.nothing_open; sound = sound_first first; placed = placed_first first; owned = owned_first; trained = trained_first first; owners = owners_first }

-- a call whose outcome is the definition's keeps it
pub step_keeps : (first : Cell) (r : Run) → Invariant first r → (x : Call) (s : Step) → s ≡ calling r.cell x → Invariant first (record { cell = s.cell; past = made x s ∷ r.past })
step_keeps first r h x s e =
    let same : calling (cell_from first r.past) x ≡ s = ap (λ (c : Cell). calling c x) (sym h.as_listed) ∙ sym e in
    let k : Kept first r.past h.sound x s = subst (Kept first r.past h.sound x) same (call_kept first r.past h.sound x) in
    record {
      as_listed = k.0;
      sound = k.1;
      placed = subst (λ (t : Step). Placed first (made x t ∷ r.past)) same (call_placed first r.past h.sound h.placed x);
      owned = subst (λ (t : Step). Owned (made x t ∷ r.past)) same (call_owned first r.past h.owned x);
      trained = subst (λ (t : Step). Trained first (made x t ∷ r.past)) same (call_trained first r.past h.trained x);
      owners = subst (λ (t : Step). Owners (made x t ∷ r.past)) same (call_owners first r.past h.sound h.owners x);
    }

pub run_keeps : (first : Cell) (calls : List Call) (r : Run) → Invariant first r → Invariant first (run r calls)
unfolding run
run_keeps first [] r h = h
run_keeps first (x ∷ xs) r h = run_keeps first xs (next r x) (step_keeps first r h x (calling r.cell x) refl)

-- the third demand
pub third_demand : ThirdDemand
unfolding ThirdDemand
third_demand ca c0 bcc ag p calls =
    let begun = start_begun ca c0 bcc ag p in
    collision_free_of first begun (run (begin first) calls) (run_keeps first calls (begin first) (begin_keeps first begun))
  where
    first : Cell
    first = (start_of ca c0 bcc ag p).cell
