-- A channel stands exactly where `line` shows it. Assumes nothing.
use Prim.Native.Nat.{ℕ, ◌<◌}
use mathlib.Core.Path.{◌≡◌, refl, sym, ap, ◌∙◌, subst}
use mathlib.Core.Bool.{true, false, not, cond}
use mathlib.Core.List.Memᴰ
use mathlib.Core.List.{List, [], ◌∷◌, Memᴰ}
use mathlib.Core.Option.{some}
use native.Mathlib.Omega.{arith}
use borrow.Author.Tests.{eqb-true, not-true}
use Rattle.answers.specs.Outcome.{Outcome, accepted}
use Rattle.answers.specs.Ranges.{hyperframe}
use Rattle.answers.proofs.Decide.{decided}
use Rattle.answers.proofs.Tests.{and_left, and_right}
use Rattle.hops.specs.Hopping.{line_arfcn}
use Rattle.maps.specs.Channels.{Standing, is_common}
use Rattle.maps.specs.Combinations.{rows_of}
use Rattle.maps.specs.Rows.{Row, stands, told, standing}
use Rattle.maps.proofs.OneChannel.{one_channel_each_frame}
use Rattle.maps.proofs.Stood.{Stood, stood, standing_stood}
use Rattle.rules.specs.State.{Cell, LineState, Values, line_at, allocation}
use Rattle.rules.specs.OnAir.{Slot, owner_of, slot_of, line_causes, line_of}
use Rattle.rules.specs.History.{Made, opened_with, held_by, cell_from}
use Rattle.rules.specs.Carried.{Channel, subchannel, common_part, line_number, is_held, is_of, Spot, Stands}
use Rattle.rules.specs.CollisionFree.{slot_from, is_owned, Shown}
use Rattle.rules.specs.Claims.{has_owner}
use Rattle.rules.proofs.Sound.{allowed_tn, Sound, open_line, Opened, is_opened}
use Rattle.rules.proofs.Owners.{Owned}
use Rattle.rules.proofs.Begun.{Begun}
use Rattle.rules.proofs.LineAnswer.{line_is}

-- the owner that is shown is that of any burst that stands there
owner_is : (n tn d fn : ℕ) → tn < 8 → d < 2 → (held : ℕ → ℕ) (x : Standing) → Memᴰ x (standing (rows_of n tn d) fn)
    → owner_of held (standing (rows_of n tn d) fn) ≡ cond (is_common x.kind) 0 (held x.subchannel)
unfolding owner_of
owner_is n tn d fn hn hd held x m = go (standing (rows_of n tn d) fn) m (λ y w. one_channel_each_frame tn hn d hd fn n y x w m)
  where
    go : (xs : List Standing) → Memᴰ x xs → ((y : Standing) → Memᴰ y xs → (y.kind ≡ x.kind) × (y.subchannel ≡ x.subchannel))
        → owner_of held xs ≡ cond (is_common x.kind) 0 (held x.subchannel)
    go [] m f = absurd (Memᴰ.not-nil m)
    go (y ∷ ys) m f = let e = f y (Memᴰ.head refl) in rw (e.0, e.1) refl

-- so it has an owner exactly if one is shown
owned : (past : List Made) (x : Channel) (b : Standing) → is_of x b ≡ true → has_owner past x ≡ is_owned x (cond (is_common b.kind) 0 (held_by past (line_number x) b.subchannel))
owned past (subchannel n s) b h =
    let c : is_common b.kind ≡ false = not-true _ (and_left (not (is_common b.kind)) _ h) in
    let e : b.subchannel ≡ s = eqb-true _ _ (and_right (not (is_common b.kind)) _ h) in
    rw (c, e) refl
owned past (common_part n) b h = rw h refl

-- where what is held has an owner, to be held is to have one
pub held_is_owned : (past : List Made) → Owned past → (x : Channel) → is_held past x ≡ has_owner past x
held_is_owned past own (subchannel n s) = own n s
held_is_owned past own (common_part n) = refl

module _ (first : Cell) (begun : Begun first) (past : List Made) (sound : Sound first past) (x : Channel) (spot : Spot) (hf : spot.fn < hyperframe) (hd : spot.direction < 2) where
  abbrev n : ℕ
  n = line_number x

  abbrev cell : Cell
  cell = cell_from first past

  -- what line n shows, where it is open with these values
  abbrev shows : Values → Slot
  shows v = slot_from first past n v spot.fn spot.direction

  held_owned : (v : Values) → opened_with past n ≡ some v → (b : Standing) → Memᴰ b (standing (rows_of v.combination v.tn spot.direction) spot.fn) → is_of x b ≡ true
      → has_owner past x ≡ is_owned x (shows v).owner
  held_owned v e b m h =
      owned past x b h
      ∙ ap (is_owned x) (sym (owner_is v.combination v.tn spot.direction spot.fn (allowed_tn first n v (sound.allowed n v e)) hd (held_by past n) b m))

  tn_is : (v : Values) → opened_with past n ≡ some v → (line_at cell n).tn ≡ v.tn
  tn_is v e = ap (λ (l : LineState). l.tn) (open_line first past sound n v e)

  -- `Stands`, but that the channel has an owner: of any sound history
  pub record StandsOwned : Type 0 where
    pub values : Values
    pub is_open : opened_with past n ≡ some values
    pub held : has_owner past x ≡ true
    pub row : Row
    pub of_map : Memᴰ row (rows_of values.combination values.tn spot.direction)
    pub of_channel : is_of x (told row) ≡ true
    pub in_frame : stands row spot.fn ≡ true
    pub in_timeslot : values.tn ≡ spot.tn
    pub on_arfcn : line_arfcn (allocation first) values.mask values.hsn values.maio spot.fn ≡ spot.arfcn

  pub owned_shown : StandsOwned → Shown cell x spot
  owned_shown a =
      let v = a.values in
      let m = stood (rows_of v.combination v.tn spot.direction) spot.fn a.row a.of_map a.in_frame in
      record {
        slot = shows v;
        answer = line_is first begun past sound n v a.is_open spot.fn hf spot.direction hd;
        burst = told a.row;
        in_frame = m;
        of_channel = a.of_channel;
        owned = sym (held_owned v a.is_open (told a.row) m a.of_channel) ∙ a.held;
        in_timeslot = tn_is v a.is_open ∙ a.in_timeslot;
        on_arfcn = a.on_arfcn;
      }

  -- `line` is accepted of open lines only
  shown_opened : (slot : Slot) → line_of cell n spot.fn spot.direction ≡ accepted slot → Opened first past sound n
  unfolding line_of
  shown_opened slot =
      decided (line_causes cell n spot.fn spot.direction) (slot_of cell (line_at cell n) spot.fn spot.direction) (λ (o : Outcome Slot). o ≡ accepted slot → Opened first past sound n)
      (λ r e. absurd (let z : ◌≡◌ {A = ℕ} 0 1 = cc in omega arith))
      (λ none e. is_opened first past sound n none.0.0 none.1.0.0)

  pub shown_owned : Shown cell x spot → StandsOwned
  shown_owned a =
      record {
        values = v;
        is_open = w.is_open;
        held = held_owned v w.is_open a.burst there a.of_channel ∙ subst (λ (s : Slot). is_owned x s.owner ≡ true) same a.owned;
        row = r.by;
        of_map = r.member;
        of_channel = subst (λ (b : Standing). is_of x b ≡ true) (sym r.tells) a.of_channel;
        in_frame = r.stands;
        in_timeslot = sym (tn_is v w.is_open) ∙ a.in_timeslot;
        on_arfcn = ap (λ (s : Slot). s.tuning.arfcn) (sym same) ∙ a.on_arfcn;
      }
    where
      w : Opened first past sound n
      w = shown_opened a.slot a.answer

      v : Values
      v = w.values

      same : a.slot ≡ shows v
      same =
          let e : accepted a.slot ≡ accepted (shows v) = sym a.answer ∙ line_is first begun past sound n v w.is_open spot.fn hf spot.direction hd in
          let q : a.slot ≡ shows v = cc in q

      there : Memᴰ a.burst (standing (rows_of v.combination v.tn spot.direction) spot.fn)
      there = subst (λ (s : Slot). Memᴰ a.burst s.standing) same a.in_frame

      r : Stood (rows_of v.combination v.tn spot.direction) spot.fn a.burst
      r = standing_stood (rows_of v.combination v.tn spot.direction) spot.fn a.burst there

  -- the same of `Stands`
  module _ (own : Owned past) where
    pub stands_shown : Stands first past x spot → Shown cell x spot
    stands_shown a =
        owned_shown
        (record {
          values = a.values;
          is_open = a.is_open;
          held = sym (held_is_owned past own x) ∙ a.held;
          row = a.row;
          of_map = a.of_map;
          of_channel = a.of_channel;
          in_frame = a.in_frame;
          in_timeslot = a.in_timeslot;
          on_arfcn = a.on_arfcn;
        })

    pub shown_stands : Shown cell x spot → Stands first past x spot
    shown_stands s =
        let a = shown_owned s in
        record {
          values = a.values;
          is_open = a.is_open;
          held = held_is_owned past own x ∙ a.held;
          row = a.row;
          of_map = a.of_map;
          of_channel = a.of_channel;
          in_frame = a.in_frame;
          in_timeslot = a.in_timeslot;
          on_arfcn = a.on_arfcn;
        }
