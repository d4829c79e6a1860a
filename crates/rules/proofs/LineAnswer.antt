-- What `line` answers of an open line: the ARFCN that the hopping rules give, with MAI and the position, and what the rows of the map have in the frame. Assumes nothing.
use Prim.Native.Nat.{ℕ, ◌<◌}
use mathlib.Core.Path.{◌≡◌, refl, sym, ap, ◌∙◌, subst}
use mathlib.Core.Bool.{Bool, true, false, not, cond}
use mathlib.Core.List.{List, [], ◌∷◌, Memᴰ}
use mathlib.Core.Option.{some}
use native.Mathlib.Omega.{arith}
use lib.Seq.{get_or-take}
use borrow.Author.Tests.{le-ltb, lt-leb}
use Rattle.answers.specs.Outcome.{accepted, any_of}
use Rattle.answers.specs.Ranges.{hyperframe, line_count}
use Rattle.answers.proofs.Decide.{passes, accepts, none_holds}
use Rattle.hops.specs.Hopping.{position_of, line_position, line_selection, line_tuning}
use Rattle.hops.specs.declared.Tuning.{Tuning}
use Rattle.hops.proofs.Apart.{line_within}
use Rattle.maps.specs.Channels.{Standing, is_common}
use Rattle.maps.specs.Combinations.{rows_of}
use Rattle.maps.specs.Map.{out_of_range, map_of}
use Rattle.maps.specs.Rows.{standing}
use Rattle.maps.proofs.Range.{accepted_map}
use Rattle.maps.proofs.Stood.{Stood, standing_stood}
use Rattle.rules.specs.State.{Cell, LineState, Values, owner_room, line_with, is_open, line_at, owner_at, allocation}
use Rattle.rules.specs.OnAir.{tuning_at, in_frame, owner_of, slot_of, line_of}
use Rattle.rules.specs.History.{Made, opened_with, held_by, cell_from}
use Rattle.rules.specs.CollisionFree.{slot_from}
use Rattle.rules.proofs.Begun.{Begun, begun_size}
use Rattle.rules.proofs.Tabulate.{tabulate_at}
use Rattle.rules.proofs.SubchannelRows.{row_subchannel}
use Rattle.rules.proofs.Lines.{has_room, same_slot}
use Rattle.rules.proofs.Sound.{Allowed, allowed_within, allowed_maio, allowed_line, allowed_combination, allowed_tn, allowed_hsn, allowed_open, Sound, open_line}

module _ (first : Cell) (begun : Begun first) (n : ℕ) (v : Values) (a : Allowed first n v) (fn : ℕ) (hf : fn < hyperframe) where
  position : position_of first.size v.mask v.hsn v.maio fn ≡ accepted (line_selection v.mask v.hsn v.maio fn)
  unfolding position_of
  position =
      passes _ _ _ (begun_size first begun, tt)
      ∙ (passes _ _ _ (le-ltb 63 v.hsn (let h = allowed_hsn first n v a in omega (arith, h)), (lt-leb hyperframe fn hf, tt)) ∙ (passes _ _ _ a.mask ∙ (passes _ _ _ a.maio ∙ accepts _)))

  -- the line is tuned to what the hopping rules give
  pub tuning_is : tuning_at first.ca (position_of first.size v.mask v.hsn v.maio fn) ≡ line_tuning (allocation first) v.mask v.hsn v.maio fn
  tuning_is =
      ap (tuning_at first.ca) position
      ∙ ap with_arfcn (sym (get_or-take first.size first.ca (line_position v.mask v.hsn v.maio fn) 0 (line_within v.mask v.hsn v.maio fn (allowed_maio first n v a) first.size (allowed_within first n v a))))
    where
      with_arfcn : ℕ → Tuning
      with_arfcn a = record { arfcn = a; mai = (line_selection v.mask v.hsn v.maio fn).mai; position = line_position v.mask v.hsn v.maio fn }

  module _ (d : ℕ) (hd : d < 2) where
    there : List Standing
    there = standing (rows_of v.combination v.tn d) fn

    in_range : any_of (out_of_range v.combination v.tn fn d) ≡ false
    in_range =
        none_holds (out_of_range v.combination v.tn fn d)
        (allowed_combination first n v a, (le-ltb 7 v.tn (let t = allowed_tn first n v a in omega (arith, t)), (lt-leb hyperframe fn hf, (le-ltb 1 d (omega arith), tt))))

    map_is : in_frame (map_of v.combination v.tn fn d) ≡ there
    unfolding there
    map_is = ap in_frame (accepted_map v.combination v.tn fn d in_range)

    -- the owner of what stands there: its subchannel is one of those that a line has room for
    owner_is : (held : ℕ → ℕ) → owner_of (owner_at (line_with v held)) there ≡ owner_of held there
    unfolding owner_of there
    owner_is held = go (standing (rows_of v.combination v.tn d) fn) (λ x m. standing_stood (rows_of v.combination v.tn d) fn x m)
      where
        go : (xs : List Standing) → ((x : Standing) → Memᴰ x xs → Stood (rows_of v.combination v.tn d) fn x) → owner_of (owner_at (line_with v held)) xs ≡ owner_of held xs
        go [] f = refl
        go (x ∷ xs) f = kind (is_common x.kind) refl
          where
            kind : (b : Bool) → is_common x.kind ≡ b → cond b 0 (owner_at (line_with v held) x.subchannel) ≡ cond b 0 (held x.subchannel)
            kind true e = refl
            kind false e = tabulate_at owner_room held 0 x.subchannel (below (f x (Memᴰ.head refl)))
              where
                below : Stood (rows_of v.combination v.tn d) fn x → x.subchannel < owner_room
                below w = subst (λ (y : Standing). y.subchannel < owner_room) w.tells (let l = row_subchannel v.tn (allowed_tn first n v a) d hd v.combination w.by w.member (ap (λ (y : Standing). is_common y.kind) w.tells ∙ e) in let m = has_room v.combination in omega (arith, l, m))

module _ (first : Cell) (begun : Begun first) (past : List Made) (sound : Sound first past) (n : ℕ) (v : Values) (e : opened_with past n ≡ some v) (fn : ℕ) (hf : fn < hyperframe) (d : ℕ) (hd : d < 2) where
  slot_is : slot_of (cell_from first past) (line_with v (held_by past n)) fn d ≡ slot_from first past n v fn d
  unfolding slot_of cell_from there
  slot_is =
      let a = sound.allowed n v e in
      same_slot (tuning_is first begun n v a fn hf) (map_is first begun n v a fn hf d hd)
      (ap (owner_of (owner_at (line_with v (held_by past n)))) (map_is first begun n v a fn hf d hd) ∙ owner_is first begun n v a fn hf d hd (held_by past n))

  -- `line` of an open line
  pub line_is : line_of (cell_from first past) n fn d ≡ accepted (slot_from first past n v fn d)
  unfolding line_of
  line_is =
      passes _ _ _ (lt-leb line_count n (allowed_line first n v a), (lt-leb hyperframe fn hf, (le-ltb 1 d (omega arith), tt)))
      ∙ (passes _ _ _ (ap not opened, tt)
      ∙ (accepts _ ∙ ap accepted (ap (λ (l : LineState). slot_of (cell_from first past) l fn d) (open_line first past sound n v e) ∙ slot_is)))
    where
      a : Allowed first n v
      a = sound.allowed n v e

      opened : is_open (line_at (cell_from first past) n) ≡ true
      opened = subst (λ (l : LineState). is_open l ≡ true) (sym (open_line first past sound n v e)) (allowed_open first n v a (held_by past n))
