-- Two rows of one combination, timeslot and direction that stand in one frame are of one channel: the same kind and the same subchannel;
-- and a common part has subchannel 0. Shown once over all maps. Assumes nothing.
use Prim.Native.Nat.{ℕ, ◌<◌}
use mathlib.Core.Path.{◌≡◌, refl, sym, ◌∙◌}
use mathlib.Core.Bool.{Bool, true, false, not, ◌&&◌, ◌||◌}
use mathlib.Core.List.Memᴰ
use mathlib.Core.List.{List, [], ◌∷◌, Memᴰ}
use lib.Dec.{eqb}
use borrow.Author.Tests.{eqb-true}
use Rattle.answers.specs.Search.{all_below}
use Rattle.answers.proofs.Tables.{every}
use Rattle.answers.proofs.Tests.{and_left, and_right, not_both}
use Rattle.maps.specs.Channels.{Standing, is_common}
use Rattle.maps.specs.Rows.{Row, numbered, each, from, standing, stands, told}
use Rattle.maps.specs.Combinations.{full_rate, half_rate, uncombined, combined, additional, sdcch8, combinations, rows_of}
use Rattle.maps.proofs.Same.{same_channel, channel_same}
use Rattle.maps.proofs.Repeat.{repeats, all_frames}
use Rattle.maps.proofs.Stood.{every_member, stood}
use Rattle.maps.proofs.AllMaps.{passes, all_maps}

-- subchannel 0, if it is of a common part
abbrev common_zero : Standing → Bool
common_zero x = not (is_common x.kind) || eqb x.subchannel 0

-- all that stands in a frame is of one channel
unfoldable one_channel : List Standing → Bool
one_channel [] = true
one_channel (x ∷ xs) = every (same_channel x) (x ∷ xs) && every common_zero (x ∷ xs)

tested : every (passes one_channel) combinations ≡ true
unfolding passes all_frames every one_channel repeats all_below numbered each from standing full_rate half_rate uncombined combined additional sdcch8 combinations
tested = refl

module _ (tn : ℕ) (hn : tn < 8) (d : ℕ) (hd : d < 2) (fn : ℕ) (n : ℕ) where
  passed : one_channel (standing (rows_of n tn d) fn) ≡ true
  unfolding one_channel
  passed = all_maps one_channel refl tn hn d hd fn tested n

  -- two of what stands in a frame
  pub one_channel_each_frame : (x y : Standing) → Memᴰ x (standing (rows_of n tn d) fn) → Memᴰ y (standing (rows_of n tn d) fn)
      → (x.kind ≡ y.kind) × (x.subchannel ≡ y.subchannel)
  unfolding one_channel
  one_channel_each_frame x y mx my = go (standing (rows_of n tn d) fn) passed mx my
    where
      go : (xs : List Standing) → one_channel xs ≡ true → Memᴰ x xs → Memᴰ y xs → (x.kind ≡ y.kind) × (x.subchannel ≡ y.subchannel)
      go [] e a b = absurd (Memᴰ.not-nil a)
      go (z ∷ zs) e a b =
          let w = and_left (every (same_channel z) (z ∷ zs)) _ e in
          let p = channel_same z x (every_member (same_channel z) (z ∷ zs) w x a) in
          let q = channel_same z y (every_member (same_channel z) (z ∷ zs) w y b) in
          (sym p.0 ∙ q.0, sym p.1 ∙ q.1)

  -- two rows that stand in it
  pub rows_one_channel : (r q : Row) → Memᴰ r (rows_of n tn d) → Memᴰ q (rows_of n tn d) → stands r fn ≡ true → stands q fn ≡ true
      → (r.kind ≡ q.kind) × (r.subchannel ≡ q.subchannel)
  rows_one_channel r q mr mq hr hq = one_channel_each_frame (told r) (told q) (stood _ fn r mr hr) (stood _ fn q mq hq)

  -- a common part has subchannel 0
  pub common_subchannel : (x : Standing) → Memᴰ x (standing (rows_of n tn d) fn) → is_common x.kind ≡ true → x.subchannel ≡ 0
  unfolding one_channel
  common_subchannel x mx common = go (standing (rows_of n tn d) fn) passed mx
    where
      zero_of : (b : Bool) → b ≡ true → (not b || eqb x.subchannel 0) ≡ true → x.subchannel ≡ 0
      zero_of true c e = eqb-true _ _ e
      zero_of false c e = not_both c refl

      go : (xs : List Standing) → one_channel xs ≡ true → Memᴰ x xs → x.subchannel ≡ 0
      go [] e a = absurd (Memᴰ.not-nil a)
      go (z ∷ zs) e a =
          zero_of (is_common x.kind) common
          (every_member common_zero (z ∷ zs) (and_right (every (same_channel z) (z ∷ zs)) _ e) x a)
