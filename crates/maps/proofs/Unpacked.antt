-- The eight bytes of an answer of `map` hold it whole: its numbers, and what stands in the frame, can be taken from them. Shown once over all
-- maps. Assumes nothing.
use Prim.Native.Nat.{ℕ, ◌<◌}
use mathlib.Core.Path.{◌≡◌, refl, ap, ◌∙◌}
use mathlib.Core.Bool.{Bool, true, ◌&&◌}
use mathlib.Core.List.{List}
use lib.Dec.{eqb}
use borrow.Author.Tests.{eqb-true}
use Rattle.answers.specs.Search.{all_below}
use Rattle.answers.proofs.Tables.{every}
use Rattle.answers.proofs.Tests.{and_left, and_right}
use Rattle.maps.specs.Channels.{Standing, kind_at}
use Rattle.maps.specs.Rows.{numbered, each, from, standing}
use Rattle.maps.specs.Combinations.{full_rate, half_rate, uncombined, combined, additional, sdcch8, combinations, rows_of}
use Rattle.maps.specs.Numbers.{Numbers, standing_numbers, bytes, numbers_at, standing_of}
use Rattle.maps.proofs.Same.{same_all, all_same}
use Rattle.maps.proofs.Repeat.{repeats, all_frames}
use Rattle.maps.proofs.AllMaps.{passes, all_maps}

abbrev same_numbers : Numbers → Numbers → Bool
same_numbers n m =
    eqb n.refusal m.refusal
    && (eqb n.channel m.channel
    && (eqb n.subchannel m.subchannel
    && (eqb n.blocks m.blocks
    && (eqb n.block m.block && (eqb n.place m.place && (eqb n.block2 m.block2 && eqb n.place2 m.place2))))))

-- both can be taken from the bytes
unfoldable whole : List Standing → Bool
whole xs = same_numbers (numbers_at (bytes (standing_numbers xs))) (standing_numbers xs) && same_all (standing_of (standing_numbers xs)) xs

tested : every (passes whole) combinations ≡ true
unfolding passes all_frames every whole same_all standing_numbers standing_of kind_at repeats all_below numbered each from standing full_rate half_rate uncombined combined additional sdcch8 combinations
tested = refl

-- eight equal numbers make equal answers
unfoldable pub numbers : ℕ → ℕ → ℕ → ℕ → ℕ → ℕ → ℕ → ℕ → Numbers
numbers a b c d f g h i = record { refusal = a; channel = b; subchannel = c; blocks = d; block = f; place = g; block2 = h; place2 = i }

pub eight : {a b c d f g h i a1 b1 c1 d1 f1 g1 h1 i1 : ℕ} → a ≡ a1 → b ≡ b1 → c ≡ c1 → d ≡ d1 → f ≡ f1 → g ≡ g1 → h ≡ h1 → i ≡ i1 → numbers a b c d f g h i ≡ numbers a1 b1 c1 d1 f1 g1 h1 i1
eight ea eb ec ed ef eg eh ei = rw (ea, eb, ec, ed, ef, eg, eh, ei)

numbers_same : (n m : Numbers) → same_numbers n m ≡ true → n ≡ m
unfolding numbers
numbers_same n m e =
    let a : n.refusal ≡ m.refusal = eqb-true _ _ (and_left (eqb n.refusal m.refusal) _ e) in
    let e1 = and_right (eqb n.refusal m.refusal) _ e in
    let b : n.channel ≡ m.channel = eqb-true _ _ (and_left (eqb n.channel m.channel) _ e1) in
    let e2 = and_right (eqb n.channel m.channel) _ e1 in
    let c : n.subchannel ≡ m.subchannel = eqb-true _ _ (and_left (eqb n.subchannel m.subchannel) _ e2) in
    let e3 = and_right (eqb n.subchannel m.subchannel) _ e2 in
    let d : n.blocks ≡ m.blocks = eqb-true _ _ (and_left (eqb n.blocks m.blocks) _ e3) in
    let e4 = and_right (eqb n.blocks m.blocks) _ e3 in
    let f : n.block ≡ m.block = eqb-true _ _ (and_left (eqb n.block m.block) _ e4) in
    let e5 = and_right (eqb n.block m.block) _ e4 in
    let g : n.place ≡ m.place = eqb-true _ _ (and_left (eqb n.place m.place) _ e5) in
    let e6 = and_right (eqb n.place m.place) _ e5 in
    let h : n.block2 ≡ m.block2 = eqb-true _ _ (and_left (eqb n.block2 m.block2) _ e6) in
    let i : n.place2 ≡ m.place2 = eqb-true _ _ (and_right (eqb n.block2 m.block2) _ e6) in
    eight a b c d f g h i

module _ (tn : ℕ) (hn : tn < 8) (d : ℕ) (hd : d < 2) (fn : ℕ) (n : ℕ) where
  passed : whole (standing (rows_of n tn d) fn) ≡ true
  unfolding whole standing_numbers same_all standing_of
  passed = all_maps whole refl tn hn d hd fn tested n

  pub numbers_back : numbers_at (bytes (standing_numbers (standing (rows_of n tn d) fn))) ≡ standing_numbers (standing (rows_of n tn d) fn)
  unfolding whole
  numbers_back = numbers_same _ _ (and_left (same_numbers (numbers_at (bytes (standing_numbers (standing (rows_of n tn d) fn)))) (standing_numbers (standing (rows_of n tn d) fn))) _ passed)

  pub standing_back : standing_of (numbers_at (bytes (standing_numbers (standing (rows_of n tn d) fn)))) ≡ standing (rows_of n tn d) fn
  unfolding whole
  standing_back =
      ap standing_of numbers_back
      ∙ all_same _ _ (and_right (same_numbers (numbers_at (bytes (standing_numbers (standing (rows_of n tn d) fn)))) (standing_numbers (standing (rows_of n tn d) fn))) _ passed)
