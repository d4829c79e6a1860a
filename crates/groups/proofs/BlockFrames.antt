-- Where the CCCH blocks begin: in one frame of each multiframe, which the frame map has for that burst alone. One test, computed over the 102
-- frames after which the maps of 4, 5 and 6 repeat. Assumes nothing.
use Prim.Native.Nat.{ℕ, ◌%◌, ◌<◌}
use mathlib.Core.Path.{◌≡◌, refl, sym, ap, ◌∙◌, subst}
use mathlib.Core.Bool.{Bool, true, false, not, cond, ◌&&◌, ◌||◌}
use mathlib.Core.List.{List, [], ◌∷◌}
use native.Mathlib.Omega.{arith}
use native.Mathlib.Nat.{mod-lt}
use lib.Dec.{eqb, lit<}
use lib.ListN.{get_or}
use borrow.Author.Tests.{eq-eqb, le-ltb, lt-leb, not-true}
use Rattle.answers.specs.Outcome.{accepted}
use Rattle.answers.specs.Ranges.{hyperframe}
use Rattle.answers.specs.Search.{all_below}
use Rattle.answers.proofs.Decide.{none_holds}
use Rattle.answers.proofs.Search.{all_at}
use Rattle.answers.proofs.Tables.{every, at_most}
use Rattle.answers.proofs.Tests.{and_left, and_right}
use Rattle.maps.specs.declared.Kind.TheVariants.{Ccch}
use Rattle.maps.specs.Channels.{Standing, at}
use Rattle.maps.specs.Combinations.{uncombined, combined, additional, combinations, among, is_combination, rows_among, rows_of}
use Rattle.maps.specs.Map.{out_of_range, map_of}
use Rattle.maps.specs.Rows.{numbered, each, from, standing}
use Rattle.maps.proofs.Range.{accepted_map}
use Rattle.maps.proofs.Repeat.{repeats, standing_mod}
use Rattle.maps.proofs.Same.{same_all, all_same}
use Rattle.groups.specs.Claims.{starts}
use Rattle.groups.specs.Paging.{is_first, any_burst, begins, common_in}

-- a block begins in one of a multiframe's 51 frames
pub start_below : (b : ℕ) → get_or starts b 0 < 51
unfolding every
start_below b = omega (arith, at_most 46 starts refl b)

-- the combinations that have a CCCH, with the number of its blocks
pub data HasCcch : ℕ → ℕ → Type 0 where
  four : HasCcch 4 9
  five : HasCcch 5 3
  six : HasCcch 6 9

-- the common line in a timeslot is one of them
pub common_has : (combined : Bool) (tn : ℕ) → HasCcch (common_in combined tn) (cond combined 3 9)
common_has true tn = five
common_has false tn = go (eqb tn 0)
  where
    go : (t : Bool) → HasCcch (cond t 4 6) 9
    go true = four
    go false = six

-- what stands in a frame where the block begins: its first burst alone; and in another: no such burst
abbrev expected : ℕ → List Standing → Bool → Bool
expected b xs true = same_all xs (at Ccch 0 b 0 ∷ [])
expected b xs false = not (any_burst (is_first b) xs)

-- by the frame's remainder by 51
abbrev right : ℕ → List Standing → ℕ → Bool
right b xs f = expected b xs (eqb f (get_or starts b 0))

module _ (m blocks : ℕ) where
  -- in timeslot 0, which stands for all
  tested : Bool
  tested = repeats 102 (rows_of m 0 0) && all_below (λ (b : ℕ). all_below (λ (f : ℕ). right b (standing (rows_of m 0 0) f) (f % 51)) 102) blocks

pass : {m blocks : ℕ} → HasCcch m blocks → tested m blocks ≡ true
unfolding tested repeats all_below same_all any_burst standing uncombined combined additional combinations rows_among numbered each from
pass four = refl
pass five = refl
pass six = refl

-- the rows are the same in every timeslot
any_timeslot : {m blocks : ℕ} → HasCcch m blocks → (tn : ℕ) → rows_of m tn 0 ≡ rows_of m 0 0
unfolding combinations rows_among
any_timeslot four tn = refl
any_timeslot five tn = refl
any_timeslot six tn = refl

-- a combination's number is no cause to refuse
known : {m blocks : ℕ} → HasCcch m blocks → not (is_combination m) ≡ false
unfolding combinations among
known four = refl
known five = refl
known six = refl

own : (b : ℕ) → any_burst (is_first b) (at Ccch 0 b 0 ∷ []) ≡ true
unfolding any_burst
own b = ap (λ (t : Bool). (t && true) || false) (eq-eqb b b refl)

module _ {m blocks : ℕ} (w : HasCcch m blocks) (tn b : ℕ) (h : b < blocks) (f : ℕ) where
  rightly : right b (standing (rows_of m tn 0) f) (f % 51) ≡ true
  unfolding tested
  rightly =
      let e : f % 102 % 51 ≡ f % 51 = omega arith in
      subst (λ (k : ℕ). right b (standing (rows_of m tn 0) f) k ≡ true) e (subst (λ (xs : List Standing). right b xs (f % 102 % 51) ≡ true) same repeated)
    where
      test : ℕ → ℕ → Bool
      test a k = right a (standing (rows_of m 0 0) k) (k % 51)

      repeated : test b (f % 102) ≡ true
      repeated =
          all_at (test b) 102 (all_at (λ (a : ℕ). all_below (test a) 102) blocks (and_right (repeats 102 (rows_of m 0 0)) _ (pass w)) b h) (f % 102) (mod-lt f (lit< tt))

      same : standing (rows_of m 0 0) (f % 102) ≡ standing (rows_of m tn 0) f
      same =
          standing_mod 102 (rows_of m 0 0) (and_left (repeats 102 (rows_of m 0 0)) _ (pass w)) f
          ∙ ap (λ rows. standing rows f) (sym (any_timeslot w tn))

  -- the block begins in one frame of each multiframe
  pub begins_at : begins m tn b f ≡ eqb (f % 51) (get_or starts b 0)
  unfolding begins
  begins_at = go (eqb (f % 51) (get_or starts b 0)) rightly
    where
      go : (t : Bool) → expected b (standing (rows_of m tn 0) f) t ≡ true → any_burst (is_first b) (standing (rows_of m tn 0) f) ≡ t
      go true e = ap (any_burst (is_first b)) (all_same _ _ e) ∙ own b
      go false e = not-true _ e

  module _ (e : begins m tn b f ≡ true) where
    -- and its first burst stands there alone
    pub stands_alone : standing (rows_of m tn 0) f ≡ at Ccch 0 b 0 ∷ []
    stands_alone = all_same _ _ (subst (λ (t : Bool). expected b (standing (rows_of m tn 0) f) t ≡ true) (sym begins_at ∙ e) rightly)

    pub in_map : tn < 8 → f < hyperframe → map_of m tn f 0 ≡ accepted (at Ccch 0 b 0 ∷ [])
    in_map hn hf =
        accepted_map m tn f 0 (none_holds (out_of_range m tn f 0) (known w, (le-ltb 7 tn (omega arith), (lt-leb hyperframe f hf, (refl, tt)))))
        ∙ ap accepted stands_alone
