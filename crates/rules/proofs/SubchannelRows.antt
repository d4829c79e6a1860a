-- The subchannels that a combination has (refusal 10) are those of its rows. Assumes nothing.
use Prim.Native.Nat.{ℕ, ◌<◌}
use mathlib.Core.Path.{◌≡◌, refl, sym, subst}
use mathlib.Core.Bool.{Bool, true, false, not, ◌||◌, cond}
use mathlib.Core.List.{List, [], ◌∷◌, Memᴰ}
use native.Mathlib.Decide.{dec_lt}
use native.Mathlib.Omega.{arith}
use lib.Dec.{eqb, ltb}
use borrow.Author.Tests.{eqb-true, ltb-true, ne_eqb}
use Rattle.answers.specs.Search.{all_below}
use Rattle.answers.proofs.Search.{all_at}
use Rattle.answers.proofs.Tables.{every}
use Rattle.answers.proofs.Tests.{and_left, and_right, or_rest, lt_not_ltb}
use Rattle.maps.specs.Channels.{is_common}
use Rattle.maps.specs.Rows.{Row, numbered, each, from}
use Rattle.maps.specs.Combinations.{Combination, full_rate, half_rate, uncombined, combined, additional, sdcch8, combinations, rows_among, rows_of}
use Rattle.maps.proofs.Stood.{every_member}
use Rattle.rules.specs.Calls.{subchannels}
use Rattle.rules.proofs.Lines.{has_room}

-- the row is of the common part, or of a subchannel that the combination has
abbrev fits : ℕ → Row → Bool
fits n r = is_common r.kind || ltb r.subchannel (subchannels n)

-- in this timeslot and direction, so are all rows of each combination
abbrev all_fit : ℕ → ℕ → List Combination → Bool
all_fit tn d cs = every (λ (c : Combination). every (fits c.number) (c.rows tn d)) cs

tested : all_below (λ (tn : ℕ). all_below (λ (d : ℕ). all_fit tn d combinations) 2) 8 ≡ true
unfolding all_below every numbered each from full_rate half_rate uncombined combined additional sdcch8 combinations
tested = refl

module _ (tn : ℕ) (hn : tn < 8) (d : ℕ) (hd : d < 2) (n : ℕ) where
  among : (cs : List Combination) → all_fit tn d cs ≡ true → every (fits n) (rows_among cs n tn d) ≡ true
  unfolding every rows_among
  among [] e = refl
  among (c ∷ cs) e = go (eqb n c.number) refl (among cs (and_right (every (fits c.number) (c.rows tn d)) _ e))
    where
      go : (b : Bool) → eqb n c.number ≡ b → every (fits n) (rows_among cs n tn d) ≡ true → every (fits n) (cond b (c.rows tn d) (rows_among cs n tn d)) ≡ true
      go true q w =
          subst (λ (m : ℕ). every (fits m) (c.rows tn d) ≡ true) (sym (eqb-true n c.number q)) (and_left (every (fits c.number) (c.rows tn d)) _ e)
      go false q w = w

  -- a row that is not of the common part is of a subchannel that the combination has
  pub row_subchannel : (r : Row) → Memᴰ r (rows_of n tn d) → is_common r.kind ≡ false → r.subchannel < subchannels n
  row_subchannel r m c =
      ltb-true _ _ (or_rest (is_common r.kind) _ c
      (every_member (fits n) (rows_of n tn d) (among combinations (all_at (λ (u : ℕ). all_fit tn u combinations) 2 (all_at (λ (t : ℕ). all_below (λ (u : ℕ). all_fit t u combinations) 2) 8 tested tn hn) d hd)) r m))

-- ---- and each of them has rows

-- some row is of subchannel s
abbrev some_row : ℕ → List Row → Bool
some_row s rows = not (every (λ (r : Row). is_common r.kind || not (eqb r.subchannel s)) rows)

abbrev has_rows : ℕ → ℕ → ℕ → ℕ → Bool
has_rows n tn d s = not (ltb s (subchannels n)) || some_row s (rows_of n tn d)

all_tested : all_below (λ (n : ℕ). all_below (λ (tn : ℕ). all_below (λ (d : ℕ). all_below (has_rows n tn d) 8) 2) 8) 8 ≡ true
unfolding all_below every rows_among numbered each from full_rate half_rate uncombined combined additional sdcch8 combinations
all_tested = refl

-- only numbers below 8 have subchannels
below_eight : (n s : ℕ) → s < subchannels n → n < 8
below_eight n s h = go (dec_lt n 8)
  where
    go : Dec (n < 8) → n < 8
    go (yes l) = l
    go (no l) =
        absurd (let e : subchannels n ≡ 0 = rw (ne_eqb n 1 (λ q. omega arith), ne_eqb n 2 (λ q. omega arith), ne_eqb n 5 (λ q. omega arith), ne_eqb n 7 (λ q. omega arith)) refl in omega arith)

-- a subchannel that the combination has, has rows in every timeslot and direction
pub subchannel_row : (n tn d s : ℕ) → tn < 8 → d < 2 → s < subchannels n → some_row s (rows_of n tn d) ≡ true
subchannel_row n tn d s ht hd h =
    or_rest (not (ltb s (subchannels n))) _ (lt_not_ltb s (subchannels n) h)
    (all_at (has_rows n tn d) 8 (all_at (λ (u : ℕ). all_below (has_rows n tn u) 8) 2 (all_at (λ (t : ℕ). all_below (λ (u : ℕ). all_below (has_rows n t u) 8) 2) 8
    (all_at (λ (m : ℕ). all_below (λ (t : ℕ). all_below (λ (u : ℕ). all_below (has_rows m t u) 8) 2) 8) 8 all_tested n (below_eight n s h)) tn ht) d hd)
    s (let m = has_room n in omega (arith, m)))
