-- What each halving of `position_at` keeps, and that one bit is left in the end. Assumes nothing.
use Prim.Native.Nat.{ℕ, suc, ◌+◌, ◌-◌, ◌^◌, ◌≤◌, ◌<◌}
use mathlib.Core.Path.{◌≡◌, refl, sym, ap, subst}
use mathlib.Core.Bool.{Bool, true, false, cond}
use mathlib.Core.List.{[], ◌∷◌}
use native.Mathlib.Numerals.{add-one}
use native.Mathlib.Omega.{arith}
use lib.Dec.{ltb, eqb}
use lib.ListN.{get_or}
use borrow.Author.Tests.{ltb-true, ltb-false, eqb-true}
use Rattle.answers.specs.Search.{all_below}
use Rattle.answers.proofs.Search.{all_at}
use Rattle.hops.specs.Masks.{ones_below, ones, position_at}
use Rattle.select.specs.Helpers.{select_of}
use Rattle.hops.proofs.Bits.{bit_le, ones_mono, position_is}

-- the code's widths of a half, and how many bits are left after k halvings
abbrev half : ℕ → ℕ
half k = get_or (32 ∷ 16 ∷ 8 ∷ 4 ∷ 2 ∷ 1 ∷ []) k 0

abbrev left : ℕ → ℕ
left k = 2 ^ (6 - k)

pub two_halves : (k : ℕ) → k < 6 → half k + half k ≡ left k
unfolding all_below
two_halves k h = eqb-true _ _ (all_at (λ k. eqb (half k + half k) (left k)) 6 refl k h)

pub one_half : (k : ℕ) → k < 6 → left (k + 1) ≡ half k
unfolding all_below
one_half k h = eqb-true _ _ (all_at (λ k. eqb (left (k + 1)) (half k)) 6 refl k h)

-- the one with i ones below it is among the `width` bits from `at` on; if there is none, these are the last
pub record Among (m i at width : ℕ) : Type 0 where
  below : ones_below m at ≤ i
  above : i < ones m → i < ones_below m (at + width)
  last : ones m ≤ i → at + width ≡ 64

pub whole : (m i : ℕ) → Among m i 0 64
unfolding ones_below
whole m i = record { below = omega arith; above = λ h. h; last = λ h. refl }

-- with at most i ones below the middle it is in the upper half of w bits, with more in the lower
module _ (m i at w : ℕ) (x : Among m i at (w + w)) where
  upper : ones_below m (at + w) ≤ i → Among m i (at + w) w
  upper h =
      let e : at + (w + w) ≡ at + w + w = omega arith in
      record {
        below = h;
        above = subst (λ (p : ℕ). i < ones m → i < ones_below m p) e x.above;
        last = subst (λ (p : ℕ). ones m ≤ i → p ≡ 64) e x.last;
      }

  lower : at + (w + w) ≤ 64 → i < ones_below m (at + w) → Among m i at w
  lower r h =
      let all : ones_below m (at + w) ≤ ones m = ones_mono m (omega arith) in
      record { below = x.below; above = λ l. h; last = λ l. absurd (omega arith) }

-- the same of halving k, where `rest` of the 64 bits are not below the first of those
module _ (m i rest k : ℕ) (x : Among m i (64 - rest) (left k)) (turn : k < 6) (all : rest ≤ 64) (room : left k ≤ rest) where
  halves : Among m i (64 - rest) (half k + half k)
  halves = subst (Among m i (64 - rest)) (sym (two_halves k turn)) x

  middle : 64 - rest + half k ≡ 64 - (rest - half k)
  middle = let e = two_halves k turn in omega arith

  pub to_upper : ones_below m (64 - (rest - half k)) ≤ i → Among m i (64 - (rest - half k)) (left (k + 1))
  to_upper h =
      rw (one_half k turn) (subst (λ (p : ℕ). ones_below m p ≤ i → Among m i p (half k)) middle (upper m i (64 - rest) (half k) halves) h)

  pub to_lower : i < ones_below m (64 - (rest - half k)) → Among m i (64 - rest) (left (k + 1))
  to_lower h =
      let e = two_halves k turn in
      rw (one_half k turn)
      (lower m i (64 - rest) (half k) halves (omega arith) (subst (λ (p : ℕ). i < ones_below m p) (sym middle) h))

-- of one bit it is that bit, or the last
one_bit : (m i at : ℕ) → Among m i at 1 → at < 64 → at ≡ select_of m i
unfolding ones_below
one_bit m i at x room = go (ltb i (ones m)) refl
  where
    go : (t : Bool) → ltb i (ones m) ≡ t → at ≡ cond t (position_at m i) 63
    go true e =
        let l = x.below in
        let h : i < ones_below m (suc at) = subst (λ (p : ℕ). i < ones_below m p) (add-one at) (x.above (ltb-true _ _ e)) in
        let b = bit_le m at in
        sym (position_is m i at room (omega arith) (omega arith))
    go false e = let h = x.last (ltb-false _ _ e) in omega arith

pub found : (m i rest k : ℕ) → Among m i (64 - rest) (left k) → rest ≤ 64 → left k ≤ rest → 6 ≤ k → 64 - rest ≡ select_of m i
found m i rest k x all room end =
    let none : 6 - k ≡ 0 = omega arith in
    let e : left k ≡ 1 = ap (λ (n : ℕ). 2 ^ n) none in
    one_bit m i (64 - rest) (subst (Among m i (64 - rest)) e x) (omega arith)
