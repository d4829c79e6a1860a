-- Two lines of one timeslot that do not clash have different ARFCNs in every frame. First where one line stands, then two lines. Assumes nothing.
use Prim.Native.Nat.{ℕ, zero, suc, ◌+◌, ◌-◌, ◌%◌, ◌≤◌, ◌<◌}
use mathlib.Core.Path.{◌≡◌, refl, sym, ap, ◌∙◌, subst}
use mathlib.Core.Bool.{Bool, true, false, not, ◌&&◌}
use mathlib.Core.List.{List}
use mathlib.Core.Logic.{◌⊎◌, inl, inr, ⊎_elim}
use native.Mathlib.Nat.{mod-lt, mod-eq_of_lt, mod-add-mod, add-mod_right, not-suc-le-zero, eq-or-lt_of_le, le_of_suc-le-suc}
use native.Mathlib.Decide.{dec_lt}
use native.Mathlib.Omega.{arith}
use lib.Dec.{ltb, eqb, eqb-suc-zero}
use lib.ListN.{length, get_or}
use borrow.Author.Tests.{ltb-false, eqb-true, eqb-false, eq-eqb, not-true, not-false}
use Rattle.answers.specs.Ranges.{no_arfcn, no_size}
use Rattle.answers.proofs.Search.{all_at, any_at}
use Rattle.answers.proofs.Tests.{and_left, and_right, and_both, and_rest, or_right, or_none_left, or_rest, not_both, refute, eqb_sym}
use Rattle.clock.specs.Clock.{parts_of}
use Rattle.hops.specs.Masks.{bit, contains, ones, ones_below, one_at_or_above, share_one}
use Rattle.hops.specs.Allocation.{in_place, is_allocation, precedes}
use Rattle.hops.specs.Hopping.{S, mai_of, line_position, line_arfcn}
use Rattle.hops.specs.Clash.{Physical, clash}
use Rattle.hops.proofs.Order.{Before, before, before_trans, before_irreflexive}
use Rattle.hops.proofs.Bits.{OneAt, position_one, bit_contains, above_bit, share_sym}
use Rattle.hops.proofs.Mai.{mai_lt, mai_cyclic, mai_random}

-- ---- one line

module _ (m hsn maio fn : ℕ) (h : maio < ones m) where
  -- the position of a line is a one of its mask, with MAI ones below it
  pub line_one : OneAt m (mai_of (ones m) hsn maio fn) (line_position m hsn maio fn)
  line_one = position_one m (mai_of (ones m) hsn maio fn) (mai_lt (ones m) hsn maio fn (omega arith))

  -- and below the cell allocation's length
  pub line_within : (n : ℕ) → one_at_or_above m n ≡ false → line_position m hsn maio fn < n
  line_within n a = go (dec_lt p n)
    where
      p : ℕ
      p = line_position m hsn maio fn

      go : Dec (p < n) → p < n
      go (yes l) = l
      go (no l) = not_both (above_bit m n p (omega arith) line_one.one) a

-- ---- one mask and HSN, two MAIOs

-- y below 2 n leaves the remainder y, or y less n
wrap : (y n : ℕ) → y < n + n → (y % n ≡ y) ⊎ (y % n + n ≡ y)
wrap y n h = go (dec_lt y n)
  where
    go : Dec (y < n) → (y % n ≡ y) ⊎ (y % n + n ≡ y)
    go (yes l) = inl (mod-eq_of_lt l)
    go (no l) =
        let e : (y - n) + n ≡ y = omega arith in
        let q : y % n ≡ y - n = ap (λ (k : ℕ). k % n) (sym e) ∙ (add-mod_right (y - n) n ∙ mod-eq_of_lt (let b : y - n < n = omega arith in b)) in
        inr (omega arith)

-- what is added to one number and leaves one remainder is one number
same_offset : (x a b n : ℕ) → a < n → b < n → (x + a) % n ≡ (x + b) % n → a ≡ b
same_offset x a b n ha hb e =
    let s = x % n in
    let l : x % n < n = mod-lt x (omega arith) in
    let q : (x % n + a) % n ≡ (x % n + b) % n = mod-add-mod x n a ∙ (e ∙ sym (mod-add-mod x n b)) in
    ⊎_elim (λ (u : (x % n + a) % n ≡ x % n + a). ⊎_elim (λ (v : (x % n + b) % n ≡ x % n + b). omega arith) (λ (v : (x % n + b) % n + n ≡ x % n + b). omega arith) (wrap (x % n + b) n (omega arith)))
    (λ (u : (x % n + a) % n + n ≡ x % n + a). ⊎_elim (λ (v : (x % n + b) % n ≡ x % n + b). omega arith) (λ (v : (x % n + b) % n + n ≡ x % n + b). omega arith) (wrap (x % n + b) n (omega arith)))
    (wrap (x % n + a) n (omega arith))

-- equal MAI, mask and HSN: equal MAIO
pub mai_apart : (n hsn a b fn : ℕ) → a < n → b < n → mai_of n hsn a fn ≡ mai_of n hsn b fn → a ≡ b
mai_apart n hsn a b fn ha hb e = go (eqb hsn 0) refl
  where
    go : (t : Bool) → eqb hsn 0 ≡ t → a ≡ b
    go true z = let q = eqb-true _ _ z in same_offset fn a b n ha hb (mai_cyclic n hsn a fn q ∙ (e ∙ sym (mai_cyclic n hsn b fn q)))
    go false z =
        let q = eqb-false _ _ z in
        same_offset (S n hsn (parts_of fn)) a b n ha hb (mai_random n hsn a fn q ∙ (e ∙ sym (mai_random n hsn b fn q)))

-- equal mask and HSN and different MAIO below N: different positions in every frame
pub maio_apart : (m hsn a b fn : ℕ) → a < ones m → b < ones m → line_position m hsn a fn ≡ line_position m hsn b fn → a ≡ b
maio_apart m hsn a b fn ha hb e =
    let x = (line_one m hsn a fn ha).rank in
    let y = (line_one m hsn b fn hb).rank in
    mai_apart (ones m) hsn a b fn ha hb (sym x ∙ (ap (λ (p : ℕ). ones_below m p) e ∙ y))

-- ---- two masks

-- masks that share no one never give the same position
pub mask_apart : (m k hsn hsn' a b fn : ℕ) → a < ones m → b < ones k → share_one m k ≡ false → line_position m hsn a fn ≡ line_position k hsn' b fn → ⊥
unfolding share_one
mask_apart m k hsn hsn' a b fn ha hb n e =
    let x = line_one m hsn a fn ha in
    let y = line_one k hsn' b fn hb in
    let p = line_position m hsn a fn in
    not_both
    (any_at (λ (q : ℕ). contains m q && contains k q) 64 p x.below
    (and_both (bit_contains m p x.one) (bit_contains k p (ap (λ (q : ℕ). bit k q) e ∙ y.one)))) n

-- ---- the cell allocation

module _ (ca : List ℕ) (h : is_allocation ca ≡ true) where
  pub sized : no_size (length ca) ≡ false
  unfolding is_allocation
  sized = not-true _ (and_left (not (no_size (length ca))) _ h)

  pub at_most_64 : length ca ≤ 64
  at_most_64 = ltb-false _ _ (refute (ltb 64 (length ca)) (λ t. not_both (or_right (eqb (length ca) 0) t) sized))

  pub at_least_1 : 1 ≤ length ca
  at_least_1 = let z = eqb-false (length ca) 0 (or_none_left (eqb (length ca) 0) _ sized) in omega (arith, z)

  pub placed : (k : ℕ) → k < length ca → in_place ca k ≡ true
  unfolding is_allocation
  placed k l = all_at (in_place ca) (length ca) (and_right (not (no_size (length ca))) _ h) k l

  -- every entry is an ARFCN
  pub entry_arfcn : (k : ℕ) → k < length ca → get_or ca k 0 < 1024
  entry_arfcn k l = let e = ltb-false _ _ (not-true _ (and_left (not (no_arfcn (get_or ca k 0))) _ (placed k l))) in omega arith

  next : (k : ℕ) → suc k < length ca → Before (get_or ca k 0) (get_or ca (suc k) 0)
  next k l =
      let order : precedes (get_or ca (suc k - 1) 0) (get_or ca (suc k) 0) ≡ true =
      or_rest (eqb (suc k) 0) _ (eqb-suc-zero k) (and_right (not (no_arfcn (get_or ca (suc k) 0))) _ (placed (suc k) l)) in
      subst (λ (i : ℕ). Before (get_or ca i 0) (get_or ca (suc k) 0)) (let e : suc k - 1 ≡ k = omega arith in e) (before _ _ order)

  -- an entry comes before each later one
  pub comes_before : (i j : ℕ) → i < j → j < length ca → Before (get_or ca i 0) (get_or ca j 0)
  comes_before i zero l r = absurd (not-suc-le-zero l)
  comes_before i (suc j) l r =
      ⊎_elim (λ (e : i ≡ j). subst (λ (k : ℕ). Before (get_or ca k 0) (get_or ca (suc j) 0)) (sym e) (next j r))
      (λ (b : i < j). before_trans _ _ _ (comes_before i j b (omega arith)) (next j r)) (eq-or-lt_of_le (le_of_suc-le-suc l))

  -- different positions have different ARFCNs
  pub entry_apart : (i j : ℕ) → i < length ca → j < length ca → get_or ca i 0 ≡ get_or ca j 0 → i ≡ j
  entry_apart i j hi hj e = go (dec_lt i j) (dec_lt j i)
    where
      go : Dec (i < j) → Dec (j < i) → i ≡ j
      go (yes l) d = absurd (before_irreflexive _ (subst (λ (a : ℕ). Before a (get_or ca j 0)) e (comes_before i j l hj)))
      go (no l) (yes r) = absurd (before_irreflexive _ (subst (Before (get_or ca j 0)) e (comes_before j i r hi)))
      go (no l) (no r) = omega arith

-- ---- two lines

-- what an open line has: a mask within the cell allocation, and MAIO below N
pub record Fit (ca : List ℕ) (v : Physical) : Type 0 where
  pub within : one_at_or_above v.mask (length ca) ≡ false
  pub maio_below : v.maio < ones v.mask

-- whichever is named first
pub clash_sym : (v w : Physical) → clash v w ≡ clash w v
unfolding clash
clash_sym v w =
    let slots = eqb_sym v.tn w.tn in
    let shared = share_sym v.mask w.mask in
    let masks = eqb_sym v.mask w.mask in
    let hsns = eqb_sym v.hsn w.hsn in
    let maios = eqb_sym v.maio w.maio in
    cc

-- two lines of one timeslot that do not clash share no one, or differ in MAIO alone
Parted : Physical → Physical → Type 0
Parted v w = (share_one v.mask w.mask ≡ false) ⊎ ((v.mask ≡ w.mask) × (v.hsn ≡ w.hsn) × (v.maio ≡ w.maio → ⊥))

parted : (v w : Physical) → v.tn ≡ w.tn → clash v w ≡ false → Parted v w
unfolding clash Parted
parted v w t c = go (share_one v.mask w.mask) refl
  where
    masks : Bool
    masks = eqb v.mask w.mask

    hsns : Bool
    hsns = eqb v.hsn w.hsn

    maios : Bool
    maios = eqb v.maio w.maio

    go : (s : Bool) → share_one v.mask w.mask ≡ s → Parted v w
    go false e = inl e
    go true e =
        let same : (masks && hsns && not maios) ≡ true = not-false _ (and_rest (eqb v.tn w.tn && share_one v.mask w.mask) _ (and_both (eq-eqb _ _ t) e) c) in
        let both = and_left (masks && hsns) (not maios) same in
        inr (eqb-true _ _ (and_left masks hsns both), eqb-true _ _ (and_right masks hsns both), eqb-false _ _ (not-true maios (and_right (masks && hsns) (not maios) same)))

-- two lines of one timeslot that do not clash have different ARFCNs in every frame
pub apart : (ca : List ℕ) (v w : Physical) → is_allocation ca ≡ true → Fit ca v → Fit ca w → v.tn ≡ w.tn → clash v w ≡ false
    → (fn : ℕ) → line_arfcn ca v.mask v.hsn v.maio fn ≡ line_arfcn ca w.mask w.hsn w.maio fn → ⊥
unfolding Parted
apart ca v w a fv fw t c fn e = ⊎_elim no_share one_mask (parted v w t c)
  where
    p : ℕ
    p = line_position v.mask v.hsn v.maio fn

    q : ℕ
    q = line_position w.mask w.hsn w.maio fn

    same : p ≡ q
    same =
        entry_apart ca a p q (line_within v.mask v.hsn v.maio fn fv.maio_below (length ca) fv.within)
        (line_within w.mask w.hsn w.maio fn fw.maio_below (length ca) fw.within) e

    no_share : share_one v.mask w.mask ≡ false → ⊥
    no_share n = mask_apart v.mask w.mask v.hsn w.hsn v.maio w.maio fn fv.maio_below fw.maio_below n same

    one_mask : (v.mask ≡ w.mask) × (v.hsn ≡ w.hsn) × (v.maio ≡ w.maio → ⊥) → ⊥
    one_mask s =
        s.2 (maio_apart v.mask v.hsn v.maio w.maio fn fv.maio_below (subst (λ (m : ℕ). w.maio < ones m) (sym s.0) fw.maio_below)
        (same ∙ (cc (s.0, s.1))))
