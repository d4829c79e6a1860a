-- The laws of a mask's bits: counts of ones, and which words have one. Assumes nothing.
use Prim.Native.Nat.{ℕ, zero, suc, ◌+◌, ◌*◌, ◌/◌, ◌%◌, ◌^◌, ◌-◌, ◌≤◌, ◌<◌, min}
use mathlib.Core.Path.{◌≡◌, refl, sym, ap, ◌∙◌, subst, fun_ext}
use mathlib.Core.Bool.{Bool, true, false, not, ◌&&◌}
use mathlib.Core.Logic.{◌⊎◌, inl, inr, ⊎_elim}
use native.Mathlib.Nat.{mod-lt, mul-mod_left, mod-one, mod-eq_of_lt, add-zero, add-suc, not-suc-le-zero, le_refl, zero-div, zero-mul, add-sub_of_le, lt_of_lt_of_le, div-eq_of_lt, pow-suc}
use native.Mathlib.Numerals.{one-add}
use native.Mathlib.Omega.{arith}
use native.Mathlib.Decide.{dec_lt}
use lib.Bits.{bit_and, and_shr, and_step, and_lt}
use lib.Count as Count
use lib.Dec.{eqb, leb, lit<}
use lib.Pow.{pow_pos, pow_mono, split, mod-pow-add, shl-shr, shr-shr}
use borrow.Author.Tests.{eq-eqb, ne_eqb, eqb-true, eqb-false, le-leb, lt-leb, leb-true}
use Rattle.answers.specs.Search.{any_below}
use Rattle.answers.proofs.Search.{any_at, any_none, least_at, First, first_or_none}
use Rattle.answers.proofs.Tests.{and_both, and_left, and_right, and_sym, not_both, refute}
use Rattle.hops.specs.Masks.{bit, contains, ones_below, ones, position_at, one_at_or_above, share_one}

one_is_not_zero : ◌≡◌ {A = ℕ} 1 0 → ⊥
one_is_not_zero e = omega arith

-- ---- one bit

pub bit_le : (m p : ℕ) → bit m p ≤ 1
bit_le m p = omega arith

bit_cases : (m p : ℕ) → (bit m p ≡ 0) ⊎ (bit m p ≡ 1)
bit_cases m p = go (bit m p) (bit_le m p)
  where
    go : (b : ℕ) → b ≤ 1 → (b ≡ 0) ⊎ (b ≡ 1)
    go zero h = inl refl
    go (suc b) h = inr (omega arith)

pub contains_bit : (m p : ℕ) → contains m p ≡ true → bit m p ≡ 1
contains_bit m p h = eqb-true _ _ h

pub bit_contains : (m p : ℕ) → bit m p ≡ 1 → contains m p ≡ true
bit_contains m p h = eq-eqb _ _ h

pub lacks_bit : (m p : ℕ) → contains m p ≡ false → bit m p ≡ 0
lacks_bit m p h = ⊎_elim (λ e. e) (λ e. not_both (bit_contains m p e) h) (bit_cases m p)

pub bit_lacks : (m p : ℕ) → bit m p ≡ 0 → contains m p ≡ false
bit_lacks m p h = ne_eqb _ _ (λ (e : bit m p ≡ 1). omega arith)

-- bit p + a of m is bit p of m without its lowest a bits
pub bit_shift : (m a p : ℕ) → bit m (a + p) ≡ bit (m / 2 ^ a) p
bit_shift m a p = ap (λ (x : ℕ). x % 2) (sym (shr-shr m a p))

-- the lowest p + 1 bits: bit p, and the p below it
pub low_step : (m p : ℕ) → m % 2 ^ suc p ≡ bit m p * 2 ^ p + m % 2 ^ p
low_step m p = ap (λ (k : ℕ). m % 2 ^ k) (sym (one-add p)) ∙ mod-pow-add m 1 p

-- ---- a word with no one is zero

pub no_one_low : (m k : ℕ) → ((p : ℕ) → p < k → bit m p ≡ 0) → m % 2 ^ k ≡ 0
no_one_low m zero f = mod-one m
no_one_low m (suc k) f =
    low_step m k ∙ (let e : bit m k ≡ 0 = f k (omega arith) in
    let r : m % 2 ^ k ≡ 0 = no_one_low m k (λ p h. f p (omega arith)) in
    rw (e, r) (omega arith))

-- a word below 2 ^ k that is not zero has a one below bit k
pub some_one : (m k : ℕ) → m < 2 ^ k → (m ≡ 0 → ⊥) → First (contains m) k
some_one m k h z =
    ⊎_elim (λ w. w) (λ f. absurd (z (sym (mod-eq_of_lt h) ∙ no_one_low m k (λ p l. lacks_bit m p (f p l))))) (first_or_none (contains m) k)

pub zero_bit : (p : ℕ) → bit 0 p ≡ 0
zero_bit p = ap (λ (x : ℕ). x % 2) (zero-div (2 ^ p))

-- ---- counts

ones_grow : (m p q : ℕ) → ones_below m p ≤ ones_below m (p + q)
unfolding ones_below
ones_grow m p zero = rw add-zero (le_refl _)
ones_grow m p (suc q) = rw add-suc (let h = ones_grow m p q in omega arith)

pub ones_mono : (m : ℕ) {p q : ℕ} → p ≤ q → ones_below m p ≤ ones_below m q
ones_mono m {p} {q} h = subst (λ (k : ℕ). ones_below m p ≤ ones_below m k) (add-sub_of_le h) (ones_grow m p (q - p))

pub ones_at_most : (m p : ℕ) → ones_below m p ≤ p
unfolding ones_below
ones_at_most m zero = omega arith
ones_at_most m (suc p) = let h = ones_at_most m p in let b = bit_le m p in omega arith

-- a one at p counts above p
pub ones_past : (m : ℕ) {p q : ℕ} → bit m p ≡ 1 → p < q → ones_below m p + 1 ≤ ones_below m q
unfolding ones_below
ones_past m {p} {q} e h = let w : ones_below m (suc p) ≤ ones_below m q = ones_mono m h in omega arith

-- the ones below bit a + p: those below bit a, and those of the rest
pub ones_shift : (m a p : ℕ) → ones_below m (a + p) ≡ ones_below m a + ones_below (m / 2 ^ a) p
unfolding ones_below
ones_shift m a zero = rw (add-zero, add-zero)
ones_shift m a (suc p) = rw (add-suc) (let h = ones_shift m a p in let e = bit_shift m a p in omega arith)

ones_bit : (b : ℕ) → b ≤ 1 → Count.ones b ≡ b
unfolding Count.ones Count.ones_in
ones_bit zero h = refl
ones_bit (suc zero) h = refl
ones_bit (suc (suc b)) h = absurd (omega arith)

-- the machine's count of the lowest k bits
ones_count : (m k : ℕ) → Count.ones (m % 2 ^ k) ≡ ones_below m k
unfolding ones_below
ones_count m zero = ap Count.ones (mod-one m) ∙ ones_bit 0 (omega arith)
ones_count m (suc k) =
    let a = ones_count m k in
    let b = ones_bit (bit m k) (bit_le m k) in
    let e = Count.ones_cat k (bit m k) (m % 2 ^ k) (mod-lt m (pow_pos k)) in
    ap Count.ones (low_step m k) ∙ (e ∙ (let z : Count.ones (bit m k) + Count.ones (m % 2 ^ k) ≡ ones_below m k + bit m k = omega arith in z))

pub count_ones : (m : ℕ) → m < 2 ^ 64 → Count.ones m ≡ ones m
count_ones m h = ap Count.ones (sym (mod-eq_of_lt h)) ∙ ones_count m 64

-- of n bits, shifted up by n - p, the lowest p are left: the machine's count of them
pub ones_shifted_up : (m n p : ℕ) → p ≤ n → Count.ones (m * 2 ^ (n - p) % 2 ^ n) ≡ ones_below m p
ones_shifted_up m n p h =
    let k = n - p in
    let a = m * 2 ^ k in
    let whole : a % 2 ^ n ≡ a / 2 ^ k % 2 ^ p * 2 ^ k + a % 2 ^ k = ap (λ (x : ℕ). a % 2 ^ x) (sym (add-sub_of_le h)) ∙ mod-pow-add a p k in
    let above : Count.ones (a / 2 ^ k % 2 ^ p) ≡ ones_below m p = ap (λ (x : ℕ). Count.ones (x % 2 ^ p)) (shl-shr m k) ∙ ones_count m p in
    let under : Count.ones (a % 2 ^ k) ≡ 0 = ap Count.ones (mul-mod_left m (2 ^ k)) ∙ ones_bit 0 (omega arith) in
    ap Count.ones whole ∙ (Count.ones_cat k (a / 2 ^ k % 2 ^ p) (a % 2 ^ k) (mod-lt a (pow_pos k)) ∙ (omega arith))

-- ---- the bit that has i ones below it

abbrev Wanted : ℕ → ℕ → ℕ → Bool
Wanted m i p = contains m p && eqb (ones_below m p) i

-- below q no bit has i ones below it, where at most i ones stand below q
too_few : (m i q : ℕ) → ones_below m q ≤ i → (k : ℕ) → k < q → Wanted m i k ≡ false
too_few m i q h k l = go (contains m k) refl
  where
    go : (t : Bool) → contains m k ≡ t → (t && eqb (ones_below m k) i) ≡ false
    go true e = ne_eqb _ _ (λ (q' : ones_below m k ≡ i). let w = ones_past m (contains_bit m k e) l in omega arith)
    go false e = refl

pub position_is : (m i p : ℕ) → p < 64 → bit m p ≡ 1 → ones_below m p ≡ i → position_at m i ≡ p
unfolding position_at
position_is m i p h b o =
    least_at (Wanted m i) 64 64 p h (and_both (bit_contains m p b) (eq-eqb _ _ o)) (too_few m i p (omega arith))

-- p is a one of the mask with i ones below it
pub record OneAt (m i p : ℕ) : Type 0 where
  pub below : p < 64
  pub one : bit m p ≡ 1
  pub rank : ones_below m p ≡ i

-- where there are more than i ones below k, one of them has i ones below it
one_below : (m i k : ℕ) → k ≤ 64 → i < ones_below m k → (p : ℕ) × OneAt m i p
unfolding ones_below
one_below m i zero l h = absurd (not-suc-le-zero h)
one_below m i (suc k) l h = go (dec_lt i (ones_below m k)) (one_below m i k (omega arith))
  where
    go : Dec (i < ones_below m k) → (i < ones_below m k → (p : ℕ) × OneAt m i p) → (p : ℕ) × OneAt m i p
    go (yes w) more = more w
    go (no w) more =
        let b = bit_le m k in
        (k, record { below = l; one = omega arith; rank = omega arith })

-- so the position of each MAI below N is a one with MAI ones below it
pub position_one : (m i : ℕ) → i < ones m → OneAt m i (position_at m i)
position_one m i h =
    let w = one_below m i 64 (le_refl 64) h in
    let o = w.1 in
    subst (λ (p : ℕ). OneAt m i p) (sym (position_is m i w.0 o.below o.one o.rank)) o

-- ---- masks that share a one

bit_of_and : (a b p : ℕ) → bit (bit_and a b) p ≡ min (bit a p) (bit b p)
bit_of_and a b p =
    let e = and_step (a / 2 ^ p) (b / 2 ^ p) in
    let x = bit_le a p in
    let y = bit_le b p in
    ap (λ (n : ℕ). n % 2) (and_shr a b p ∙ e) ∙ (let z : (bit_and (a / 2 ^ p / 2) (b / 2 ^ p / 2) * 2 + min (bit a p) (bit b p)) % 2 ≡ min (bit a p) (bit b p) = omega arith in z)

-- both masks contain p: so does the AND of the masks
both_one : (a b p : ℕ) → (contains a p && contains b p) ≡ true → bit (bit_and a b) p ≡ 1
both_one a b p h =
    let x = contains_bit a p (and_left (contains a p) (contains b p) h) in
    let y = contains_bit b p (and_right (contains a p) (contains b p) h) in
    bit_of_and a b p ∙ (omega arith)

one_both : (a b p : ℕ) → bit (bit_and a b) p ≡ 1 → (contains a p && contains b p) ≡ true
one_both a b p h =
    let e = bit_of_and a b p in
    let x = bit_le a p in
    let y = bit_le b p in
    and_both (bit_contains a p (omega arith)) (bit_contains b p (omega arith))

-- the AND of two masks is zero exactly if they share no one
pub share_and : (a b : ℕ) → a < 2 ^ 64 → b < 2 ^ 64 → not (eqb (bit_and a b) 0) ≡ share_one a b
unfolding share_one
share_and a b ha hb = go (eqb (bit_and a b) 0) refl
  where
    go : (t : Bool) → eqb (bit_and a b) 0 ≡ t → not t ≡ any_below (λ p. contains a p && contains b p) 64
    go true e =
        sym (any_none (λ p. contains a p && contains b p) 64 (λ p l.
        refute (contains a p && contains b p) (λ h.
        one_is_not_zero (sym (both_one a b p h) ∙ (ap (λ (n : ℕ). bit n p) (eqb-true _ _ e) ∙ zero_bit p)))))
    go false e =
        let w = some_one (bit_and a b) 64 (and_lt 64 a b ha hb) (eqb-false _ _ e) in
        sym (any_at (λ p. contains a p && contains b p) 64 w.place w.below (one_both a b w.place (contains_bit (bit_and a b) w.place w.passes)))

pub share_sym : (a b : ℕ) → share_one a b ≡ share_one b a
unfolding share_one
share_sym a b = ap (λ (test : ℕ → Bool). any_below test 64) (fun_ext (λ p. and_sym (contains a p) (contains b p)))

-- ---- a one at or above a length

-- something is left of a mask that is not below 2 ^ n
rest_left : (m n : ℕ) → 2 ^ n ≤ m → m / 2 ^ n ≡ 0 → ⊥
rest_left m n h e = let w = split m n in let l = mod-lt m (pow_pos n) in let z : m / 2 ^ n * 2 ^ n ≡ 0 = ap (λ (x : ℕ). x * 2 ^ n) e ∙ zero-mul (2 ^ n) in omega arith

lt_pow : (k : ℕ) → k < 2 ^ k
lt_pow zero = lit< tt
lt_pow (suc k) = let h = lt_pow k in let e : 2 ^ suc k ≡ 2 ^ k * 2 = pow-suc 2 k in omega arith

high_bit : (m n p : ℕ) → n ≤ p → bit m p ≡ bit (m / 2 ^ n) (p - n)
high_bit m n p h = ap (λ (k : ℕ). bit m k) (sym (add-sub_of_le h)) ∙ bit_shift m n (p - n)

-- what is left of a mask without its lowest n bits is zero exactly if the mask is below 2 ^ n
pub above_shift : (m n : ℕ) → m < 2 ^ 64 → n < 64 → not (eqb (m / 2 ^ n) 0) ≡ one_at_or_above m n
unfolding one_at_or_above
above_shift m n hm hn = go (dec_lt m (2 ^ n))
  where
    go : Dec (m < 2 ^ n) → not (eqb (m / 2 ^ n) 0) ≡ leb (2 ^ n) m
    go (yes l) = ap not (eq-eqb _ _ (div-eq_of_lt l)) ∙ sym (lt-leb _ _ l)
    go (no l) = ap not (ne_eqb _ _ (rest_left m n (omega arith))) ∙ sym (le-leb _ _ (omega arith))

-- a mask of 64 bits has no one at or above 64
pub above_none : (m n : ℕ) → m < 2 ^ 64 → 64 ≤ n → one_at_or_above m n ≡ false
unfolding one_at_or_above
above_none m n h l = lt-leb _ _ (lt_of_lt_of_le h (pow_mono l))

-- of masks of any length: exactly where some bit at or above n is one
pub above_bit : (m n p : ℕ) → n ≤ p → bit m p ≡ 1 → one_at_or_above m n ≡ true
unfolding one_at_or_above
above_bit m n p l e = go (dec_lt m (2 ^ p))
  where
    go : Dec (m < 2 ^ p) → leb (2 ^ n) m ≡ true
    go (yes h) = absurd (one_is_not_zero (sym e ∙ ap (λ (x : ℕ). x % 2) (div-eq_of_lt h)))
    go (no h) = le-leb _ _ (let w : 2 ^ n ≤ 2 ^ p = pow_mono l in omega arith)

pub bit_above : (m n : ℕ) → one_at_or_above m n ≡ true → (p : ℕ) × (n ≤ p) × (bit m p ≡ 1)
unfolding one_at_or_above
bit_above m n h =
    let k = m / 2 ^ n in
    let w = some_one k k (lt_pow k) (rest_left m n (leb-true _ _ h)) in
    (n + w.place, (let z : n ≤ n + w.place = omega arith in z), bit_shift m n w.place ∙ contains_bit k w.place w.passes)

pub bit_past : (m p : ℕ) → m < 2 ^ 64 → 64 ≤ p → bit m p ≡ 0
bit_past m p hm h =
    high_bit m 64 p h ∙ (ap (λ (k : ℕ). bit k (p - 64)) (div-eq_of_lt hm) ∙ zero_bit (p - 64))
