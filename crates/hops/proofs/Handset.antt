-- The cell allocation is the list that a handset makes of its ARFCNs, and each such list is one: specs/Handset.antt. Assumes nothing.
use Prim.Native.Nat.{ℕ, zero, suc, ◌+◌, ◌-◌, ◌≤◌, ◌<◌}
use mathlib.Core.Path.{◌≡◌, refl, sym, ap, ◌∙◌, subst}
use mathlib.Core.Bool.{Bool, true, false, not, ◌&&◌, ◌||◌}
use mathlib.Core.List.{List, [], ◌∷◌, ◌++◌}
use mathlib.Core.Logic.{◌⊎◌, inl, inr, ⊎_elim}
use native.Mathlib.Decide.{dec_lt}
use native.Mathlib.Omega.{arith}
use lib.Dec.{eqb}
use lib.ListN.{length, get_or}
use borrow.Author.Tests.{eqb-true, eq-eqb, le-ltb, ne_eqb}
use Rattle.std.specs.List.{All, range_with_len}
use Rattle.std.proofs.lemmas.List.{get_or_default}
use Rattle.std.proofs.lemmas.List.Kept.{AllPairs-cons, AllPairs-filter}
use Rattle.answers.specs.Ranges.{no_arfcn}
use Rattle.answers.proofs.Search.{any_at, some_first, all_of}
use Rattle.answers.proofs.Tests.{and_right, and_both, or_left, or_right, or_rest, or_none, or_false, le_not_ltb, not_both, refute, same_test}
use Rattle.hops.specs.Allocation.{in_place, is_allocation, lists, precedes}
use Rattle.hops.specs.Handset.{all_arfcns, handset_list, AsHandsetsRead, HandsetsAllocation}
use Rattle.hops.proofs.Order.{Before, before_precedes}
use Rattle.hops.proofs.Sorted.{has_entry, entry_at, entry_of, Sorted, one_list, filter_has}
use Rattle.hops.proofs.Apart.{at_least_1, at_most_64, comes_before, entry_arfcn}

-- ---- all ARFCNs

-- an entry is 0, or one of so many numbers from the first one on
abbrev Within : ℕ → ℕ → ℕ → Type 0
Within first count a = (a ≡ 0) ⊎ ((first ≤ a) × (a < first + count))

within : (first count a : ℕ) → has_entry (range_with_len first count ++ (0 ∷ [])) a ≡ true → Within first count a
within first zero a e = inl (sym (eqb-true 0 a (sym (or_false (eqb 0 a)) ∙ e)))
within first (suc count) a e = go (eqb first a) refl (within (first + 1) count a)
  where
    go : (t : Bool) → eqb first a ≡ t → (has_entry (range_with_len (first + 1) count ++ (0 ∷ [])) a ≡ true → Within (first + 1) count a) → Within first (suc count) a
    go true q f = inr (let z = eqb-true first a q in (omega arith, omega arith))
    go false q f = ⊎_elim (λ z. inl z) (λ l. inr (let x = l.0 in omega arith, let y = l.1 in omega arith)) (f (or_rest (eqb first a) _ q e))

in_order : (first count : ℕ) → 1 ≤ first → Sorted (range_with_len first count ++ (0 ∷ []))
in_order first zero h = λ i j d l r. absurd (omega arith)
in_order first (suc count) h = AllPairs-cons Before first (range_with_len (first + 1) count ++ (0 ∷ [])) later (in_order (first + 1) count (omega arith))
  where
    later : All (Before first) (range_with_len (first + 1) count ++ (0 ∷ []))
    later k d l =
        subst (Before first) (get_or_default (range_with_len (first + 1) count ++ (0 ∷ [])) k 0 d l)
        (h, ⊎_elim (λ z. inl z) (λ n. inr (let x = n.0 in omega arith)) (within (first + 1) count _ (entry_at (range_with_len (first + 1) count ++ (0 ∷ [])) k l)))

-- 0 is there, and each number from the first one on, so many of them
reached : (first count a : ℕ) → Within first count a → has_entry (range_with_len first count ++ (0 ∷ [])) a ≡ true
reached first zero a h = or_left false (eq-eqb 0 a (⊎_elim (λ z. sym z) (λ l. absurd (let x = l.0 in let y = l.1 in omega arith)) h))
reached first (suc count) a h = go (eqb first a) refl (reached (first + 1) count a)
  where
    go : (t : Bool) → eqb first a ≡ t → (Within (first + 1) count a → has_entry (range_with_len (first + 1) count ++ (0 ∷ [])) a ≡ true)
        → (t || has_entry (range_with_len (first + 1) count ++ (0 ∷ [])) a) ≡ true
    go true q f = refl
    go false q f =
        f (⊎_elim (λ z. inl z) (λ l. inr (let x = l.0 in let y = l.1 in let n : first ≡ a → ⊥ = (λ z. not_both (eq-eqb first a z) q) in (omega (arith, n), omega arith))) h)

all_below_1024 : (a : ℕ) → has_entry all_arfcns a ≡ true → a < 1024
unfolding all_arfcns
all_below_1024 a e = ⊎_elim (λ z. omega arith) (λ l. let x = l.1 in omega arith) (within 1 1023 a e)

all_sorted : Sorted all_arfcns
unfolding all_arfcns
all_sorted = in_order 1 1023 (omega arith)

all_there : (a : ℕ) → a < 1024 → has_entry all_arfcns a ≡ true
unfolding all_arfcns
all_there a h = reached 1 1023 a (go (dec_lt 0 a))
  where
    go : Dec (0 < a) → Within 1 1023 a
    go (yes l) = inr (omega arith, omega arith)
    go (no l) = inl (omega arith)

-- ---- a set

-- the list of a set has its ARFCNs, in order
module _ (has : ℕ → Bool) where
  set_sorted : Sorted (handset_list has)
  set_sorted = AllPairs-filter Before has all_arfcns all_sorted

  set_has : (a : ℕ) → a < 1024 → has_entry (handset_list has) a ≡ has a
  set_has a h = filter_has has all_arfcns a ∙ (ap (λ (t : Bool). has a && t) (all_there a h) ∙ and_true (has a))
    where
      and_true : (t : Bool) → (t && true) ≡ t
      and_true true = refl
      and_true false = refl

  -- an entry of it is one of all ARFCNs
  set_entry : (a : ℕ) → has_entry (handset_list has) a ≡ true → a < 1024
  set_entry a e = all_below_1024 a (and_right (has a) (has_entry all_arfcns a) (sym (filter_has has all_arfcns a) ∙ e))

-- a list in order whose entries are the set's ARFCNs is the set's list
set_list : (xs : List ℕ) (has : ℕ → Bool) → Sorted xs → ((k : ℕ) → k < length xs → get_or xs k 0 < 1024) → ((a : ℕ) → a < 1024 → has_entry xs a ≡ has a)
    → xs ≡ handset_list has
set_list xs has s f same = one_list xs (handset_list has) s (set_sorted has) (λ a. go a (dec_lt a 1024))
  where
    -- 1024 and above are in neither
    go : (a : ℕ) → Dec (a < 1024) → has_entry xs a ≡ has_entry (handset_list has) a
    go a (yes l) = same a l ∙ sym (set_has has a l)
    go a (no l) =
        refute (has_entry xs a) (λ e. l (let w = entry_of xs a e in subst (λ (b : ℕ). b < 1024) w.there (f w.place w.below)))
        ∙ sym (refute (has_entry (handset_list has) a) (λ e. l (set_entry has a e)))

-- ---- the cell allocation

lists_entry : (ca : List ℕ) (a : ℕ) → has_entry ca a ≡ lists ca a
lists_entry ca a =
    same_test (has_entry ca a) (lists ca a)
    (λ e. let w = entry_of ca a e in any_at (λ k. eqb (get_or ca k 0) a) (length ca) w.place w.below (eq-eqb (get_or ca w.place 0) a w.there))
    (λ e. let w = some_first (λ k. eqb (get_or ca k 0) a) (length ca) e in
    subst (λ (b : ℕ). has_entry ca b ≡ true) (eqb-true (get_or ca w.place 0) a w.passes) (entry_at ca w.place w.below))

module _ (ca : List ℕ) (h : is_allocation ca ≡ true) where
  pub in_handsets_order : Sorted ca
  in_handsets_order i j d l r =
      subst (λ (a : ℕ). Before a (get_or ca j d)) (get_or_default ca i 0 d (omega arith))
      (subst (Before (get_or ca i 0)) (get_or_default ca j 0 d r) (comes_before ca h i j l r))

  -- the list of a handset that has the cell's ARFCNs
  pub allocation_list : ca ≡ handset_list (lists ca)
  allocation_list = set_list ca (lists ca) in_handsets_order (entry_arfcn ca h) (λ a l. lists_entry ca a)

pub as_handsets_read : AsHandsetsRead
unfolding AsHandsetsRead
as_handsets_read ca h = (at_least_1 ca h, at_most_64 ca h, allocation_list ca h)

pub handsets_allocation : HandsetsAllocation
unfolding HandsetsAllocation is_allocation
handsets_allocation has least most =
    and_both (ap not (or_none (ne_eqb (length (handset_list has)) 0 (λ z. omega arith)) (le-ltb 64 (length (handset_list has)) most)))
    (all_of (in_place (handset_list has)) (length (handset_list has)) placed)
  where
    arfcn : (k : ℕ) → k < length (handset_list has) → not (no_arfcn (get_or (handset_list has) k 0)) ≡ true
    arfcn k l = le_not_ltb 1023 _ (let a = set_entry has (get_or (handset_list has) k 0) (entry_at (handset_list has) k l) in omega arith)

    placed : (k : ℕ) → k < length (handset_list has) → in_place (handset_list has) k ≡ true
    placed zero l = and_both (arfcn 0 l) refl
    placed (suc k) l =
        and_both (arfcn (suc k) l)
        (or_right (eqb (suc k) 0)
        (subst (λ (j : ℕ). precedes (get_or (handset_list has) j 0) (get_or (handset_list has) (suc k) 0) ≡ true) (let e : k ≡ suc k - 1 = omega arith in e)
        (before_precedes _ _ (set_sorted has k (suc k) 0 (omega arith) l))))
