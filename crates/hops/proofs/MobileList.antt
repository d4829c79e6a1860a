-- What CA has at the ones of a mask is the list that a handset makes of the mask's ARFCNs: `AsRead` of specs/Handset.antt. Assumes nothing.
use Prim.Native.Nat.{ℕ, zero, suc, ◌+◌, ◌-◌, ◌≤◌, ◌<◌}
use mathlib.Core.Path.{◌≡◌, refl, sym, ap, ◌∙◌, subst}
use mathlib.Core.Bool.{Bool, true, false, ◌&&◌, cond}
use mathlib.Core.List.{List, [], ◌∷◌}
use native.Mathlib.Decide.{dec_lt}
use native.Mathlib.Nat.{not-suc-le-zero, le_of_suc-le-suc, add-zero, add-suc}
use native.Mathlib.Omega.{arith}
use lib.Dec.{eqb}
use lib.ListN.{length, get_or, take}
use borrow.Author.Tests.{eqb-true, eq-eqb}
use Rattle.std.specs.List.{filter}
use Rattle.std.proofs.lemmas.List.{take_all}
use Rattle.std.proofs.lemmas.List.Filters.{length-filter_more}
use Rattle.std.proofs.lemmas.List.Kept.{AllPairs-filter}
use Rattle.answers.proofs.Search.{First, any_at, some_first}
use Rattle.answers.proofs.Tests.{and_left, and_right, and_both, not_both, refute, same_test}
use Rattle.hops.specs.Masks.{bit, contains, ones, ones_below, one_at_or_above}
use Rattle.hops.specs.Allocation.{is_allocation, lists}
use Rattle.hops.specs.Handset.{all_arfcns, stands_for, mobile_list, AsRead}
use Rattle.hops.specs.declared.Tuning.{Tuning}
use Rattle.hops.proofs.Order.{Before}
use Rattle.hops.proofs.Handset.{allocation_list, in_handsets_order}
use Rattle.hops.proofs.Apart.{at_most_64, entry_apart}
use Rattle.hops.proofs.Bits.{contains_bit, bit_contains, lacks_bit, above_bit}

-- ---- parts of a list

-- what passes one test, of what passes another that it implies
filter_filter : (test other : ℕ → Bool) → ((a : ℕ) → test a ≡ true → other a ≡ true) → (xs : List ℕ) → filter test (filter other xs) ≡ filter test xs
filter_filter test other f [] = refl
filter_filter test other f (x ∷ xs) = go (other x) refl (filter_filter test other f xs)
  where
    go : (t : Bool) → other x ≡ t → filter test (filter other xs) ≡ filter test xs
        → filter test (cond t (x ∷ filter other xs) (filter other xs)) ≡ cond (test x) (x ∷ filter test xs) (filter test xs)
    go true q h = ap (λ (ys : List ℕ). cond (test x) (x ∷ ys) ys) h
    go false q h = h ∙ ap (λ (t : Bool). cond t (x ∷ filter test xs) (filter test xs)) (sym (refute (test x) (λ e. not_both (f x e) q)))

-- an entry that passes stands behind those before it that do
kept_at : (test : ℕ → Bool) (xs : List ℕ) (i : ℕ) → i < length xs → test (get_or xs i 0) ≡ true
    → (length (filter test (take i xs)) < length (filter test xs)) × (get_or (filter test xs) (length (filter test (take i xs))) 0 ≡ get_or xs i 0)
kept_at test [] i l e = absurd (not-suc-le-zero l)
kept_at test (x ∷ xs) zero l e =
    subst (λ (t : Bool). (0 < length (cond t (x ∷ filter test xs) (filter test xs))) × (get_or (cond t (x ∷ filter test xs) (filter test xs)) 0 0 ≡ x)) (sym e)
    (omega arith, refl)
kept_at test (x ∷ xs) (suc i) l e = go (test x) (kept_at test xs i (le_of_suc-le-suc l) e)
  where
    there : Bool → List ℕ → List ℕ
    there t ys = cond t (x ∷ filter test ys) (filter test ys)

    go : (t : Bool) → (length (filter test (take i xs)) < length (filter test xs)) × (get_or (filter test xs) (length (filter test (take i xs))) 0 ≡ get_or xs i 0)
        → (length (there t (take i xs)) < length (there t xs)) × (get_or (there t xs) (length (there t (take i xs))) 0 ≡ get_or xs i 0)
    go true w = (let l = w.0 in omega arith, w.1)
    go false w = w

-- ---- a mask

-- no one above: no more ones there
no_more : (m n d : ℕ) → one_at_or_above m n ≡ false → ones_below m (n + d) ≡ ones_below m n
unfolding ones_below
no_more m n zero h = ap (ones_below m) (add-zero n)
no_more m n (suc d) h =
    let f = no_more m n d h in
    let b : bit m (n + d) ≡ 0 = lacks_bit m (n + d) (refute (contains m (n + d)) (λ e. not_both (above_bit m n (n + d) (omega arith) (contains_bit m (n + d) e)) h)) in
    subst (λ (k : ℕ). ones_below m k ≡ ones_below m n) (sym (add-suc n d)) (omega arith)

module _ (ca : List ℕ) (m : ℕ) (h : is_allocation ca ≡ true) where
  -- the ARFCNs of the mask, in the order of CA
  abbrev chosen : List ℕ
  chosen = filter (stands_for ca m) ca

  chosen_is : chosen ≡ mobile_list ca m
  chosen_is = ap (filter (stands_for ca m)) (allocation_list ca h) ∙ filter_filter (stands_for ca m) (lists ca) listed all_arfcns
    where
      listed : (a : ℕ) → stands_for ca m a ≡ true → lists ca a ≡ true
      listed a e =
          let w = some_first (λ p. contains m p && eqb (get_or ca p 0) a) (length ca) e in
          any_at (λ k. eqb (get_or ca k 0) a) (length ca) w.place w.below (and_right (contains m w.place) (eqb (get_or ca w.place 0) a) w.passes)

  -- a one of the mask stands for an entry exactly if its own one does
  own_one : (k : ℕ) → k < length ca → stands_for ca m (get_or ca k 0) ≡ contains m k
  own_one k l =
      same_test (stands_for ca m (get_or ca k 0)) (contains m k)
      (λ e. let w = some_first (λ p. contains m p && eqb (get_or ca p 0) (get_or ca k 0)) (length ca) e in
      let q = entry_apart ca h w.place k w.below l (eqb-true _ _ (and_right (contains m w.place) (eqb (get_or ca w.place 0) (get_or ca k 0)) w.passes)) in
      subst (λ (p : ℕ). contains m p ≡ true) q (and_left (contains m w.place) (eqb (get_or ca w.place 0) (get_or ca k 0)) w.passes))
      (λ e. any_at (λ p. contains m p && eqb (get_or ca p 0) (get_or ca k 0)) (length ca) k l (and_both e (eq-eqb _ _ refl)))

  -- of the first entries, as many as the mask has ones there
  counted : (k : ℕ) → k ≤ length ca → length (filter (stands_for ca m) (take k ca)) ≡ ones_below m k
  unfolding ones_below
  counted zero l = refl
  counted (suc k) l =
      let n = length-filter_more (stands_for ca m) ca k 0 l in
      let f = counted k (omega arith) in
      let z : k + 1 ≡ suc k = omega arith in
      let e = ap (λ (i : ℕ). length (filter (stands_for ca m) (take i ca))) z in
      let b = one_more (contains m k) refl in
      let q : cond {A = ℕ} (stands_for ca m (get_or ca k 0)) 1 0 ≡ cond (contains m k) 1 0 = ap {B = ℕ} (λ (t : Bool). cond t 1 0) (own_one k l) in
      omega arith
    where
      one_more : (t : Bool) → contains m k ≡ t → cond t 1 0 ≡ bit m k
      one_more true e = sym (contains_bit m k e)
      one_more false e = sym (lacks_bit m k e)

  -- the list has as many entries as the mask has ones
  chosen_count : one_at_or_above m (length ca) ≡ false → length chosen ≡ ones m
  chosen_count a =
      let l = at_most_64 ca h in
      let c = counted (length ca) (omega arith) in
      let t = ap (λ (xs : List ℕ). length (filter (stands_for ca m) xs)) (take_all (length ca) ca (omega arith)) in
      let q : length ca + (64 - length ca) ≡ 64 = omega arith in
      let f = no_more m (length ca) (64 - length ca) a in
      let g = ap (ones_below m) q in
      omega arith

  -- the entry at a one stands behind as many as the mask has ones below it
  chosen_at : (k : ℕ) → k < length ca → contains m k ≡ true → (ones_below m k < length chosen) × (get_or chosen (ones_below m k) 0 ≡ get_or ca k 0)
  chosen_at k l o =
      subst (λ (n : ℕ). (n < length chosen) × (get_or chosen n 0 ≡ get_or ca k 0)) (counted k (omega arith))
      (kept_at (stands_for ca m) ca k l (own_one k l ∙ o))

  -- nothing comes after 0
  zero_last : (i j : ℕ) → get_or chosen i 0 ≡ 0 → i < j → j < length chosen → ⊥
  zero_last i j z l n = let w = (AllPairs-filter Before (stands_for ca m) ca (in_handsets_order ca h) i j 0 l n).0 in omega arith

  -- of what a line is tuned to
  module _ (t : Tuning) (a : one_at_or_above m (length ca) ≡ false) (l : t.position < length ca) (e : get_or ca t.position 0 ≡ t.arfcn) (b : bit m t.position ≡ 1)
      (r : ones_below m t.position ≡ t.mai) where
    tuned_entry : (t.mai < length chosen) × (get_or chosen t.mai 0 ≡ t.arfcn)
    tuned_entry =
        let w = chosen_at t.position l (bit_contains m t.position b) in
        subst (λ (k : ℕ). (k < length chosen) × (get_or chosen k 0 ≡ t.arfcn)) r (w.0, w.1 ∙ e)

    zero_is_last : t.arfcn ≡ 0 → t.mai + 1 ≡ ones m
    zero_is_last z = go (dec_lt (t.mai + 1) (length chosen))
      where
        go : Dec (t.mai + 1 < length chosen) → t.mai + 1 ≡ ones m
        go (yes n) = absurd (zero_last t.mai (t.mai + 1) (tuned_entry.1 ∙ z) (omega arith) n)
        go (no n) = let w = tuned_entry.0 in let c = chosen_count a in omega arith

    last_is_zero : stands_for ca m 0 ≡ true → t.mai + 1 ≡ ones m → t.arfcn ≡ 0
    last_is_zero s q = go (dec_lt (ones_below m w.place) t.mai)
      where
        w : First (λ p. contains m p && eqb (get_or ca p 0) 0) (length ca)
        w = some_first (λ p. contains m p && eqb (get_or ca p 0) 0) (length ca) s

        zero : (ones_below m w.place < length chosen) × (get_or chosen (ones_below m w.place) 0 ≡ 0)
        zero =
            let c = chosen_at w.place w.below (and_left (contains m w.place) (eqb (get_or ca w.place 0) 0) w.passes) in
            (c.0, c.1 ∙ eqb-true (get_or ca w.place 0) 0 (and_right (contains m w.place) (eqb (get_or ca w.place 0) 0) w.passes))

        go : Dec (ones_below m w.place < t.mai) → t.arfcn ≡ 0
        go (yes n) = absurd (zero_last (ones_below m w.place) t.mai zero.1 n tuned_entry.0)
        go (no n) =
            let c = chosen_count a in
            let k = zero.0 in
            let p : ones_below m w.place ≡ t.mai = omega arith in
            sym tuned_entry.1 ∙ subst (λ (i : ℕ). get_or chosen i 0 ≡ 0) p zero.1

    pub as_read : AsRead ca m t
    as_read =
        record {
          n = ap length (sym chosen_is) ∙ chosen_count a;
          within = subst (λ (xs : List ℕ). t.mai < length xs) chosen_is tuned_entry.0;
          entry = ap (λ (xs : List ℕ). get_or xs t.mai 0) (sym chosen_is) ∙ tuned_entry.1;
          zero_last = λ s. (zero_is_last, last_is_zero s);
        }
