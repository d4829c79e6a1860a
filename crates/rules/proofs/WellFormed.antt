-- specs/WellFormed.antt proved: by what every history has (Sound.antt, Places.antt, Owners.antt), and by what start leaves (Begun.antt).
-- Assumes nothing.
use Prim.Native.Nat.{ℕ, ◌/◌, ◌%◌, ◌^◌, ◌≤◌, ◌<◌}
use mathlib.Core.Path.{◌≡◌, refl, sym, ap, ◌∙◌, subst}
use mathlib.Core.Bool.{Bool, true, false, not, ◌&&◌, ◌||◌}
use mathlib.Core.List.{List, []}
use mathlib.Core.Logic.{◌⊎◌, inl, inr, ⊎_elim}
use mathlib.Core.Option.{Option, none, some}
use native.Mathlib.Decide.{dec_lt}
use native.Mathlib.Omega.{arith}
use lib.Dec.{eqb}
use lib.ListN.{length, get_or, get_or-eq_default}
use lib.Seq.{get_or-take}
use borrow.Author.Tests.{eqb-true, eqb-false, eq-eqb, not-true, not-false}
use Rattle.answers.proofs.Search.{First, any_at, some_first}
use Rattle.answers.proofs.Tests.{and_left, and_right, and_both, and_rest, or_false, not_both}
use Rattle.hops.specs.Masks.{contains, ones, share_one}
use Rattle.hops.specs.Hopping.{line_position}
use Rattle.hops.specs.Clash.{Physical, clash}
use Rattle.hops.proofs.Order.{Before}
use Rattle.hops.proofs.Apart.{line_one, line_within, at_least_1, at_most_64, entry_arfcn, comes_before}
use Rattle.hops.proofs.Bits.{bit_contains, contains_bit, above_bit, ones_past, zero_bit}
use Rattle.maps.specs.Combinations.{combinations, among, is_combination}
use Rattle.rules.specs.State.{Cell, LineState, Values, tabulate, owner_room, line_with, closed_line, line_at, owner_at, allocation}
use Rattle.rules.specs.Calls.{physical, subchannels, has_c0, is_common_combination}
use Rattle.rules.specs.History.{Made, opened_with, held_by, line_or, cell_from}
use Rattle.rules.specs.WellFormed.{HasParameters, Closed, OneAt, HasOwners, Opened, Is, IsFirst, IsCommon, Stands, HasPlaces, Apart, WellFormed, CellsAreWellFormed}
use Rattle.rules.proofs.Tabulate.{tabulate_at, tabulate_length}
use Rattle.rules.proofs.Begun.{Begun, Filled, in_allocation, below_64}
use Rattle.rules.proofs.AsListed.{line_listed}
use Rattle.rules.proofs.Sound.{Allowed, allowed_combination, allowed_tn, allowed_hsn, allowed_tsc, allowed_within, allowed_maio, Sound, open_line}
use Rattle.rules.proofs.Places.{four_common, five_common, six_common, Place, Lower, Placed}
use Rattle.rules.proofs.Trained.{Trained}
use Rattle.rules.proofs.Owners.{Owners}
use Rattle.rules.proofs.CommonLines.{one_each}
use Rattle.rules.proofs.Known.{known}

-- ---- of numbers and masks

or_cases : (c a : ℕ) {b : Bool} {P : Type 0} → (eqb c a || b) ≡ true → (b ≡ true → P) → (c ≡ a) ⊎ P
or_cases c a {b} {P} h f = go (eqb c a) refl h
  where
    go : (t : Bool) → eqb c a ≡ t → (t || b) ≡ true → (c ≡ a) ⊎ P
    go true e q = inl (eqb-true c a e)
    go false e q = inr (f q)

six_cases : (c : ℕ) → not (is_combination c) ≡ false → (c ≡ 1) ⊎ ((c ≡ 2) ⊎ ((c ≡ 4) ⊎ ((c ≡ 5) ⊎ ((c ≡ 6) ⊎ (c ≡ 7)))))
unfolding combinations among
six_cases c h =
    or_cases c 1 (not-false _ h) (λ r. or_cases c 2 r (λ r. or_cases c 4 r (λ r. or_cases c 5 r (λ r. or_cases c 6 r (λ r. eqb-true c 7 (sym (or_false (eqb c 7)) ∙ r))))))

-- with one one, two positions of ones are one
one_position : (m p q : ℕ) → ones m ≡ 1 → p < 64 → q < 64 → OneAt m p → OneAt m q → p ≡ q
one_position m p q h hp hq a b = go (dec_lt p q) (dec_lt q p)
  where
    -- a one above a one is the second
    second : (i j : ℕ) → i < j → j < 64 → OneAt m i → OneAt m j → ⊥
    second i j l hj x y =
        let e = ones_past m x l in
        let f = ones_past m y hj in
        omega (arith, e, f, h)

    go : Dec (p < q) → Dec (q < p) → p ≡ q
    go (yes l) d = absurd (second p q l hq a b)
    go (no l) (yes r) = absurd (second q p r hp b a)
    go (no l) (no r) = omega arith

-- two lines of one timeslot that share a one and do not clash
clear_apart : (v w : Physical) → v.tn ≡ w.tn → share_one v.mask w.mask ≡ true → clash v w ≡ false → (v.mask ≡ w.mask) × (v.hsn ≡ w.hsn) × (v.maio ≡ w.maio → ⊥)
unfolding clash
clear_apart v w t s c =
    let same : (eqb v.mask w.mask && eqb v.hsn w.hsn && not (eqb v.maio w.maio)) ≡ true = not-false _ (and_rest (eqb v.tn w.tn && share_one v.mask w.mask) _ (and_both (eq-eqb _ _ t) s) c) in
    let both = and_left (eqb v.mask w.mask && eqb v.hsn w.hsn) _ same in
    (eqb-true _ _ (and_left (eqb v.mask w.mask) _ both), eqb-true _ _ (and_right (eqb v.mask w.mask) _ both), eqb-false _ _ (not-true _ (and_right (eqb v.mask w.mask && eqb v.hsn w.hsn) _ same)))

shares : (a b p : ℕ) → p < 64 → OneAt a p → OneAt b p → share_one a b ≡ true
unfolding share_one
shares a b p l x y = any_at (λ q. contains a q && contains b q) 64 p l (and_both (bit_contains a p x) (bit_contains b p y))

pub is_closed : Closed closed_line
unfolding closed_line tabulate
is_closed = refl

module _ (first : Cell) (begun : Begun first) (filled : Filled first) (past : List Made) (sound : Sound first past) (placed : Placed first past) (trained : Trained first past) (owners : Owners past) where
  abbrev cell : Cell
  cell = cell_from first past

  -- ---- the numbers that start names

  entry : (k : ℕ) → k < first.size → get_or (allocation first) k 0 ≡ get_or first.ca k 0
  entry k l = get_or-take first.size first.ca k 0 l

  -- the position of C0
  c0_first : First (λ k. eqb (get_or (allocation first) k 0) first.c0) (length (allocation first))
  c0_first = some_first (λ k. eqb (get_or (allocation first) k 0) first.c0) (length (allocation first)) filled.c0_listed

  c0_below : c0_first.place < first.size
  c0_below = subst (λ (i : ℕ). c0_first.place < i) begun.known_length c0_first.below

  parameters : HasParameters cell
  unfolding cell_from
  parameters =
      record {
        room = filled.room;
        least = subst (λ (i : ℕ). 1 ≤ i) begun.known_length (at_least_1 (allocation first) begun.allocated);
        most = subst (λ (i : ℕ). i ≤ 64) begun.known_length (at_most_64 (allocation first) begun.allocated);
        past = filled.past_length;
        arfcn = λ k l. let a = entry_arfcn (allocation first) begun.allocated k (in_allocation first begun k l) in let e = entry k l in omega arith;
        in_order = λ j k o l.
            let a = comes_before (allocation first) begun.allocated j k o (in_allocation first begun k l) in
            subst (λ (x : ℕ). Before x (get_or first.ca k 0)) (entry j (let d : j < first.size = omega arith in d))
            (subst (Before (get_or (allocation first) j 0)) (entry k l) a);
        c0 = c0_first.place;
        c0_within = c0_below;
        c0_there = sym (entry c0_first.place c0_below) ∙ eqb-true _ _ c0_first.passes;
        bcc = filled.bcc_range;
        ag = begun.ag_range;
        p_least = begun.p_range;
        p_most = filled.p_most;
        lines = tabulate_length 64 (λ n. line_or (opened_with past n) (held_by past n));
      }

  -- ---- a line

  -- an owner that is read is one that the history names, or 0
  owner_read : (n s : ℕ) (v : Values) → (owner_at (line_with v (held_by past n)) s ≡ held_by past n s) ⊎ (owner_at (line_with v (held_by past n)) s ≡ 0)
  owner_read n s v = go (dec_lt s 8)
    where
      go : Dec (s < 8) → (owner_at (line_with v (held_by past n)) s ≡ held_by past n s) ⊎ (owner_at (line_with v (held_by past n)) s ≡ 0)
      go (yes l) = inl (tabulate_at owner_room (held_by past n) 0 s l)
      go (no l) =
          let e = tabulate_length owner_room (held_by past n) in
          let h : length (tabulate owner_room (held_by past n)) ≤ s = omega arith in
          inr (get_or-eq_default (tabulate owner_room (held_by past n)) 0 h)

  module _ (n : ℕ) (v : Values) (e : opened_with past n ≡ some v) where
    a : Allowed first n v
    a = sound.allowed n v e

    -- an s that the combination lacks has no owner
    lacks : (s : ℕ) → subchannels v.combination ≤ s → owner_at (line_with v (held_by past n)) s ≡ 0
    lacks s h = ⊎_elim (λ r. r ∙ owners.beyond n s v e h) (λ r. r) (owner_read n s v)

    has_owners : HasOwners (line_with v (held_by past n))
    has_owners =
        record {
          room = tabulate_length owner_room (held_by past n);
          range = λ s. let l = owners.range n s in ⊎_elim (λ r. omega arith) (λ r. omega arith) (owner_read n s v);
          full_rate = λ s k l. lacks s (let q : subchannels v.combination ≡ 1 = ap subchannels k in omega arith);
          half_rate = λ s k l. lacks s (let q : subchannels v.combination ≡ 2 = ap subchannels k in omega arith);
          combined = λ s k l. lacks s (let q : subchannels v.combination ≡ 4 = ap subchannels k in omega arith);
          sdcch8 = λ s k l. lacks s (let q : subchannels v.combination ≡ 8 = ap subchannels k in omega arith);
          common = λ s k. lacks s (let q : subchannels v.combination ≡ 0 = ⊎_elim (λ r. ap subchannels r) (λ r. ap subchannels r) k in omega arith);
        }

    within_ca : (p : ℕ) → OneAt v.mask p → p < first.size
    within_ca p o = inside (dec_lt p first.size)
      where
        inside : Dec (p < first.size) → p < first.size
        inside (yes l) = l
        inside (no l) = not_both (above_bit v.mask first.size p (omega arith) o) (allowed_within first n v a)

    is_opened_line : Opened cell (line_with v (held_by past n))
    unfolding cell_from
    is_opened_line =
        record {
          tn = let h = allowed_tn first n v a in omega arith;
          hsn = let h = allowed_hsn first n v a in omega arith;
          tsc = allowed_tsc first n v a;
          combination = six_cases v.combination (allowed_combination first n v a);
          ca_position = line_position v.mask v.hsn v.maio 0;
          there = line_within v.mask v.hsn v.maio 0 (allowed_maio first n v a) first.size (allowed_within first n v a);
          one = (line_one v.mask v.hsn v.maio 0 (allowed_maio first n v a)).one;
          within = within_ca;
          maio = allowed_maio first n v a;
          owners = has_owners;
        }

  line : (n : ℕ) → n < 64 → Closed (line_at cell n) ⊎ Opened cell (line_at cell n)
  line n h = go (opened_with past n) refl
    where
      go : (o : Option Values) → opened_with past n ≡ o → Closed (line_at cell n) ⊎ Opened cell (line_at cell n)
      go none e = inl (line_listed first past n h ∙ (ap (λ (o : Option Values). line_or o (held_by past n)) e ∙ is_closed))
      go (some v) e = inr (subst (Opened cell) (sym (open_line first past sound n v e)) (is_opened_line n v e))

  -- ---- open lines together

  -- line n is open with these values
  record There (n : ℕ) : Type 0 where
    pub values : Values
    pub is_open : opened_with past n ≡ some values
    pub is : line_at cell n ≡ line_with values (held_by past n)

  -- or it has 0 everywhere
  Zero : ℕ → Type 0
  Zero n = ((line_at cell n).combination ≡ 0) × ((line_at cell n).mask ≡ 0)

  there_or_zero : (n : ℕ) → There n ⊎ Zero n
  unfolding cell_from Zero
  there_or_zero n = inside (dec_lt n 64)
    where
      go : n < 64 → (o : Option Values) → opened_with past n ≡ o → There n ⊎ Zero n
      go h none e =
          let q = line_listed first past n h ∙ (ap (λ (o : Option Values). line_or o (held_by past n)) e ∙ is_closed) in
          inr (ap (λ (l : LineState). l.combination) q, ap (λ (l : LineState). l.mask) q)
      go h (some v) e = inl (record { values = v; is_open = e; is = open_line first past sound n v e })

      inside : Dec (n < 64) → There n ⊎ Zero n
      inside (yes h) = go h (opened_with past n) refl
      inside (no h) =
          let e = tabulate_length 64 (λ i. line_or (opened_with past i) (held_by past i)) in
          let l : length cell.lines ≤ n = omega arith in
          let q = get_or-eq_default cell.lines (record { mask = 0; tn = 0; hsn = 0; maio = 0; combination = 0; tsc = 0; owners = [] }) l in
          inr (ap (λ (x : LineState). x.combination) q, ap (λ (x : LineState). x.mask) q)

  -- a line with a combination is open
  there : (n : ℕ) {k : ℕ} → Is cell n k → (k ≡ 0 → ⊥) → There n
  unfolding Zero
  there n h z = ⊎_elim (λ w. w) (λ q. absurd (z (sym h ∙ q.0))) (there_or_zero n)

  -- so is one with a one in its mask
  one_there : (n p : ℕ) → OneAt (line_at cell n).mask p → There n
  unfolding Zero
  one_there n p o = ⊎_elim (λ w. w) (λ q. absurd (let z = zero_bit p in let e : (line_at cell n).mask / 2 ^ p % 2 ≡ 0 / 2 ^ p % 2 = ap (λ (x : ℕ). x / 2 ^ p % 2) q.1 in omega (arith, z, e, o))) (there_or_zero n)

  combination_is : (n : ℕ) (w : There n) {k : ℕ} → Is cell n k → w.values.combination ≡ k
  combination_is n w h = sym (ap (λ (l : LineState). l.combination) w.is) ∙ h

  tn_is : (n : ℕ) (w : There n) → (line_at cell n).tn ≡ w.values.tn
  tn_is n w = ap (λ (l : LineState). l.tn) w.is

  -- a common line, with its combination
  record Common (n : ℕ) : Type 0 where
    pub line : There n
    pub common : is_common_combination line.values.combination ≡ true

  common : (n : ℕ) → IsCommon cell n → Common n
  common n h = ⊎_elim four (λ o. ⊎_elim five six o) h
    where
      four : Is cell n 4 → Common n
      four k = let w = there n k (λ z. omega arith) in record { line = w; common = four_common _ (combination_is n w k) }

      five : Is cell n 5 → Common n
      five k = let w = there n k (λ z. omega arith) in record { line = w; common = five_common _ (combination_is n w k) }

      six : Is cell n 6 → Common n
      six k = let w = there n k (λ z. omega arith) in record { line = w; common = six_common _ (combination_is n w k) }

  first_common : (n : ℕ) → IsFirst cell n → IsCommon cell n
  first_common n h = ⊎_elim (λ k. inl k) (λ k. inr (inl k)) h

  -- a 4 or 5 is in timeslot 0
  at_zero : (v : Values) → Place v → (v.combination ≡ 6 → ⊥) → v.tn ≡ 0
  at_zero v (inl p) z = p.1
  at_zero v (inr p) z = absurd (z p.0)

  even_above : (v : Values) → Place v → v.combination ≡ 6 → (0 < v.tn) × (v.tn % 2 ≡ 0)
  even_above v (inl p) k = ⊎_elim (λ q. absurd (omega arith)) (λ q. absurd (omega arith)) p.0
  even_above v (inr p) k = (p.1, p.2)

  first_place : (n : ℕ) → IsFirst cell n → (line_at cell n).tn ≡ 0
  first_place n h =
      let w = common n (first_common n h) in
      tn_is n w.line
      ∙ at_zero w.line.values (placed.in_place n w.line.values w.line.is_open w.common).place
      (λ z. ⊎_elim (λ k. let q = combination_is n w.line k in omega arith) (λ k. let q = combination_is n w.line k in omega arith) h)

  one_first : (m n : ℕ) → IsFirst cell m → IsFirst cell n → m ≡ n
  one_first m n h g =
      let v = common m (first_common m h) in
      let w = common n (first_common n g) in
      one_each first begun past sound placed m n v.line.values w.line.values v.line.is_open w.line.is_open v.common w.common
      (sym (tn_is m v.line) ∙ (first_place m h ∙ (sym (first_place n g) ∙ tn_is n w.line)))

  alone : (m n : ℕ) → Is cell m 5 → IsCommon cell n → m ≡ n
  alone m n h g =
      let v = there m h (λ z. omega arith) in
      let w = common n g in
      placed.alone m n v.values w.line.values v.is_open (combination_is m v h) w.line.is_open w.common

  reserved : (n : ℕ) → Is cell n 5 → first.ag ≤ 2
  reserved n h =
      let v = there n h (λ z. omega arith) in
      (placed.in_place n v.values v.is_open (five_common _ (combination_is n v h))).reserved (combination_is n v h)

  -- an open line of the history is one of the cell
  stands : (n k tn : ℕ) (v : Values) → opened_with past n ≡ some v → v.combination ≡ k → v.tn ≡ tn → Stands cell k tn
  stands n k tn v e c t =
      let q = open_line first past sound n v e in
      record { line = n; is = ap (λ (l : LineState). l.combination) q ∙ c; in_timeslot = ap (λ (l : LineState). l.tn) q ∙ t }

  abbrev SixPlace : ℕ → Type 0
  SixPlace tn = ((tn ≡ 2) × Stands cell 4 0) ⊎ (((tn ≡ 4) × Stands cell 6 2) ⊎ ((tn ≡ 6) × Stands cell 6 4))

  six : (n : ℕ) → Is cell n 6 → SixPlace (line_at cell n).tn
  six n h = subst SixPlace (sym (tn_is n w)) (by_lower lower.four_or_six)
    where
      w : There n
      w = there n h (λ z. omega arith)

      lower : Lower past w.values
      lower = placed.lower n w.values w.is_open (combination_is n w h)

      below_8 : w.values.tn < 8
      below_8 = allowed_tn first n w.values (sound.allowed n w.values w.is_open)

      place : is_common_combination lower.values.combination ≡ true → Place lower.values
      place c = (placed.in_place lower.line lower.values lower.is_open c).place

      by_lower : (lower.values.combination ≡ 4) ⊎ (lower.values.combination ≡ 6) → SixPlace w.values.tn
      by_lower (inl k) =
          let z = at_zero lower.values (place (four_common _ k)) (λ q. omega arith) in
          let t = lower.two_lower in
          inl (omega arith, stands lower.line 4 0 lower.values lower.is_open k z)
      by_lower (inr k) = go (eqb lower.values.tn 2) refl
        where
          even : (0 < lower.values.tn) × (lower.values.tn % 2 ≡ 0)
          even = even_above lower.values (place (six_common _ k)) k

          go : (b : Bool) → eqb lower.values.tn 2 ≡ b → SixPlace w.values.tn
          go true q =
              let z = eqb-true _ _ q in
              let t = lower.two_lower in
              inr (inl (omega arith, stands lower.line 6 2 lower.values lower.is_open k z))
          go false q =
              let z = eqb-false _ _ q in
              let t = lower.two_lower in
              let o = even.0 in
              let e = even.1 in
              let f : lower.values.tn ≡ 4 = omega (arith, below_8) in
              inr (inr (omega arith, stands lower.line 6 4 lower.values lower.is_open k f))

  beacon : (n p : ℕ) → IsCommon cell n → OneAt (line_at cell n).mask p → get_or first.ca p 0 ≡ first.c0
  beacon n p h o = here (some_first test first.size (and_right (eqb (ones v.mask) 1) _ alone_there))
    where
      w : Common n
      w = common n h

      v : Values
      v = w.line.values

      test : ℕ → Bool
      test q = contains v.mask q && eqb (get_or first.ca q 0) first.c0

      alone_there : (eqb (ones v.mask) 1 && has_c0 first v.mask) ≡ true
      alone_there = (placed.in_place n v w.line.is_open w.common).beacon

      one : OneAt v.mask p
      one = ap (λ (x : LineState). x.mask / 2 ^ p % 2) (sym w.line.is) ∙ o

      here : First test first.size → get_or first.ca p 0 ≡ first.c0
      here f =
          let q = one_position v.mask p f.place (eqb-true _ _ (and_left (eqb (ones v.mask) 1) _ alone_there)) (below_64 first begun p (within_ca n v w.line.is_open p one)) (below_64 first begun f.place f.below) one (contains_bit v.mask f.place (and_left (contains v.mask f.place) _ f.passes)) in
          ap (λ (i : ℕ). get_or first.ca i 0) q ∙ eqb-true _ _ (and_right (contains v.mask f.place) _ f.passes)

  training : (n : ℕ) → IsCommon cell n → (line_at cell n).tsc ≡ first.bcc
  training n h =
      let w = common n h in
      ap (λ (l : LineState). l.tsc) w.line.is ∙ trained n w.line.values w.line.is_open w.common

  places : HasPlaces cell
  unfolding cell_from
  places = record { first = first_place; one_first = one_first; alone = alone; reserved = reserved; six = six; beacon = beacon; tsc = training }

  -- ---- no two clash

  apart : (m n : ℕ) → (m ≡ n → ⊥) → Apart (line_at cell m) (line_at cell n)
  apart m n d p t l a b =
      subst (λ (x : LineState). (x.mask ≡ (line_at cell n).mask) × (x.hsn ≡ (line_at cell n).hsn) × (x.maio ≡ (line_at cell n).maio → ⊥)) (sym v.is)
      (subst (λ (x : LineState). (v.values.mask ≡ x.mask) × (v.values.hsn ≡ x.hsn) × (v.values.maio ≡ x.maio → ⊥)) (sym w.is) (⊎_elim one_way other_way (sound.clear m n v.values w.values d v.is_open w.is_open)))
    where
      v : There m
      v = one_there m p a

      w : There n
      w = one_there n p b

      same_tn : v.values.tn ≡ w.values.tn
      same_tn = sym (tn_is m v) ∙ (t ∙ tn_is n w)

      one_m : OneAt v.values.mask p
      one_m = ap (λ (x : LineState). x.mask / 2 ^ p % 2) (sym v.is) ∙ a

      one_n : OneAt w.values.mask p
      one_n = ap (λ (x : LineState). x.mask / 2 ^ p % 2) (sym w.is) ∙ b

      one_way : clash (physical v.values) (physical w.values) ≡ false → (v.values.mask ≡ w.values.mask) × (v.values.hsn ≡ w.values.hsn) × (v.values.maio ≡ w.values.maio → ⊥)
      one_way c = clear_apart (physical v.values) (physical w.values) same_tn (shares v.values.mask w.values.mask p l one_m one_n) c

      other_way : clash (physical w.values) (physical v.values) ≡ false → (v.values.mask ≡ w.values.mask) × (v.values.hsn ≡ w.values.hsn) × (v.values.maio ≡ w.values.maio → ⊥)
      other_way c =
          let q = clear_apart (physical w.values) (physical v.values) (sym same_tn) (shares w.values.mask v.values.mask p l one_n one_m) c in
          (sym q.0, sym q.1, λ e. q.2 (sym e))

  well_formed_so : WellFormed cell
  well_formed_so = record { parameters = parameters; line = line; places = places; apart = apart }

pub well_formed : CellsAreWellFormed
unfolding CellsAreWellFormed
well_formed c w =
    let k = known c w in
    subst WellFormed (sym k.as_listed) (well_formed_so k.first k.begun k.filled k.past k.sound k.placed k.trained k.owners)
