-- Laws of the words that hold a cell: what is read of a line, and what a change of one line's words leaves. Assumes nothing.
use Prim.Native.Nat.{ℕ, zero, suc, ◌+◌, ◌*◌, ◌-◌, ◌/◌, ◌%◌, ◌^◌, ◌<◌, ◌≤◌}
use mathlib.Core.Path.{◌≡◌, refl, sym, ap, subst, ◌∙◌}
use mathlib.Core.Bool.{Bool, cond}
use mathlib.Core.List.{List, [], ◌∷◌}
use mathlib.Core.Logic.{◌⊎◌, inl, inr, ⊎_elim}
use native.Mathlib.Decide.{dec_lt}
use native.Mathlib.Omega.{arith}
use lib.Dec.{ltb}
use lib.ListN.{length, get_or, set, length-set, get_or-eq_default, replicate}
use lib.Seq.{ext_get_or, set_out, set-get_or, get_or-set_same, get_or-set_other}
use borrow.Author.Tests.{lt-ltb, le-ltb}
use borrow.Rule.Slice.PartMut.{put_mid}
use Rattle.std.proofs.lemmas.List.{places, get_or-replicate, length-replicate}
use Rattle.rules.specs.State.{LineState, Cell, values_of, tabulate, line_with, free, closed_line, line_at, owner_at, empty}
use Rattle.rules.specs.declared.Parameters.{Parameters}
use Rattle.rules.specs.declared.Values.{Values}
use Rattle.rules.specs.Calls.{with_line, with_owner}
use Rattle.storage.specs.Words.{word, place_of, line_in, cell_of, Stored, SameWords}
use Rattle.storage.specs.Helpers.{started_from}
use Rattle.rules.proofs.Tabulate.{tabulate_at, tabulate_same, tabulate_set, tabulate_length}

-- ---- what is read

pub line_stored : (words : List ℕ) (n : ℕ) → n < 64 → line_at (cell_of words) n ≡ line_in words n
unfolding cell_of
line_stored words n h = tabulate_at 64 (line_in words) _ n h

pub entry_in : (words : List ℕ) (k : ℕ) → k < 64 → get_or (cell_of words).ca k 0 ≡ word words k
unfolding cell_of
entry_in words k h = tabulate_at 64 (word words) 0 k h

pub entry_past : (words : List ℕ) (k : ℕ) → 64 ≤ k → get_or (cell_of words).ca k 0 ≡ 0
unfolding cell_of
entry_past words k h = get_or-eq_default (tabulate 64 (word words)) 0 (subst (λ (n : ℕ). n ≤ k) (sym (tabulate_length 64 (word words))) h)

module _ (words : List ℕ) (n : ℕ) where
  -- what a read past the last line gives
  abbrev no_line : LineState
  no_line = record { mask = 0; tn = 0; hsn = 0; maio = 0; combination = 0; tsc = 0; owners = [] }

  pub line_past : 63 < n → line_at (cell_of words) n ≡ no_line
  unfolding cell_of
  line_past h = get_or-eq_default (tabulate 64 (line_in words)) no_line (subst (λ (k : ℕ). k ≤ n) (sym (tabulate_length 64 (line_in words))) h)

  -- a number of a line: of the line's words, or 0 past the last line
  pub line_number : (f : LineState → ℕ) (g : ℕ) → f no_line ≡ 0 → f (line_in words n) ≡ g → f (line_at (cell_of words) n) ≡ cond (ltb 63 n) 0 g
  line_number f g z e = go (dec_lt 63 n)
    where
      go : Dec (63 < n) → f (line_at (cell_of words) n) ≡ cond (ltb 63 n) 0 g
      go (yes h) = ap f (line_past h) ∙ z ∙ sym (ap (λ (t : Bool). cond t 0 g) (lt-ltb 63 n h))
      go (no h) = let b : n < 64 = omega arith in ap f (line_stored words n b) ∙ e ∙ sym (ap (λ (t : Bool). cond t 0 g) (le-ltb 63 n (omega arith)))

  pub values_in : n < 64 → {mask : ℕ} → mask ≡ word words (place_of n) + 2 ^ 32 * word words (place_of n + 1)
      → ◌≡◌ {A = Values}
      (record { tn = word words (place_of n + 2); mask = mask; hsn = word words (place_of n + 3); maio = word words (place_of n + 4); combination = word words (place_of n + 5); tsc = word words (place_of n + 6) })
      (values_of (line_at (cell_of words) n))
  unfolding line_in
  values_in h {mask} e =
      ap {B = Values} (λ (m : ℕ). record { tn = word words (place_of n + 2); mask = m; hsn = word words (place_of n + 3); maio = word words (place_of n + 4); combination = word words (place_of n + 5); tsc = word words (place_of n + 6) })
      (e ∙ ap (λ (k : ℕ). word words k + 2 ^ 32 * word words (place_of n + 1)) (let z : place_of n ≡ place_of n + 0 = omega arith in z))
      ∙ ap values_of (sym (line_stored words n h))

  abbrev owners : ℕ → ℕ
  owners k = word words (place_of n + (7 + k))

  pub owner_stored : (s : ℕ) → n < 64 → s < 8 → owner_at (line_at (cell_of words) n) s ≡ word words (place_of n + (7 + s))
  unfolding line_in
  owner_stored s h b = ap (λ (l : LineState). owner_at l s) (line_stored words n h) ∙ tabulate_at 8 owners 0 s b

  -- past the last line, or past the last subchannel of one
  abbrev Nowhere : ℕ → Type 0
  Nowhere s = (63 < n) ⊎ ((n ≤ 63) × (7 < s))

  pub no_owner : (s : ℕ) → Nowhere s → owner_at (line_at (cell_of words) n) s ≡ 0
  unfolding line_in
  no_owner s (inl h) = ap (λ (l : LineState). owner_at l s) (line_past h)
  no_owner s (inr h) =
      ap (λ (l : LineState). owner_at l s) (line_stored words n (omega arith))
      ∙ get_or-eq_default (tabulate 8 owners) 0 (subst (λ (k : ℕ). k ≤ s) (sym (tabulate_length 8 owners)) h.1)

  -- of any line, and past the last one
  pub owner_in : (s : ℕ) → s < 8 → owner_at (line_at (cell_of words) n) s ≡ cond (ltb 63 n) 0 (word words (place_of n + (7 + s)))
  unfolding line_in
  owner_in s b = line_number (λ l. owner_at l s) (owners s) refl (tabulate_at 8 owners 0 s b)

  pub owner_past : (s : ℕ) → 8 ≤ s → owner_at (line_at (cell_of words) n) s ≡ 0
  owner_past s b = go (dec_lt 63 n)
    where
      go : Dec (63 < n) → owner_at (line_at (cell_of words) n) s ≡ 0
      go (yes h) = no_owner s (inl h)
      go (no h) = no_owner s (inr (omega arith, omega arith))

  -- with another line past the last one, or another owner past the last subchannel, the cell is the same
  abbrev with_lines : List LineState → Cell
  with_lines lines =
      record { ca = (cell_of words).ca; size = (cell_of words).size; c0 = (cell_of words).c0; bcc = (cell_of words).bcc; ag = (cell_of words).ag; p = (cell_of words).p; lines = lines }

  pub no_such_line : (l : LineState) → 63 < n → cell_of words ≡ with_line (cell_of words) n l
  unfolding cell_of
  no_such_line l h = ap with_lines (sym (set_out (tabulate 64 (line_in words)) n l (subst (λ (k : ℕ). k ≤ n) (sym (tabulate_length 64 (line_in words))) h)))

  pub no_such_owner : (s o : ℕ) → Nowhere s → cell_of words ≡ with_line (cell_of words) n (with_owner (line_at (cell_of words) n) s o)
  unfolding line_in
  no_such_owner s o (inl h) = no_such_line _ h
  no_such_owner s o (inr h) = ap with_lines (sym (ap (set (cell_of words).lines n) same ∙ set-get_or (cell_of words).lines n no_line))
    where
      l : LineState
      l = line_at (cell_of words) n

      count : length l.owners ≡ 8
      count = ap (λ (l : LineState). length l.owners) (line_stored words n (omega arith)) ∙ tabulate_length 8 owners

      same : with_owner l s o ≡ l
      same =
          ap {B = LineState} (λ (os : List ℕ). record { mask = l.mask; tn = l.tn; hsn = l.hsn; maio = l.maio; combination = l.combination; tsc = l.tsc; owners = os })
          (set_out l.owners s o (omega (arith, count, h.1)))

-- ---- equal words

-- the word is outside line n
abbrev pub Outside : ℕ → ℕ → Type 0
Outside n k = (k < place_of n) ⊎ (place_of n + 15 ≤ k)

-- a line by its fifteen words
line_by : (w : List ℕ) (n : ℕ) (f : ℕ → ℕ) → ((k : ℕ) → k < 15 → word w (place_of n + k) ≡ f k)
    → line_in w n ≡ record { mask = f 0 + 2 ^ 32 * f 1; tn = f 2; hsn = f 3; maio = f 4; combination = f 5; tsc = f 6; owners = tabulate 8 (λ s. f (7 + s)) }
unfolding line_in
line_by w n f e =
    let e0 = e 0 (omega arith) in
    let e1 = e 1 (omega arith) in
    let e2 = e 2 (omega arith) in
    let e3 = e 3 (omega arith) in
    let e4 = e 4 (omega arith) in
    let e5 = e 5 (omega arith) in
    let e6 = e 6 (omega arith) in
    let o = tabulate_same 8 (λ (s : ℕ). word w (place_of n + (7 + s))) (λ (s : ℕ). f (7 + s)) (λ s h. e (7 + s) (omega arith)) in
    cc

module _ (v w : List ℕ) where
  same_line : (n : ℕ) → ((k : ℕ) → k < 15 → word v (place_of n + k) ≡ word w (place_of n + k)) → line_in v n ≡ line_in w n
  unfolding line_in
  same_line n e = line_by v n (λ (k : ℕ). word w (place_of n + k)) e

  -- where only line n's words differ, the cell is the one with another line n
  pub other_line : (n : ℕ) → n < 64 → ((k : ℕ) → Outside n k → word w k ≡ word v k) → cell_of w ≡ with_line (cell_of v) n (line_in w n)
  unfolding cell_of
  other_line n h e =
      let ca = tabulate_same 64 (word w) (word v) (λ k b. e k (inl (omega arith))) in
      let e64 = e 64 (inl (omega arith)) in
      let e65 = e 65 (inl (omega arith)) in
      let e66 = e 66 (inl (omega arith)) in
      let e67 = e 67 (inl (omega arith)) in
      let e68 = e 68 (inl (omega arith)) in
      let lines = sym (tabulate_set 64 (line_in v) (line_in w) n (λ k b d. same_line k (λ j q. sym (e (place_of k + j) (apart k j d q))))) in
      cc
    where
      apart : (k j : ℕ) → (k ≡ n → ⊥) → j < 15 → Outside n (place_of k + j)
      apart k j d q = ordered (dec_lt k n)
        where
          ordered : Dec (k < n) → Outside n (place_of k + j)
          ordered (yes l) = inl (omega arith)
          ordered (no l) = inr (let m : n < k = omega arith in omega arith)

-- where one owner's word is set, the line has another owner
module _ (words : List ℕ) (n s o : ℕ) (h : n < 64) (b : s < 8) (long : length words ≡ 1029) where
  abbrev place : ℕ
  place = place_of n + (7 + s)

  abbrev after : List ℕ
  after = set words place o

  kept : (k : ℕ) → (k ≡ place → ⊥) → word after k ≡ word words k
  kept k d = get_or-set_other words place k o 0 d

  owned : set (tabulate 8 (λ k. word words (place_of n + (7 + k)))) s o ≡ tabulate 8 (λ k. word after (place_of n + (7 + k)))
  owned =
      ap (set (tabulate 8 (λ (k : ℕ). word words (place_of n + (7 + k)))) s) (sym (get_or-set_same words place o 0 (omega arith)))
      ∙ tabulate_set 8 (λ (k : ℕ). word words (place_of n + (7 + k))) (λ (k : ℕ). word after (place_of n + (7 + k))) s (λ k l d. sym (kept (place_of n + (7 + k)) (λ z. d (omega arith))))

  new_owner : line_in after n ≡ with_owner (line_in words n) s o
  unfolding line_in
  new_owner =
      let e0 = kept (place_of n + 0) (λ z. omega arith) in
      let e1 = kept (place_of n + 1) (λ z. omega arith) in
      let e2 = kept (place_of n + 2) (λ z. omega arith) in
      let e3 = kept (place_of n + 3) (λ z. omega arith) in
      let e4 = kept (place_of n + 4) (λ z. omega arith) in
      let e5 = kept (place_of n + 5) (λ z. omega arith) in
      let e6 = kept (place_of n + 6) (λ z. omega arith) in
      let e7 = owned in
      cc

  pub other_owner : cell_of after ≡ with_line (cell_of words) n (with_owner (line_at (cell_of words) n) s o)
  other_owner =
      other_line words after n h (λ k out. kept k (λ z. inside k out z))
      ∙ ap (with_line (cell_of words) n) (new_owner ∙ ap (λ (l : LineState). with_owner l s o) (sym (line_stored words n h)))
    where
      inside : (k : ℕ) → Outside n k → k ≡ place → ⊥
      inside k (inl l) z = omega arith
      inside k (inr l) z = omega arith

-- ---- a line's words written

-- a part of k words, from a on, is written with ys
module _ (xs ys : List ℕ) (a k : ℕ) (room : a + k ≤ length xs) (count : length ys ≡ k) where
  part_new : (j : ℕ) → j < k → word (put_mid a k xs ys) (a + j) ≡ word ys j
  part_new j h = grind (arith, places)

  part_old : (j : ℕ) → (j < a) ⊎ (a + k ≤ j) → word (put_mid a k xs ys) j ≡ word xs j
  part_old j o = grind (arith, places)

module _ (v : List ℕ) (n : ℕ) (values : Values) where
  -- the words of a line with these values and no owners
  abbrev words : List ℕ
  words = values.mask % 2 ^ 32 ∷ values.mask / 2 ^ 32 ∷ values.tn ∷ values.hsn ∷ values.maio ∷ values.combination ∷ values.tsc ∷ 0 ∷ 0 ∷ 0 ∷ 0 ∷ 0 ∷ 0 ∷ 0 ∷ 0 ∷ []

  new_line : (w : List ℕ) → ((k : ℕ) → k < 15 → word w (place_of n + k) ≡ word words k) → line_in w n ≡ line_with values free
  unfolding tabulate
  new_line w e =
      line_by w n (word words) e
      ∙ ap {B = LineState} (λ (m : ℕ). record { mask = m; tn = values.tn; hsn = values.hsn; maio = values.maio; combination = values.combination; tsc = values.tsc; owners = tabulate 8 free })
      (let m : values.mask % 2 ^ 32 + 2 ^ 32 * (values.mask / 2 ^ 32) ≡ values.mask = omega arith in m)

  -- where w has them in n's fifteen places, and elsewhere what v has
  pub filled_line : (w : List ℕ) → n < 64 → ((k : ℕ) → k < 15 → word w (place_of n + k) ≡ word words k) → ((k : ℕ) → Outside n k → word w k ≡ word v k)
      → cell_of w ≡ with_line (cell_of v) n (line_with values free)
  filled_line w b new old = other_line v w n b old ∙ ap (with_line (cell_of v) n) (new_line w new)

  -- as they are when these places are written at once
  pub line_put : (k : ℕ) (ys : List ℕ) → n < 64 → length v ≡ 1029 → k ≡ 15 → ys ≡ words → cell_of (put_mid (place_of n) k v ys) ≡ with_line (cell_of v) n (line_with values free)
  line_put k ys b long e q = subst (λ (j : ℕ). cell_of (put_mid (place_of n) j v ys) ≡ with_line (cell_of v) n (line_with values free)) (sym e) (subst (λ (zs : List ℕ). cell_of (put_mid (place_of n) 15 v zs) ≡ with_line (cell_of v) n (line_with values free)) (sym q) put)
    where
      room : place_of n + 15 ≤ length v
      room = omega arith

      put : cell_of (put_mid (place_of n) 15 v words) ≡ with_line (cell_of v) n (line_with values free)
      put = filled_line (put_mid (place_of n) 15 v words) b (part_new v words (place_of n) 15 room refl) (part_old v words (place_of n) 15 room refl)

-- ---- the words of a cell with all lines closed

-- 0 is read everywhere
pub zeros_at : (w : List ℕ) (n : ℕ) → w ≡ replicate n 0 → (k : ℕ) → word w k ≡ 0
zeros_at w n e k = ap (λ (x : List ℕ). word x k) e ∙ go (dec_lt k n)
  where
    go : Dec (k < n) → word (replicate n 0) k ≡ 0
    go (yes h) = get_or-replicate n k 0 0 h
    go (no h) = get_or-eq_default (replicate n 0) 0 (omega (arith, length-replicate {A = ℕ} n 0))

-- a line of zeros is closed
zero_line : (w : List ℕ) (n : ℕ) → ((k : ℕ) → k < 15 → word w (place_of n + k) ≡ 0) → line_in w n ≡ closed_line
unfolding closed_line
zero_line w n e = line_by w n (λ (k : ℕ). 0) e

-- u has the words of CA, and zeros in the places of the lines; then the five numbers are put
module _ (u ca : List ℕ) (p : Parameters) (f : (k : ℕ) → k < 64 → word u k ≡ word ca k) (g : (k : ℕ) → k < 960 → word u (69 + k) ≡ 0) (long : length u ≡ 1029) where
  abbrev with_length : List ℕ
  with_length = set u 64 (length ca)

  abbrev with_c0 : List ℕ
  with_c0 = set with_length 65 p.c0

  abbrev with_bcc : List ℕ
  with_bcc = set with_c0 66 p.bcc

  abbrev with_ag : List ℕ
  with_ag = set with_bcc 67 p.ag

  abbrev started : List ℕ
  started = set with_ag 68 p.p

  untouched : (k : ℕ) → (k < 64) ⊎ (69 ≤ k) → word started k ≡ word u k
  untouched k o =
      get_or-set_other with_ag 68 k p.p 0 (not_at 68 (omega arith) (omega arith)) ∙ get_or-set_other with_bcc 67 k p.ag 0 (not_at 67 (omega arith) (omega arith))
      ∙ get_or-set_other with_c0 66 k p.bcc 0 (not_at 66 (omega arith) (omega arith)) ∙ get_or-set_other with_length 65 k p.c0 0 (not_at 65 (omega arith) (omega arith))
      ∙ get_or-set_other u 64 k (length ca) 0 (not_at 64 (omega arith) (omega arith))
    where
      not_at : (j : ℕ) → 64 ≤ j → j < 69 → k ≡ j → ⊥
      not_at j a b e = ⊎_elim {C = ⊥} (λ l. omega arith) (λ l. omega arith) o

  long1 : length with_length ≡ 1029
  long1 = length-set u 64 (length ca) ∙ long

  long2 : length with_c0 ≡ 1029
  long2 = length-set with_length 65 p.c0 ∙ long1

  long3 : length with_bcc ≡ 1029
  long3 = length-set with_c0 66 p.bcc ∙ long2

  long4 : length with_ag ≡ 1029
  long4 = length-set with_bcc 67 p.ag ∙ long3

  entries : (k : ℕ) → k < 64 → word started k ≡ word ca k
  entries k h = untouched k (inl h) ∙ f k h

  zeros : (k : ℕ) → k < 960 → word started (69 + k) ≡ 0
  zeros k h = untouched (69 + k) (inr (omega arith)) ∙ g k h

  line_closed : (n : ℕ) → n < 64 → line_in started n ≡ closed_line
  line_closed n h = zero_line started n (λ k b. ap (word started) (let e : place_of n + k ≡ 69 + (15 * n + k) = omega arith in e) ∙ zeros (15 * n + k) (omega arith))

  pub filled_start : cell_of started ≡ empty ca p.c0 p.bcc p.ag p.p
  unfolding cell_of empty
  filled_start =
      let a = tabulate_same 64 (word started) (λ (k : ℕ). get_or ca k 0) entries in
      let l = tabulate_same 64 (line_in started) (λ (n : ℕ). closed_line) line_closed in
      let n4 = get_or-set_same with_ag 68 p.p 0 (omega (arith, long4)) in
      let n3 = get_or-set_other with_ag 68 67 p.p 0 (λ z. omega arith) ∙ get_or-set_same with_bcc 67 p.ag 0 (omega (arith, long3)) in
      let n2 = get_or-set_other with_ag 68 66 p.p 0 (λ z. omega arith) ∙ get_or-set_other with_bcc 67 66 p.ag 0 (λ z. omega arith) ∙ get_or-set_same with_c0 66 p.bcc 0 (omega (arith, long2)) in
      let n1 =
      get_or-set_other with_ag 68 65 p.p 0 (λ z. omega arith) ∙ get_or-set_other with_bcc 67 65 p.ag 0 (λ z. omega arith) ∙ get_or-set_other with_c0 66 65 p.bcc 0 (λ z. omega arith)
      ∙ get_or-set_same with_length 65 p.c0 0 (omega (arith, long1)) in
      let n0 =
      get_or-set_other with_ag 68 64 p.p 0 (λ z. omega arith) ∙ get_or-set_other with_bcc 67 64 p.ag 0 (λ z. omega arith) ∙ get_or-set_other with_c0 66 64 p.bcc 0 (λ z. omega arith)
      ∙ get_or-set_other with_length 65 64 p.c0 0 (λ z. omega arith) ∙ get_or-set_same u 64 (length ca) 0 (omega (arith, long)) in
      cc

-- a list of at most 64 entries is put
module _ (before : Cell) (ca : List ℕ) (p : Parameters) where
  pub start_put : length ca ≤ 64 → empty ca p.c0 p.bcc p.ag p.p ≡ started_from before ca p
  start_put h = sym (ap (λ (t : Bool). cond t before (empty ca p.c0 p.bcc p.ag p.p)) (le-ltb 64 (length ca) h))

-- ---- storage that holds one cell is the same in every word

module _ (v w : List ℕ) (sv : Stored v) (sw : Stored w) (e : cell_of v ≡ cell_of w) where
  same_lines : (n : ℕ) → n < 64 → line_in v n ≡ line_in w n
  same_lines n h = sym (line_stored v n h) ∙ ap (λ (c : Cell). line_at c n) e ∙ line_stored w n h

  -- the words of a line, from its fields
  line_words : (n : ℕ) → line_in v n ≡ line_in w n → (j : ℕ) → j < 15 → word v (place_of n + j) ≡ word w (place_of n + j)
  unfolding line_in
  line_words n q zero b =
      let m : word v (place_of n + 0) + 2 ^ 32 * word v (place_of n + 1) ≡ word w (place_of n + 0) + 2 ^ 32 * word w (place_of n + 1) = ap (λ (l : LineState). l.mask) q in
      omega (arith, m, sv.fit (place_of n + 0), sw.fit (place_of n + 0))
  line_words n q (suc zero) b =
      let m : word v (place_of n + 0) + 2 ^ 32 * word v (place_of n + 1) ≡ word w (place_of n + 0) + 2 ^ 32 * word w (place_of n + 1) = ap (λ (l : LineState). l.mask) q in
      omega (arith, m, sv.fit (place_of n + 0), sw.fit (place_of n + 0))
  line_words n q (suc (suc zero)) b = ap (λ (l : LineState). l.tn) q
  line_words n q (suc (suc (suc zero))) b = ap (λ (l : LineState). l.hsn) q
  line_words n q (suc (suc (suc (suc zero)))) b = ap (λ (l : LineState). l.maio) q
  line_words n q (suc (suc (suc (suc (suc zero))))) b = ap (λ (l : LineState). l.combination) q
  line_words n q (suc (suc (suc (suc (suc (suc zero)))))) b = ap (λ (l : LineState). l.tsc) q
  line_words n q (suc (suc (suc (suc (suc (suc (suc s))))))) b =
      let h : s < 8 = omega arith in
      let z : 7 + s ≡ suc (suc (suc (suc (suc (suc (suc s)))))) = omega arith in
      let o = ap (λ (l : LineState). owner_at l s) q in
      ap (λ (j : ℕ). word v (place_of n + j)) (sym z)
      ∙ sym (tabulate_at 8 (λ (k : ℕ). word v (place_of n + (7 + k))) 0 s h)
      ∙ o
      ∙ tabulate_at 8 (λ (k : ℕ). word w (place_of n + (7 + k))) 0 s h
      ∙ ap (λ (j : ℕ). word w (place_of n + j)) z

  five_words : (i : ℕ) → i < 5 → word v (64 + i) ≡ word w (64 + i)
  unfolding cell_of
  five_words zero b = ap (λ (c : Cell). c.size) e
  five_words (suc zero) b = ap (λ (c : Cell). c.c0) e
  five_words (suc (suc zero)) b = ap (λ (c : Cell). c.bcc) e
  five_words (suc (suc (suc zero))) b = ap (λ (c : Cell). c.ag) e
  five_words (suc (suc (suc (suc zero)))) b = ap (λ (c : Cell). c.p) e
  five_words (suc (suc (suc (suc (suc i))))) b = absurd (omega arith)

  same_word : (k : ℕ) → k < 1029 → word v k ≡ word w k
  same_word k h = part (dec_lt k 64) (dec_lt k 69)
    where
      part : Dec (k < 64) → Dec (k < 69) → word v k ≡ word w k
      part (yes l) d = sym (entry_in v k l) ∙ ap (λ (c : Cell). get_or c.ca k 0) e ∙ entry_in w k l
      part (no l) (yes m) =
          let z : 64 + (k - 64) ≡ k = omega arith in
          ap (word v) (sym z) ∙ five_words (k - 64) (omega arith) ∙ ap (word w) z
      part (no l) (no m) =
          let n : ℕ = (k - 69) / 15 in
          let j : ℕ = (k - 69) % 15 in
          let z : place_of n + j ≡ k = omega arith in
          ap (word v) (sym z) ∙ line_words n (same_lines n (omega arith)) j (omega arith) ∙ ap (word w) z

pub same_words : SameWords
unfolding SameWords
same_words v w sv sw e = ext_get_or 0 v w (sv.count ∙ sym sw.count) (λ k h. same_word v w sv sw e k (let c = sv.count in omega arith))
