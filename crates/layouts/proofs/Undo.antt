-- Building a burst and taking it apart undo each other: laws over any row, then of the calls. Assumes nothing.
use Prim.Native.Nat.{ℕ, zero, suc, ◌+◌, ◌%◌, ◌≤◌, ◌<◌}
use mathlib.Core.Path.{◌≡◌, refl, sym, ap, ◌∙◌}
use mathlib.Core.Bool.{Bool, true, false, not}
use mathlib.Core.List.{List, [], ◌∷◌, ◌++◌}
use mathlib.Core.Option.{Option, none, some}
use native.Mathlib.Decide.{dec_lt}
use native.Mathlib.Omega.{arith}
use lib.Dec.{ltb, eqb}
use lib.ListN.{length, drop, get_or, get_or-eq_default}
use lib.Seq.{get_or-drop}
use borrow.Author.Tests.{le-ltb, eq-eqb, eqb-true, not-true, not-false}
use Rattle.answers.specs.Outcome.{Cause, decide}
use Rattle.answers.specs.Search.{any_below}
use Rattle.std.specs.Prelude.{Result, Ok, Err}
use Rattle.answers.specs.declared.Refusal.{Refusal}
use Rattle.answers.specs.Refusals.{refusal_in}
use Rattle.answers.specs.Claims.{NoCause}
use Rattle.answers.proofs.Search.{any_at, any_none}
use Rattle.answers.proofs.Tables.{every}
use Rattle.answers.proofs.Tests.{and_left, and_right, refute, not_both}
use Rattle.layouts.specs.Layouts.{bits, normal, synchronization, access}
use Rattle.layouts.specs.Rows.{Row, row_of, room, built, taken, is_other, differs}
use Rattle.layouts.specs.Bursts.{Written, written, wrote, byte_above_one, no_code, build_causes, take_causes, build_of, take_of, build_normal_of, take_normal_of}
use Rattle.layouts.specs.Claims.{done, Call, UndoEachOther, UndoEachOtherByCode, RoundTrips}
use Rattle.layouts.proofs.Accepted.{accepted_shows, no_cause_accepts}
use Rattle.layouts.proofs.WellFormed.{well_formed, not_malformed}

-- ---- lengths

pub length_built : (row : Row) (payload : List ℕ) → length (built row payload) ≡ length row
unfolding built
length_built [] payload = refl
length_built (some bit ∷ row) payload = ap suc (length_built row payload)
length_built (none ∷ row) payload = ap suc (length_built row (drop 1 payload))

pub length_taken : (row : Row) (burst : List ℕ) → length (taken row burst) ≡ room row
unfolding taken room
length_taken [] burst = refl
length_taken (some bit ∷ row) burst = length_taken row (drop 1 burst)
length_taken (none ∷ row) burst = ap suc (length_taken row (drop 1 burst))

-- ---- each undoes the other

pub taken_built : (row : Row) (payload : List ℕ) → length payload ≡ room row → taken row (built row payload) ≡ payload
unfolding built taken room
taken_built [] [] h = refl
taken_built [] (x ∷ payload) h = absurd (omega arith)
taken_built (some bit ∷ row) payload h = taken_built row payload h
taken_built (none ∷ row) [] h = absurd (omega arith)
taken_built (none ∷ row) (x ∷ payload) h = ap (λ (l : List ℕ). x ∷ l) (taken_built row payload (omega arith))

pub built_taken : (row : Row) (burst : List ℕ) → length burst ≡ length row → ((k : ℕ) → differs row burst k ≡ false) → built row (taken row burst) ≡ burst
unfolding built taken
built_taken [] [] h same = refl
built_taken [] (x ∷ burst) h same = absurd (omega arith)
built_taken (some bit ∷ row) [] h same = absurd (omega arith)
built_taken (some bit ∷ row) (x ∷ burst) h same =
    let e : x ≡ bit = eqb-true x bit (not-false (eqb x bit) (same 0)) in
    let q = built_taken row burst (omega arith) (λ k. same (suc k)) in cc
built_taken (none ∷ row) [] h same = absurd (omega arith)
built_taken (none ∷ row) (x ∷ burst) h same = ap (λ (l : List ℕ). x ∷ l) (built_taken row burst (omega arith) (λ k. same (suc k)))

pub built_differs_nowhere : (row : Row) (payload : List ℕ) (k : ℕ) → differs row (built row payload) k ≡ false
unfolding built
built_differs_nowhere [] payload k = refl
built_differs_nowhere (some bit ∷ row) payload zero = ap not (eq-eqb bit bit refl)
built_differs_nowhere (some bit ∷ row) payload (suc k) = built_differs_nowhere row payload k
built_differs_nowhere (none ∷ row) payload zero = refl
built_differs_nowhere (none ∷ row) payload (suc k) = built_differs_nowhere row (drop 1 payload) k

-- ---- no fixed bit differs, and no byte is above 1

-- where no number below n passes, and none from n on does, none does
none_passes : (test : ℕ → Bool) (n : ℕ) → any_below test n ≡ false → ((k : ℕ) → n ≤ k → test k ≡ false) → (k : ℕ) → test k ≡ false
none_passes test n h past k = go (dec_lt k n)
  where
    go : Dec (k < n) → test k ≡ false
    go (yes l) = refute (test k) (λ t. not_both (any_at test n k l t) h)
    go (no l) = past k (omega arith)

-- past the row no bit is fixed
pub differs_nowhere : (row : Row) (burst : List ℕ) → any_below (differs row burst) (length row) ≡ false → (k : ℕ) → differs row burst k ≡ false
differs_nowhere row burst h =
    none_passes (differs row burst) (length row) h (λ k l. ap (λ (x : Option ℕ). is_other x (get_or burst k 0)) (get_or-eq_default row none l))

-- the byte at k is above 1, as `byte_above_one` asks
abbrev above : List ℕ → ℕ → Bool
above bytes k = ltb 1 (get_or bytes k 0)

none_above : (bytes : List ℕ) → byte_above_one bytes ≡ false → (k : ℕ) → above bytes k ≡ false
unfolding byte_above_one
none_above bytes h = none_passes (above bytes) (length bytes) h (λ k l. ap (ltb 1) (get_or-eq_default bytes 0 l))

none_above_rest : (bytes : List ℕ) → ((k : ℕ) → above bytes k ≡ false) → (k : ℕ) → above (drop 1 bytes) k ≡ false
none_above_rest bytes h k = ap (ltb 1) (get_or-drop 1 bytes k 0) ∙ h (1 + k)

-- no fixed state is above 1
abbrev pub is_bit : Option ℕ → Bool
is_bit none = true
is_bit (some state) = not (ltb 1 state)

abbrev pub are_bits : Row → Bool
are_bits row = every is_bit row

none_above_built : (row : Row) (payload : List ℕ) → are_bits row ≡ true → ((k : ℕ) → above payload k ≡ false) → (k : ℕ) → above (built row payload) k ≡ false
unfolding built every
none_above_built [] payload fixed h k = refl
none_above_built (some bit ∷ row) payload fixed h zero = not-true (ltb 1 bit) (and_left (is_bit (some bit)) (are_bits row) fixed)
none_above_built (some bit ∷ row) payload fixed h (suc k) = none_above_built row payload (and_right (is_bit (some bit)) (are_bits row) fixed) h k
none_above_built (none ∷ row) payload fixed h zero = h 0
none_above_built (none ∷ row) payload fixed h (suc k) = none_above_built row (drop 1 payload) fixed (none_above_rest payload h) k

none_above_taken : (row : Row) (burst : List ℕ) → ((k : ℕ) → above burst k ≡ false) → (k : ℕ) → above (taken row burst) k ≡ false
unfolding taken
none_above_taken [] burst h k = refl
none_above_taken (some bit ∷ row) burst h k = none_above_taken row (drop 1 burst) (none_above_rest burst h) k
none_above_taken (none ∷ row) burst h zero = h 0
none_above_taken (none ∷ row) burst h (suc k) = none_above_taken row (drop 1 burst) (none_above_rest burst h) k

pub built_bits : (row : Row) (payload : List ℕ) → are_bits row ≡ true → byte_above_one payload ≡ false → byte_above_one (built row payload) ≡ false
unfolding byte_above_one
built_bits row payload fixed h = any_none (above (built row payload)) _ (λ k l. none_above_built row payload fixed (none_above payload h) k)

pub taken_bits : (row : Row) (burst : List ℕ) → byte_above_one burst ≡ false → byte_above_one (taken row burst) ≡ false
unfolding byte_above_one
taken_bits row burst h = any_none (above (taken row burst)) _ (λ k l. none_above_taken row burst (none_above burst h) k)

-- ---- the calls

-- no cause in two lists is no cause in both together
no_cause_both : (cs ds : List Cause) → NoCause cs → NoCause ds → NoCause (cs ++ ds)
no_cause_both [] ds h k = k
no_cause_both (c ∷ cs) ds h k = (h.0, no_cause_both cs ds h.1 k)

no_cause_parts : (cs ds : List Cause) → NoCause (cs ++ ds) → NoCause cs × NoCause ds
no_cause_parts [] ds h = (tt, h)
no_cause_parts (c ∷ cs) ds h = let w = no_cause_parts cs ds h.1 in ((h.0, w.0), w.1)

-- calls that look for other causes first
module _ (row : Row) (others : List Cause) where
  abbrev build_after : Call
  build_after payload burst = written burst (decide (others ++ build_causes row payload burst) (built row payload))

  abbrev take_after : Call
  take_after burst payload = written payload (decide (others ++ take_causes row burst payload) (taken row burst))

  undo_after : are_bits row ≡ true → UndoEachOther build_after take_after
  undo_after fixed = record { take_undoes_build = take_build; build_undoes_take = build_take }
    where
      take_build : (payload burst lent : List ℕ) → (build_after payload burst).refusal ≡ none → length lent ≡ length payload
          → take_after (build_after payload burst).bytes lent ≡ done payload
      take_build payload burst lent e same =
          let shown = accepted_shows burst (built row payload) (others ++ build_causes row payload burst) e in
          let free = no_cause_parts others (build_causes row payload burst) shown.1 in
          let fit = well_formed row burst payload payload free.1.0 in
          ap (λ (w : Written). take_after w.bytes lent) shown.0
          ∙ (no_cause_accepts lent (taken row (built row payload)) (others ++ take_causes row (built row payload) lent)
          (no_cause_both others (take_causes row (built row payload) lent) free.0 (
            not_malformed row (built row payload) lent (built row payload) (length_built row payload, same ∙ fit.1, built_bits row payload fixed fit.2),
            ((any_none (differs row (built row payload)) (length row) (λ k l. built_differs_nowhere row payload k), tt), tt),
          ))
          ∙ ap done (taken_built row payload fit.1))

      build_take : (burst payload lent : List ℕ) → (take_after burst payload).refusal ≡ none → length lent ≡ length burst
          → build_after (take_after burst payload).bytes lent ≡ done burst
      build_take burst payload lent e same =
          let shown = accepted_shows payload (taken row burst) (others ++ take_causes row burst payload) e in
          let free = no_cause_parts others (take_causes row burst payload) shown.1 in
          let fit = well_formed row burst payload burst free.1.0 in
          ap (λ (w : Written). build_after w.bytes lent) shown.0
          ∙ (no_cause_accepts lent (built row (taken row burst)) (others ++ build_causes row (taken row burst) lent)
          (no_cause_both others (build_causes row (taken row burst) lent) free.0
          (not_malformed row lent (taken row burst) (taken row burst) (same ∙ fit.0, length_taken row burst, taken_bits row burst fit.2), tt))
          ∙ ap done (built_taken row burst fit.0 (differs_nowhere row burst free.1.1.0.0)))

pub undo : (row : Row) → are_bits row ≡ true → UndoEachOther (build_of row) (take_of row)
unfolding build_of take_of
undo row fixed = undo_after row [] fixed

-- ---- the states of the normal burst are bits, whatever the code

bit_is_bit : (n : ℕ) → not (ltb 1 (n % 2)) ≡ true
bit_is_bit n = ap not (le-ltb 1 (n % 2) (omega arith))

normal_bits : (tsc : ℕ) → are_bits (row_of (normal tsc)) ≡ true
unfolding row_of normal bits every
normal_bits tsc = simp bit_is_bit

-- ---- the code, by its promises

accepted_answer : (s : Result Unit Refusal) → refusal_in s ≡ none → s ≡ Ok tt
accepted_answer (Ok tt) e = refl
accepted_answer (Err r) e = cc

-- g after f gives back what f read
undone_by_code : (f g : Call) → ((x before lent : List ℕ) → (f x before).refusal ≡ none → length lent ≡ length x → g (f x before).bytes lent ≡ done x)
    → (x before y lent after : List ℕ) (r s : Result Unit Refusal) → wrote r y ≡ f x before → wrote s after ≡ g y lent → r ≡ Ok tt → length lent ≡ length x
    → (s ≡ Ok tt) × (after ≡ x)
undone_by_code f g undoes x before y lent after r s fr gs ok same =
    let e : (f x before).refusal ≡ none = sym (ap (λ (w : Written). w.refusal) fr) ∙ ap refusal_in ok in
    let q : wrote s after ≡ done x = gs ∙ (ap (λ (w : Written). g w.bytes lent) fr ∙ undoes x before lent e same) in
    (accepted_answer s (ap (λ (w : Written). w.refusal) q), ap (λ (w : Written). w.bytes) q)

by_code : (build take : Call) → UndoEachOther build take → UndoEachOtherByCode build take
by_code build take u =
    record { take_undoes_build = undone_by_code build take u.take_undoes_build; build_undoes_take = undone_by_code take build u.build_undoes_take }

-- ---- all of that

pub round_trips : RoundTrips
unfolding build_normal_of take_normal_of row_of synchronization access bits every
round_trips =
    record {
      normal = λ tsc. undo_after (row_of (normal tsc)) (no_code tsc ∷ []) (normal_bits tsc);
      synchronization = undo (row_of synchronization) refl;
      access = undo (row_of access) refl;
      by_code = by_code;
    }
