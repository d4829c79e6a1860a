-- Laws of rows that are put together of fields: how wide they are, what is built, taken and wrong in one field, and in one after another.
-- Assumes nothing.
use Prim.Native.Nat.{ℕ, zero, suc, ◌+◌, ◌<◌}
use mathlib.Core.Path.{◌≡◌, refl, sym, ap, ◌∙◌}
use mathlib.Core.Bool.{false, not}
use mathlib.Core.List.{List, [], ◌∷◌, ◌++◌, map}
use mathlib.Core.Option.{Option, none, some}
use native.Mathlib.Nat.{zero-add, suc-add}
use native.Mathlib.Omega.{arith}
use lib.Dec.{eqb}
use lib.ListN.{length, take, drop, get_or, replicate, length-replicate, length-map}
use Rattle.std.proofs.lemmas.List.{get_or-map, get_or-take, get_or-drop, get_or-append-add, get_or_append_left}
use Rattle.bursts.specs.declared.field.Field.{Field}
use Rattle.layouts.specs.Layouts.{bits}
use Rattle.layouts.specs.Rows.{Row, room, built, taken, is_other, differs}
use Rattle.bursts.specs.Helpers.{width, payload_of, field_row}
use Rattle.layouts.proofs.Bits.{length_bits}

-- ---- fixed bits, and room for payload bits

room_states : (states : List ℕ) → room (map some states) ≡ 0
unfolding room
room_states [] = refl
room_states (s ∷ states) = room_states states

room_free : (n : ℕ) → room (replicate n none) ≡ n
unfolding room
room_free zero = refl
room_free (suc n) = ap suc (room_free n)

built_states : (states payload : List ℕ) → built (map some states) payload ≡ states
unfolding built
built_states [] payload = refl
built_states (s ∷ states) payload = ap (λ (l : List ℕ). s ∷ l) (built_states states payload)

built_free : (payload : List ℕ) → built (replicate (length payload) none) payload ≡ payload
unfolding built
built_free [] = refl
built_free (b ∷ payload) = ap (λ (l : List ℕ). b ∷ l) (built_free payload)

taken_states : (states burst : List ℕ) → taken (map some states) burst ≡ []
unfolding taken
taken_states [] burst = refl
taken_states (s ∷ states) burst = taken_states states (drop 1 burst)

taken_free : (burst : List ℕ) → taken (replicate (length burst) none) burst ≡ burst
unfolding taken
taken_free [] = refl
taken_free (b ∷ burst) = ap (λ (l : List ℕ). b ∷ l) (taken_free burst)

-- where no bit is fixed none differs, and where all are it is those that are other bits
free_at : (n k : ℕ) (b : List ℕ) → differs (replicate n none) b k ≡ false
free_at zero k b = refl
free_at (suc n) zero b = refl
free_at (suc n) (suc k) [] = free_at n k []
free_at (suc n) (suc k) (x ∷ b) = free_at n k b

pub states_at : (states b : List ℕ) (k : ℕ) → k < length states → differs (map some states) b k ≡ not (eqb (get_or b k 0) (get_or states k 0))
states_at states b k h = ap (λ (x : Option ℕ). is_other x (get_or b k 0)) (get_or-map some states k 0 none h)

-- ---- a field

pub length_field : (f : Field) → length (field_row f) ≡ width f
unfolding field_row
length_field (Field.Fixed n word) = length-map (bits n word) some ∙ length_bits n word
length_field (Field.Room n) = length-replicate n none

pub room_field : (f : Field) → room (field_row f) ≡ payload_of f
unfolding field_row
room_field (Field.Fixed n word) = room_states (bits n word)
room_field (Field.Room n) = room_free n

-- what each arm of a `match` on the field has written, read or compared
module _ (f : Field) (n word : ℕ) (e : f ≡ Field.Fixed n word) where
  pub row_fixed : (m : ℕ) → m ≡ width f → map some (bits m word) ≡ field_row f
  unfolding field_row
  row_fixed m h = ap (λ (i : ℕ). map some (bits i word)) (h ∙ ap width e) ∙ ap field_row (sym e)

  pub written_fixed : (to payload : List ℕ) → length to ≡ width f → bits (length to) word ≡ built (field_row f) payload
  written_fixed to payload h = sym (built_states (bits (length to) word) payload) ∙ ap (λ (row : Row). built row payload) (row_fixed (length to) h)

  pub read_fixed : (payload burst : List ℕ) → length payload ≡ payload_of f → payload ≡ taken (field_row f) burst
  read_fixed payload burst h = empty payload (h ∙ ap payload_of e) ∙ sym (taken_states (bits (width f) word) burst) ∙ ap (λ (row : Row). taken row burst) (row_fixed (width f) refl)
    where
      empty : (l : List ℕ) → length l ≡ 0 → l ≡ []
      empty [] h = refl
      empty (x ∷ l) h = absurd (omega arith)

module _ (f : Field) (n : ℕ) (e : f ≡ Field.Room n) where
  row_room : (m : ℕ) → m ≡ n → replicate m none ≡ field_row f
  unfolding field_row
  row_room m h = ap (λ (i : ℕ). replicate i none) h ∙ ap field_row (sym e)

  pub written_room : (payload : List ℕ) → length payload ≡ payload_of f → payload ≡ built (field_row f) payload
  written_room payload h = sym (built_free payload) ∙ ap (λ (row : Row). built row payload) (row_room (length payload) (h ∙ ap payload_of e))

  pub read_room : (burst : List ℕ) → length burst ≡ width f → burst ≡ taken (field_row f) burst
  read_room burst h = sym (taken_free burst) ∙ ap (λ (row : Row). taken row burst) (row_room (length burst) (h ∙ ap width e))

  pub none_wrong_room : (burst : List ℕ) (k : ℕ) → differs (field_row f) burst k ≡ false
  none_wrong_room burst k = ap (λ (row : Row). differs row burst k) (sym (row_room n refl)) ∙ free_at n k burst

-- ---- one row after another

pub room_append : (r s : Row) → room (r ++ s) ≡ room r + room s
unfolding room
room_append [] s = sym (zero-add (room s))
room_append (some b ∷ r) s = room_append r s
room_append (none ∷ r) s = ap suc (room_append r s) ∙ sym (suc-add (room r) (room s))

-- the first bits of a list, by one
first : (n : ℕ) (l : List ℕ) → get_or (take (suc n) l) 0 0 ≡ get_or l 0 0
first n [] = refl
first n (x ∷ l) = refl

rest : (n : ℕ) (l : List ℕ) → drop 1 (take (suc n) l) ≡ take n (drop 1 l)
rest zero [] = refl
rest (suc n) [] = refl
rest n (x ∷ l) = refl

drop_by_one : (n : ℕ) (l : List ℕ) → drop n (drop 1 l) ≡ drop (suc n) l
drop_by_one zero [] = refl
drop_by_one (suc n) [] = refl
drop_by_one n (x ∷ l) = refl

-- the first row takes as much of the payload as it has room for, the second the rest
pub built_append : (r s : Row) (p : List ℕ) → built (r ++ s) p ≡ built r (take (room r) p) ++ built s (drop (room r) p)
unfolding built room
built_append [] s p = refl
built_append (some b ∷ r) s p = ap (λ (l : List ℕ). b ∷ l) (built_append r s p)
built_append (none ∷ r) s p = rw (first (room r) p, rest (room r) p, built_append r s (drop 1 p), drop_by_one (room r) p) refl

pub taken_append : (r s : Row) (b : List ℕ) → taken (r ++ s) b ≡ taken r (take (length r) b) ++ taken s (drop (length r) b)
unfolding taken
taken_append [] s b = refl
taken_append (some x ∷ r) s b = rw (rest (length r) b, taken_append r s (drop 1 b), drop_by_one (length r) b) refl
taken_append (none ∷ r) s b = rw (first (length r) b, rest (length r) b, taken_append r s (drop 1 b), drop_by_one (length r) b) refl

-- a bit of the first row differs where that row differs in its part, and one of the second where that row does in the rest
pub differs_front : (r s : Row) (b : List ℕ) (k : ℕ) → k < length r → differs (r ++ s) b k ≡ differs r (take (length r) b) k
differs_front r s b k h =
    ap (λ (x : Option ℕ). is_other x (get_or b k 0)) (get_or_append_left r s none k h) ∙ ap (is_other (get_or r k none)) (sym (get_or-take (length r) b k 0 h))

pub differs_after : (r s : Row) (b : List ℕ) (k : ℕ) → differs (r ++ s) b (length r + k) ≡ differs s (drop (length r) b) k
differs_after r s b k =
    ap (λ (x : Option ℕ). is_other x (get_or b (length r + k) 0)) (get_or-append-add r s k none) ∙ ap (is_other (get_or s k none)) (sym (get_or-drop (length r) b k 0))
