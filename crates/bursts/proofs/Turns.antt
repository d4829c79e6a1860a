-- One turn of a loop over a layout's fields: the rows that are left, and the front of the bytes that are written. Assumes nothing.
use Prim.Native.Nat.{ℕ, ◌+◌, ◌-◌, ◌≤◌, ◌<◌}
use mathlib.Core.Path.{◌≡◌, sym, ap, ◌∙◌}
use mathlib.Core.Bool.{false}
use mathlib.Core.List.{List, [], ◌++◌, append-nil, append_assoc}
use native.Mathlib.Numerals.{add-one}
use native.Mathlib.Decide.{dec_lt}
use native.Mathlib.Omega.{arith}
use borrow.Rule.Slice.PartMut.{put_mid, mid_len, same_len_mid}
use lib.ListN.{length, take, drop, get_or, length-append, drop_of_length-le}
use lib.Seq.{drop-cons, take_at, length-take-le}
use Rattle.bursts.specs.declared.field.Field.{Field}
use Rattle.layouts.specs.Rows.{Row, room, built, taken, differs}
use Rattle.bursts.specs.Helpers.{width, payload_of, field_row, fields_row, NoneWrong}
use Rattle.layouts.proofs.Undo.{length_built, length_taken}
use Rattle.bursts.proofs.FieldRows.{length_field, room_field, room_append, built_append, taken_append, differs_front, differs_after}

-- w bytes from a on
pub part_length : (a w : ℕ) (l : List ℕ) → a + w ≤ length l → length (take (a + w - a) (drop a l)) ≡ w
part_length a w l h = mid_len a (a + w) l h ∙ omega arith

-- w bytes from a on are lent and come back as ys: as many bytes are there, and those up to the end of the part are the front of what is wanted
module _ (a w : ℕ) (xs ys : List ℕ) (h : a + w ≤ length xs) (l : length ys ≡ w) where
  pub part_kept : length (put_mid a (a + w - a) xs ys) ≡ length xs
  part_kept = same_len_mid a (a + w - a) xs ys (l ∙ sym (part_length a w xs h))

  part_front : take (a + w) (put_mid a (a + w - a) xs ys) ≡ take a xs ++ ys
  part_front =
      ap (λ (z : List ℕ). take (a + w) z) (sym (append_assoc (take a xs) ys (drop (a + w - a) (drop a xs))))
      ∙ take_at (take a xs ++ ys) (drop (a + w - a) (drop a xs)) (a + w) (length-append (take a xs) ys ∙ omega (arith, length-take-le a xs (omega arith), l))

  pub part_written : (whole rest next : List ℕ) → whole ≡ take a xs ++ rest → rest ≡ ys ++ next → whole ≡ take (a + w) (put_mid a (a + w - a) xs ys) ++ next
  part_written whole rest next e r =
      e ∙ ap (λ (z : List ℕ). take a xs ++ z) r ∙ sym (append_assoc (take a xs) ys next) ∙ ap (λ (z : List ℕ). z ++ next) (sym part_front)

-- the row of the fields from i on
abbrev pub row_from : ℕ → List Field → Row
row_from i fields = fields_row (drop i fields)

-- an element past the end would be read as a field of no bits
abbrev past : Field
past = Field.Fixed 0 0

abbrev pub field_at : List Field → ℕ → Field
field_at fields i = get_or fields i past

-- the field at i, and those after it
module _ (fields : List Field) (i : ℕ) (h : i < length fields) where
  row_cons : row_from i fields ≡ field_row (field_at fields i) ++ row_from (i + 1) fields
  unfolding fields_row
  row_cons = ap fields_row (drop-cons fields i past h) ∙ ap (λ (m : ℕ). field_row (field_at fields i) ++ row_from m fields) (sym (add-one i))

  pub length_from : length (row_from i fields) ≡ width (field_at fields i) + length (row_from (i + 1) fields)
  length_from =
      ap (λ (r : Row). length r) row_cons ∙ length-append (field_row (field_at fields i)) (row_from (i + 1) fields)
      ∙ ap (λ (n : ℕ). n + length (row_from (i + 1) fields)) (length_field (field_at fields i))

  pub room_from : room (row_from i fields) ≡ payload_of (field_at fields i) + room (row_from (i + 1) fields)
  room_from =
      ap room row_cons ∙ room_append (field_row (field_at fields i)) (row_from (i + 1) fields) ∙ ap (λ (n : ℕ). n + room (row_from (i + 1) fields)) (room_field (field_at fields i))

  pub built_from : (payload : List ℕ) (m : ℕ) → m ≡ payload_of (field_at fields i)
      → built (row_from i fields) payload ≡ built (field_row (field_at fields i)) (take m payload) ++ built (row_from (i + 1) fields) (drop m payload)
  built_from payload m q =
      ap (λ (r : Row). built r payload) row_cons ∙ built_append (field_row (field_at fields i)) (row_from (i + 1) fields) payload
      ∙ ap (λ (n : ℕ). built (field_row (field_at fields i)) (take n payload) ++ built (row_from (i + 1) fields) (drop n payload)) (room_field (field_at fields i) ∙ sym q)

  pub taken_from : (burst : List ℕ) (m : ℕ) → m ≡ width (field_at fields i)
      → taken (row_from i fields) burst ≡ taken (field_row (field_at fields i)) (take m burst) ++ taken (row_from (i + 1) fields) (drop m burst)
  taken_from burst m q =
      ap (λ (r : Row). taken r burst) row_cons ∙ taken_append (field_row (field_at fields i)) (row_from (i + 1) fields) burst
      ∙ ap (λ (n : ℕ). taken (field_row (field_at fields i)) (take n burst) ++ taken (row_from (i + 1) fields) (drop n burst)) (length_field (field_at fields i) ∙ sym q)

  -- what differs in the field, and what after it
  module _ (burst : List ℕ) (m : ℕ) (q : m ≡ width (field_at fields i)) where
    same : m ≡ length (field_row (field_at fields i))
    same = q ∙ sym (length_field (field_at fields i))

    pub differs_here : (k : ℕ) → k < m → differs (row_from i fields) burst k ≡ differs (field_row (field_at fields i)) (take m burst) k
    differs_here k l =
        ap (λ (r : Row). differs r burst k) row_cons ∙ differs_front (field_row (field_at fields i)) (row_from (i + 1) fields) burst k (omega (arith, same))
        ∙ ap (λ (n : ℕ). differs (field_row (field_at fields i)) (take n burst) k) (sym same)

    pub differs_rest : (k : ℕ) → differs (row_from i fields) burst (m + k) ≡ differs (row_from (i + 1) fields) (drop m burst) k
    differs_rest k =
        ap (λ (r : Row). differs r burst (m + k)) row_cons ∙ ap (λ (n : ℕ). differs (field_row (field_at fields i) ++ row_from (i + 1) fields) burst (n + k)) same
        ∙ differs_after (field_row (field_at fields i)) (row_from (i + 1) fields) burst k ∙ ap (λ (n : ℕ). differs (row_from (i + 1) fields) (drop n burst) k) (sym same)

-- where none differs before a, and none of the next n, none before their end does
pub none_more : (row : Row) (burst : List ℕ) (a n : ℕ) → NoneWrong row burst a → ((k : ℕ) → k < n → differs row burst (a + k) ≡ false) → NoneWrong row burst (a + n)
none_more row burst a n before here k h = go (dec_lt k a)
  where
    go : Dec (k < a) → differs row burst k ≡ false
    go (yes l) = before k l
    go (no l) = ap (λ (i : ℕ). differs row burst i) (omega arith) ∙ here (k - a) (omega arith)

-- after the last field nothing is
module _ (fields : List Field) (i : ℕ) (h : length fields ≤ i) where
  none_left : row_from i fields ≡ []
  unfolding fields_row
  none_left = ap fields_row (drop_of_length-le fields {i = i} h)

  pub no_length : length (row_from i fields) ≡ 0
  no_length = ap (λ (r : Row). length r) none_left

  pub no_room : room (row_from i fields) ≡ 0
  unfolding room
  no_room = ap room none_left

  pub none_built : (payload : List ℕ) → built (row_from i fields) payload ≡ []
  unfolding built
  none_built payload = ap (λ (r : Row). built r payload) none_left

  pub none_taken : (burst : List ℕ) → taken (row_from i fields) burst ≡ []
  unfolding taken
  none_taken burst = ap (λ (r : Row). taken r burst) none_left

-- what was written or read for a field has its length
pub built_length : (f : Field) (payload ys : List ℕ) → ys ≡ built (field_row f) payload → length ys ≡ width f
built_length f payload ys e = ap (λ (l : List ℕ). length l) e ∙ length_built (field_row f) payload ∙ length_field f

pub taken_length : (f : Field) (burst ys : List ℕ) → ys ≡ taken (field_row f) burst → length ys ≡ payload_of f
taken_length f burst ys e = ap (λ (l : List ℕ). length l) e ∙ length_taken (field_row f) burst ∙ room_field f

-- after the last field the front is the whole
pub whole_front : (whole xs rest : List ℕ) (a n : ℕ) → rest ≡ [] → a ≡ n → whole ≡ take a xs ++ rest → take n xs ≡ whole
whole_front whole xs rest a n r e w = sym (w ∙ ap (λ (l : List ℕ). take a xs ++ l) r ∙ append-nil (take a xs) ∙ ap (λ (i : ℕ). take i xs) e)
