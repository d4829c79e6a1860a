-- Bytes that are changed where they stand, one after the other. Assumes nothing.
use Rattle.std.proofs.Common.{◌≡◌, ℕ, ◌+◌, ◌-◌, ◌<◌, ◌≤◌, List, [], ◌++◌, length, take, drop, map, get_or, set, refl, sym, ap, ◌∙◌, append-nil, length-append, arith}
use Rattle.std.proofs.Math.Seq.{take-length, drop-length}
use borrow.Rule.Slice.PartMut.{post_of}
use Rattle.std.specs.List.{refill}
use Rattle.std.proofs.lemmas.List.{take_all, drop_all, take_at, drop_at, length-map, get_or_default, take-map}
use Rattle.std.proofs.lemmas.List.Edits.{map_over_more}
use Rattle.wording.specs.Print.{written}

-- what was lent has as many elements after it
refilled : (xs ys : List ℕ) → length ys ≡ length xs → refill (length xs) xs ys ≡ ys
refilled xs ys same =
    ap (λ (n : ℕ). take (length xs) (ys ++ drop n xs)) same
    ∙ ap (λ (l : List ℕ). take (length xs) (ys ++ l)) (drop-length xs)
    ∙ ap (take (length xs)) (append-nil ys)
    ∙ ap (λ (n : ℕ). take n ys) (sym same)
    ∙ take-length ys

-- the bytes before i are changed
module _ (f : ℕ → ℕ) (xs ys : List ℕ) (i : ℕ) (inv : ys ≡ map f (take i xs) ++ drop i xs) where
  pub one_more : i < length xs → length ys ≡ length xs → (y : ℕ) → y ≡ f (get_or ys i 0) → set ys i y ≡ map f (take (i + 1) xs) ++ drop (i + 1) xs
  one_more b same y e =
      let within : i < length ys = omega (arith, b, same) in
      ap (set ys i) e ∙ map_over_more f xs ys i (get_or ys i 0) b inv (get_or_default ys i 0 (get_or ys i 0) within)

  pub all_changed : length xs ≤ i → ys ≡ map f xs
  all_changed h =
      inv
      ∙ ap (λ (l : List ℕ). map f (take i xs) ++ l) (drop_all i xs h)
      ∙ append-nil (map f (take i xs))
      ∙ ap (map f) (take_all i xs h)

-- a text was put behind what stood, and is all or the last part of what is lent
module _ (f : ℕ → ℕ) (room : ℕ) (before text items all : List ℕ) (put : items ≡ written room before text) (same : all ≡ items) where
  abbrev fits : List ℕ
  fits = take (room - length before) text

  parts : all ≡ before ++ fits
  unfolding written
  parts = same ∙ put

  size : length all ≡ length before + length fits
  size = ap length parts ∙ length-append before fits

  pub stood : (start : ℕ) → start ≡ length before → start ≤ length all
  stood start first = omega (arith, size, first)

  -- the last part from where the text starts
  pub end_changed : (start i : ℕ) (changed : List ℕ) → start ≡ length before
      → (let rest = take (length all - start) (drop start all) in (changed ≡ map f (take i rest) ++ drop i rest) × (length rest ≤ i))
      → refill (length items) items (take start all ++ (changed ++ post_of start (length all - start) all)) ≡ written room before (map f text)
  unfolding written
  end_changed start i changed first each =
      let front : take start all ≡ before = ap (take start) parts ∙ take_at before fits start (sym first) in
      let back : drop start all ≡ fits = ap (drop start) parts ∙ drop_at before fits start (sym first) in
      let count : length fits ≤ length all - start = omega (arith, size, first) in
      let last : take (length all - start) (drop start all) ≡ fits = ap (take (length all - start)) back ∙ take_all (length all - start) fits count in
      let over : post_of start (length all - start) all ≡ [] = ap (drop (length all - start)) back ∙ drop_all (length all - start) fits count in
      let done : changed ≡ map f fits = all_changed f _ changed i each.0 each.1 ∙ ap (map f) last in
      let whole : take start all ++ (changed ++ post_of start (length all - start) all) ≡ before ++ map f fits =
      (rw (front, done, over, append-nil (map f fits)) refl) in
      let long : length (before ++ map f fits) ≡ length items =
      length-append before (map f fits) ∙ ap (λ (n : ℕ). length before + n) (length-map fits f) ∙ sym size ∙ ap length same in
      ap (refill (length items) items) whole
      ∙ refilled items (before ++ map f fits) long
      ∙ ap (λ (l : List ℕ). before ++ l) (sym (take-map f (room - length before) text))
