-- A turn of the loops that write. Assumes nothing.
use Rattle.std.proofs.Common.{◌≡◌, ℕ, ◌+◌, ◌-◌, ◌<◌, min, List, [], ◌∷◌, ◌++◌, length, take, map, replicate, get_or, refl, sym, ap, ◌∙◌, append_assoc, append-nil, add-one, arith}
use Rattle.std.proofs.Math.Seq.{take-suc}
use Rattle.std.proofs.lemmas.List.{length-replicate, take-replicate}
use Rattle.wording.specs.Print.{written, decimal_of, right, left, spaced}
use Rattle.wording.proofs.Written.{written_whole, written-take}

take_more : (l : List ℕ) (i : ℕ) → i < length l → take (i + 1) l ≡ take i l ++ get_or l i 0 ∷ []
take_more l i h = rw (add-one i) (take-suc l i 0 h)

map-append : (f : ℕ → ℕ) (s t : List ℕ) → map f (s ++ t) ≡ map f s ++ map f t
map-append f [] t = refl
map-append f (x ∷ s) t = ap (λ (r : List ℕ). f x ∷ r) (map-append f s t)

pub map_more : (f : ℕ → ℕ) (l : List ℕ) (i : ℕ) → i < length l → map f (take i l) ++ f (get_or l i 0) ∷ [] ≡ map f (take (i + 1) l)
map_more f l i h = sym (ap (map f) (take_more l i h) ∙ map-append f (take i l) (get_or l i 0 ∷ []))

spaced-append : (ns ms : List ℕ) → spaced (ns ++ ms) ≡ spaced ns ++ spaced ms
unfolding spaced
spaced-append [] ms = refl
spaced-append (n ∷ ns) ms = ap (λ (s : List ℕ). (32 ∷ decimal_of n) ++ s) (spaced-append ns ms) ∙ sym (append_assoc (32 ∷ decimal_of n) (spaced ns) (spaced ms))

pub spaced_more : (l : List ℕ) (i : ℕ) → i < length l → spaced (take i l) ++ ((32 ∷ []) ++ decimal_of (get_or l i 0)) ≡ spaced (take (i + 1) l)
unfolding spaced
spaced_more l i h =
    sym (ap spaced (take_more l i h) ∙ spaced-append (take i l) (get_or l i 0 ∷ []) ∙ ap (λ (s : List ℕ). spaced (take i l) ++ s) (append-nil (32 ∷ decimal_of (get_or l i 0))))

-- a number in a column, with as many spaces as its text lacks
module _ (width spaces : ℕ) {s t : List ℕ} (text : s ≡ t) (lacking : spaces ≡ width - length s) where
  blanks : replicate {A = ℕ} spaces 32 ≡ replicate {A = ℕ} (width - length t) 32
  blanks = ap (λ (n : ℕ). replicate {A = ℕ} n 32) (lacking ∙ ap (λ (r : List ℕ). width - length r) text)

  pub to_the_right : replicate spaces 32 ++ s ≡ right width t
  to_the_right = ap (λ (r : List ℕ). r ++ s) blanks ∙ ap (λ (r : List ℕ). replicate (width - length t) 32 ++ r) text

  pub to_the_left : s ++ replicate spaces 32 ≡ left width t
  to_the_left = ap (λ (r : List ℕ). r ++ replicate spaces 32) text ∙ ap (λ (r : List ℕ). t ++ r) blanks

-- as many of a byte as have room
pub replicate_fits : (room : ℕ) (before : List ℕ) (r n m x : ℕ) → r + length before ≡ room → n ≡ min r m → written room before (replicate n x) ≡ written room before (replicate m x)
replicate_fits room before r n m x e f =
    let ln : length (replicate n x) ≡ n = length-replicate n x in
    let lm : length (replicate m x) ≡ m = length-replicate m x in
    written_whole room before (replicate n x) (omega arith) ∙ ap (λ (s : List ℕ). before ++ s) (sym (take-replicate n m x (omega arith))) ∙ written-take room before (replicate m x) n (omega arith)
