-- What was written to a buffer: one text after another, and all of it where there is room. Assumes nothing.
use Rattle.std.proofs.Common.{◌≡◌, ℕ, zero, suc, ◌+◌, ◌-◌, ◌≤◌, min, List, [], ◌∷◌, ◌++◌, length, take, refl, sym, ap, ◌∙◌, append_assoc, append-nil, arith, length-append}
use Rattle.std.proofs.lemmas.List.{length-take, take_min}
use lib.Seq.{take_all}
use Rattle.wording.specs.Print.{written, Appended}

take-nothing : (n : ℕ) → take {A = ℕ} n [] ≡ []
take-nothing zero = refl
take-nothing (suc n) = refl

-- what a text leaves of the room, another takes
take-append : (n : ℕ) (s t : List ℕ) → take n (s ++ t) ≡ take n s ++ take (n - length s) t
take-append zero s t = let e : 0 ≡ 0 - length s = omega arith in ap (λ (n : ℕ). take n t) e
take-append (suc n) [] t = let e : suc n ≡ suc n - 0 = omega arith in ap (λ (k : ℕ). take k t) e
take-append (suc n) (x ∷ s) t = let e : n - length s ≡ suc n - suc (length s) = omega arith in ap (λ (r : List ℕ). x ∷ r) (take-append n s t) ∙ ap (λ (k : ℕ). (x ∷ take n s) ++ take k t) e

module _ (room : ℕ) (before : List ℕ) where
  pub written-full : (t : List ℕ) → room ≤ length before → written room before t ≡ before
  unfolding written
  written-full t h = let e : room - length before ≡ 0 = omega arith in ap (λ (k : ℕ). before ++ take k t) e ∙ append-nil before

  pub written-nothing : written room before [] ≡ before
  unfolding written
  written-nothing = ap (λ (s : List ℕ). before ++ s) (take-nothing (room - length before)) ∙ append-nil before

  -- one text after another
  pub written-written : (t u : List ℕ) → written room (written room before t) u ≡ written room before (t ++ u)
  unfolding written
  written-written t u =
      let left : room - length (before ++ take (room - length before) t) ≡ room - length before - length t = omega (arith, length-append before (take (room - length before) t), length-take (room - length before) t) in
      append_assoc before (take (room - length before) t) _
      ∙ ap (λ (n : ℕ). before ++ (take (room - length before) t ++ take n u)) left
      ∙ ap (λ (s : List ℕ). before ++ s) (sym (take-append (room - length before) t u))

  -- what has room is written whole, after what stood before
  pub written_whole : (t : List ℕ) → length before + length t ≤ room → written room before t ≡ before ++ t
  unfolding written
  written_whole t h = ap (λ (s : List ℕ). before ++ s) (take_all (room - length before) t (omega (arith, h)))

  -- as much of a text as has room is all of it that is written
  pub written-take : (t : List ℕ) (n : ℕ) → n ≡ min (room - length before) (length t) → before ++ take n t ≡ written room before t
  unfolding written
  written-take t n e = ap (λ (k : ℕ). before ++ take k t) e ∙ ap (λ (s : List ℕ). before ++ s) (take_min (room - length before) t)

shortened : (b t : List ℕ) (at : ℕ) → take (length b) (take at b ++ t) ≡ written (length b) (take at b) t
unfolding written
shortened b t at =
    take-append (length b) (take at b) t ∙ ap (λ (s : List ℕ). s ++ take (length b - length (take at b)) t) (take_all (length b) (take at b) (omega (arith, length-take at b)))

-- the bytes up to a place are a buffer's, which has the list's length for its room
pub appended_as_written : {b₀ b₁ t : List ℕ} {at₀ at₁ : ℕ} → Appended b₀ at₀ b₁ at₁ t → take at₁ b₁ ≡ written (length b₀) (take at₀ b₀) t
appended_as_written {b₀} {b₁} {t} {at₀} p = p.written ∙ shortened b₀ t at₀

pub written_as_appended : {b₀ b₁ t : List ℕ} {at₀ at₁ : ℕ} → length b₁ ≡ length b₀ → at₁ ≤ length b₁ → take at₁ b₁ ≡ written (length b₀) (take at₀ b₀) t
    → Appended b₀ at₀ b₁ at₁ t
written_as_appended {b₀} {b₁} {t} {at₀} l h e = record { same_length = l; inside = h; written = e ∙ sym (shortened b₀ t at₀) }

pub appended_whole : {b₀ b₁ t : List ℕ} {at₀ at₁ : ℕ} → Appended b₀ at₀ b₁ at₁ t → at₀ + length t ≤ length b₀ → take at₁ b₁ ≡ take at₀ b₀ ++ t
appended_whole {b₀} {b₁} {t} {at₀} p h =
    appended_as_written p ∙ written_whole (length b₀) (take at₀ b₀) t (omega (arith, h, length-take at₀ b₀))

pub appended_in_turn : {b₀ b₁ b₂ t u : List ℕ} {at₀ at₁ at₂ : ℕ} → Appended b₀ at₀ b₁ at₁ t → Appended b₁ at₁ b₂ at₂ u → Appended b₀ at₀ b₂ at₂ (t ++ u)
appended_in_turn {b₀} {b₁} {b₂} {t} {u} {at₀} {at₁} p q =
    written_as_appended (q.same_length ∙ p.same_length) q.inside
    (appended_as_written q
    ∙ ap (λ (n : ℕ). written n (take at₁ b₁) u) p.same_length
    ∙ ap (λ (s : List ℕ). written (length b₀) s u) (appended_as_written p)
    ∙ written-written (length b₀) (take at₀ b₀) t u)
