-- The search for a word among names. Assumes nothing.
use Rattle.std.proofs.Common.{◌≡◌, ℕ, suc, ◌+◌, ◌<◌, ◌≤◌, Bool, true, false, cond, ◌&&◌, List, [], ◌∷◌, length, map, drop, get_or, Option, Some, None, Bor, refl, sym, ap, ◌∙◌, add-one, drop-cons, eqb}
use lib.ListN.{drop_of_length-le}
use lib.Pointwise.{pointwise}
use Rattle.wording.specs.Words.{same_text}
use Rattle.wording.specs.Names.{named}

same_text-pointwise : (s t : List ℕ) → pointwise eqb s t ≡ same_text s t
unfolding same_text
same_text-pointwise [] [] = refl
same_text-pointwise [] (b ∷ t) = refl
same_text-pointwise (a ∷ s) [] = refl
same_text-pointwise (a ∷ s) (b ∷ t) = ap (λ (q : Bool). eqb a b && q) (same_text-pointwise s t)

module _ {T : Type 0} (w : List ℕ) (names : List (Bor (List ℕ) × T)) (i : ℕ) where
  abbrev pub left : ℕ → Option T
  left k = named w (map (λ name. (name.0.now, name.1)) (drop k names))

  pub named_none : length names ≤ i → left i ≡ None
  unfolding named
  named_none h = ap (λ (l : List (Bor (List ℕ) × T)). named w (map (λ name. (name.0.now, name.1)) l)) (drop_of_length-le names {i = i} h)

  module _ (name : Bor (List ℕ) × T) (h : i < length names) (is : name ≡ get_or names i name) where
    next : left i ≡ cond (pointwise eqb w name.0.now) (Some name.1) (left (i + 1))
    unfolding named
    next =
        let e : drop i names ≡ name ∷ drop (i + 1) names = rw (add-one i) (drop-cons names i name h ∙ ap (λ (n : Bor (List ℕ) × T). n ∷ drop (suc i) names) (sym is)) in
        ap (λ (l : List (Bor (List ℕ) × T)). named w (map (λ name. (name.0.now, name.1)) l)) e ∙ ap (λ (q : Bool). cond q (Some name.1) (left (i + 1))) (sym (same_text-pointwise w name.0.now))

    pub named_here : pointwise eqb w name.0.now ≡ true → left i ≡ Some name.1
    named_here e = next ∙ ap (λ (q : Bool). cond q (Some name.1) (left (i + 1))) e

    pub named_later : pointwise eqb w name.0.now ≡ false → left i ≡ left (i + 1)
    named_later e = next ∙ ap (λ (q : Bool). cond q (Some name.1) (left (i + 1))) e
