-- What is put one after another is put as one text. Assumes nothing.
use Rattle.std.proofs.Common.{◌≡◌, ℕ, ◌-◌, List, [], ◌++◌, length, take, refl, sym, ap, ◌∙◌, arith}
use Rattle.wording.specs.Print.{written}
use Rattle.wording.proofs.Written.{written-nothing, written-written}
use Rattle.text.specs.Room.{Buffer, Kept, Put}

-- of one room
pub and_then : (room : ℕ) (b t u : List ℕ) {b₁ b₂ : List ℕ} → b₁ ≡ written room b t → b₂ ≡ written room b₁ u → b₂ ≡ written room b (t ++ u)
and_then room b t u e f = f ∙ ap (λ (s : List ℕ). written room s u) e ∙ written-written room b t u

pub put_nothing : (b : Buffer) → Put b b []
put_nothing b = (sym (written-nothing b.room b.items), (refl, refl))

pub put_both : (a b c : Buffer) (s t : List ℕ) → Put a b s → Put b c t → Put a c (s ++ t)
put_both a b c s t e f =
    (and_then a.room a.items s t e.0 (f.0 ∙ ap (λ (room : ℕ). written room b.items t) e.1.0), (f.1.0 ∙ e.1.0, f.1.1 ∙ e.1.1))

-- by what the text is
pub put_as : (a b : Buffer) {s t : List ℕ} → s ≡ t → Put a b s → Put a b t
put_as a b e p = (p.0 ∙ ap (written a.room a.items) e, p.1)

-- a text that is put where nothing stands any more
pub put_first : (a b c : Buffer) (t : List ℕ) → (b.items ≡ []) × Kept a b → Put b c t → (c.items ≡ take a.room t) × Kept a c
unfolding written
put_first a b c t none p =
    let whole : b.room - 0 ≡ a.room = omega (arith, none.1.0) in
    (p.0 ∙ ap (λ (items : List ℕ). items ++ take (b.room - length items) t) none.0 ∙ ap (λ (n : ℕ). take n t) whole, (p.1.0 ∙ none.1.0, p.1.1 ∙ none.1.1))
