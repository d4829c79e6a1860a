-- Laws of `until`, `from` and `past`: where a byte is found first, and what is found so is the first word, or the first line. Assumes nothing.
use Rattle.std.proofs.Common.{◌≡◌, ℕ, suc, ◌<◌, Bool, true, false, cond, List, [], ◌∷◌, length, take, drop, Some, None, refl, sym, ap, ◌∙◌, arith, eqb}
use mathlib.Core.Logic.{◌≢◌}
use borrow.Author.Tests.{eq-eqb, ne_eqb, eqb-false}
use Rattle.wording.specs.Words.{until, from, parted, past, first_word, first_line}
use Rattle.wording.proofs.Words.{ended, line_ended}

-- ---- by the first byte

module _ (b c : ℕ) (s : List ℕ) where
  pub until_cons : c ≢ b → until b (c ∷ s) ≡ c ∷ until b s
  unfolding until
  until_cons h = ap (λ (t : Bool). cond t [] (c ∷ until b s)) (ne_eqb c b h)

  pub until_stop : c ≡ b → until b (c ∷ s) ≡ []
  unfolding until
  until_stop h = ap (λ (t : Bool). cond t [] (c ∷ until b s)) (eq-eqb c b h)

-- where the first byte that is b stands
pub until_split : (b : ℕ) (s : List ℕ) → (take (length (until b s)) s ≡ until b s) × (drop (length (until b s)) s ≡ from b s)
unfolding until from
until_split b [] = (refl, refl)
until_split b (c ∷ s) = go (eqb c b) (until_split b s)
  where
    go : (q : Bool) → (take (length (until b s)) s ≡ until b s) × (drop (length (until b s)) s ≡ from b s)
        → (take (length (cond q [] (c ∷ until b s))) (c ∷ s) ≡ cond q [] (c ∷ until b s)) × (drop (length (cond q [] (c ∷ until b s))) (c ∷ s) ≡ cond q (c ∷ s) (from b s))
    go true ih = (refl, refl)
    go false ih = (ap (λ (r : List ℕ). c ∷ r) ih.0, ih.1)

-- how many bytes at the start are b
unfoldable pub count_run : ℕ → List ℕ → ℕ
count_run b [] = 0
count_run b (c ∷ s) = cond (eqb c b) (suc (count_run b s)) 0

module _ (b c : ℕ) (s : List ℕ) where
  pub count_cons : c ≡ b → count_run b (c ∷ s) ≡ suc (count_run b s)
  unfolding count_run
  count_cons h = ap (λ (t : Bool). cond t (suc (count_run b s)) 0) (eq-eqb c b h)

  pub count_stop : c ≢ b → count_run b (c ∷ s) ≡ 0
  unfolding count_run
  count_stop h = ap (λ (t : Bool). cond t (suc (count_run b s)) 0) (ne_eqb c b h)

pub drop_run : (b : ℕ) (s : List ℕ) → drop (count_run b s) s ≡ past b s
unfolding count_run past
drop_run b [] = refl
drop_run b (c ∷ s) = go (eqb c b) (drop_run b s)
  where
    go : (q : Bool) → drop (count_run b s) s ≡ past b s → drop (cond q (suc (count_run b s)) 0) (c ∷ s) ≡ cond q (past b s) (c ∷ s)
    go true ih = ih
    go false ih = refl

-- ---- the first word stands behind the spaces, or nothing does

found : (line : List ℕ) → 0 < length (until 32 (past 32 line)) → first_word line ≡ Some (parted 32 (past 32 line))
unfolding past first_word until
found [] h = absurd (omega (arith, h))
found (c ∷ s) h = go (eqb c 32) (found s) h
  where
    go : (q : Bool) → (0 < length (until 32 (past 32 s)) → first_word s ≡ Some (parted 32 (past 32 s))) → 0 < length (until 32 (cond q (past 32 s) (c ∷ s)))
        → cond q (first_word s) (Some (parted 32 (c ∷ s))) ≡ Some (parted 32 (cond q (past 32 s) (c ∷ s)))
    go true ih h = ih h
    go false ih h = refl

not_found : (line : List ℕ) → length (until 32 (past 32 line)) ≡ 0 → first_word line ≡ None
unfolding past first_word
not_found [] h = refl
not_found (c ∷ s) h = go (eqb c 32) refl (not_found s) h
  where
    go : (q : Bool) → eqb c 32 ≡ q → (length (until 32 (past 32 s)) ≡ 0 → first_word s ≡ None) → length (until 32 (cond q (past 32 s) (c ∷ s))) ≡ 0
        → cond q (first_word s) (Some (parted 32 (c ∷ s))) ≡ None
    go true e ih h = ih h
    go false e ih h = absurd (omega (arith, h, ap length (until_cons 32 c s (eqb-false c 32 e))))

module _ (line t w rest : List ℕ) (spaces : t ≡ past 32 line) (two : (w, rest) ≡ parted 32 t) where
  word : w ≡ until 32 (past 32 line)
  word = ap (λ (p : List ℕ × List ℕ). p.0) two ∙ ap (until 32) spaces

  pub word_found : 0 < length w → Some (w, rest) ≡ first_word line
  word_found h = ap (λ (p : List ℕ × List ℕ). Some p) two ∙ ap (λ (s : List ℕ). Some (parted 32 s)) spaces ∙ sym (found line (omega (arith, h, ap length word)))

  pub no_word_found : length w ≡ 0 → None ≡ first_word line
  no_word_found h = sym (not_found line (omega (arith, h, ap length word)))

-- ---- the first line stands before the first newline

module _ (text l rest : List ℕ) (two : (l, rest) ≡ parted 10 text) where
  ended_there : ended l rest ≡ first_line text
  ended_there = ap (λ (p : List ℕ × List ℕ). ended p.0 p.1) two ∙ sym (line_ended text)

  pub line_found : (c : ℕ) (after : List ℕ) → rest ≡ c ∷ after → Some (l, after) ≡ first_line text
  line_found c after e = sym (ap (ended l) e) ∙ ended_there

  pub no_line_found : length rest ≡ 0 → None ≡ first_line text
  no_line_found h = go rest h ∙ ended_there
    where
      go : (r : List ℕ) → length r ≡ 0 → None ≡ ended l r
      go [] h = refl
      go (c ∷ r) h = absurd (omega (arith, h))
