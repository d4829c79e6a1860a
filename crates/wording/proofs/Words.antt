-- Laws of a text in two, of the first word of a line and of the first line of a text. Assumes nothing.
use Rattle.std.proofs.Common.{◌≡◌, ℕ, zero, suc, ◌<◌, ◌≤◌, Bool, true, false, cond, not, List, [], ◌∷◌, ◌++◌, length, replicate, Option, Some, None, refl, sym, ap, ◌∙◌, append_assoc, append-nil, arith, eqb, length-append}
use Rattle.std.specs.Prelude.{option_map}
use borrow.Author.Tests.{eqb-true}
use Rattle.wording.specs.Words.{until, from, parted, past, in_word, joined, words_of, first_word, after_word, after_words, first_line}

-- ---- in two

pub until_from : (b : ℕ) (s : List ℕ) → until b s ++ from b s ≡ s
unfolding until from
until_from b [] = refl
until_from b (c ∷ s) = go (eqb c b) (until_from b s)
  where
    go : (q : Bool) → until b s ++ from b s ≡ s → cond q [] (c ∷ until b s) ++ cond q (c ∷ s) (from b s) ≡ c ∷ s
    go true ih = refl
    go false ih = ap (λ (r : List ℕ). c ∷ r) ih

from_shorter : (b : ℕ) (s : List ℕ) → length (from b s) ≤ length s
from_shorter b s = omega (arith, ap length (until_from b s), length-append (until b s) (from b s))

pub run_past : (b : ℕ) (s : List ℕ) → (n : ℕ) × (replicate n b ++ past b s ≡ s)
unfolding past
run_past b [] = (0, refl)
run_past b (c ∷ s) = go (eqb c b) refl (run_past b s)
  where
    go : (q : Bool) → eqb c b ≡ q → (n : ℕ) × (replicate n b ++ past b s ≡ s) → (n : ℕ) × (replicate n b ++ cond q (past b s) (c ∷ s) ≡ c ∷ s)
    go true h ih = let same = eqb-true c b h in (suc ih.0, cc (ih.1))
    go false h ih = (0, refl)

-- what has nothing behind it in nothing is nothing
empty : (s t : List ℕ) → s ++ t ≡ [] → t ≡ []
empty [] t e = e
empty (c ∷ s) t e = absurd (cc)

-- ---- the first word

words_blank : (c : ℕ) (s : List ℕ) → eqb c 32 ≡ true → words_of (c ∷ s) ≡ words_of s
unfolding words_of
words_blank c s h = ap (λ (q : Bool). cond q (words_of s) (joined c (in_word s) (words_of s))) h

-- a byte of a word, the rest of the word, and the words after it
rest_word : (c : ℕ) (s : List ℕ) → joined c (in_word s) (words_of s) ≡ (c ∷ until 32 s) ∷ words_of (from 32 s)
unfolding joined in_word words_of until from
rest_word c [] = refl
rest_word c (d ∷ s) = go (eqb d 32) refl (rest_word d s)
  where
    go : (q : Bool) → eqb d 32 ≡ q → joined d (in_word s) (words_of s) ≡ (d ∷ until 32 s) ∷ words_of (from 32 s)
        → joined c (not q) (cond q (words_of s) (joined d (in_word s) (words_of s))) ≡ (c ∷ cond q [] (d ∷ until 32 s)) ∷ words_of (cond q (d ∷ s) (from 32 s))
    go true h ih = ap (λ (ws : List (List ℕ)). (c ∷ []) ∷ ws) (sym (words_blank d s h))
    go false h ih = ap (joined c true) ih

pub word_words : (line w rest : List ℕ) → first_word line ≡ Some (w, rest) → words_of line ≡ w ∷ words_of rest
unfolding first_word words_of until from
word_words [] w rest e = absurd (cc)
word_words (c ∷ s) w rest e = go (eqb c 32) (word_words s w rest) e
  where
    go : (q : Bool) → (first_word s ≡ Some (w, rest) → words_of s ≡ w ∷ words_of rest) → cond q (first_word s) (Some (cond q [] (c ∷ until 32 s), cond q (c ∷ s) (from 32 s))) ≡ Some (w, rest)
        → cond q (words_of s) (joined c (in_word s) (words_of s)) ≡ w ∷ words_of rest
    go true ih e = ih e
    go false ih e =
        let both : ◌≡◌ {A = List ℕ × List ℕ} (c ∷ until 32 s, from 32 s) (w, rest) = cc in
        rest_word c s ∙ ap (λ (p : List ℕ × List ℕ). p.0 ∷ words_of p.1) both

pub no_word_words : (line : List ℕ) → first_word line ≡ None → words_of line ≡ []
unfolding first_word words_of
no_word_words [] e = refl
no_word_words (c ∷ s) e = go (eqb c 32) (no_word_words s) e
  where
    go : (q : Bool) → (first_word s ≡ None → words_of s ≡ []) → cond q (first_word s) (Some (parted 32 (c ∷ s))) ≡ None → cond q (words_of s) (joined c (in_word s) (words_of s)) ≡ []
    go true ih e = ih e
    go false ih e = absurd (cc)

pub word_whole : (line w rest : List ℕ) → first_word line ≡ Some (w, rest) → (n : ℕ) × (replicate n 32 ++ (w ++ rest) ≡ line)
unfolding first_word
word_whole [] w rest e = absurd (cc)
word_whole (c ∷ s) w rest e = go (eqb c 32) refl (word_whole s w rest) e
  where
    go : (q : Bool) → eqb c 32 ≡ q → (first_word s ≡ Some (w, rest) → (n : ℕ) × (replicate n 32 ++ (w ++ rest) ≡ s)) → cond q (first_word s) (Some (parted 32 (c ∷ s))) ≡ Some (w, rest)
        → (n : ℕ) × (replicate n 32 ++ (w ++ rest) ≡ c ∷ s)
    go true h ih e = let same = eqb-true c 32 h in let found = ih e in (suc found.0, cc (found.1))
    go false h ih e =
        let both : ◌≡◌ {A = List ℕ × List ℕ} (parted 32 (c ∷ s)) (w, rest) = cc in
        (0, sym (ap (λ (p : List ℕ × List ℕ). p.0 ++ p.1) both) ∙ until_from 32 (c ∷ s))

pub word_shorter : (line w rest : List ℕ) → first_word line ≡ Some (w, rest) → length rest < length line
unfolding first_word until from
word_shorter [] w rest e = absurd (cc)
word_shorter (c ∷ s) w rest e = go (eqb c 32) (word_shorter s w rest) e
  where
    go : (q : Bool) → (first_word s ≡ Some (w, rest) → length rest < length s) → cond q (first_word s) (Some (cond q [] (c ∷ until 32 s), cond q (c ∷ s) (from 32 s))) ≡ Some (w, rest)
        → length rest < suc (length s)
    go true ih e = omega (arith, ih e)
    go false ih e =
        let both : ◌≡◌ {A = List ℕ × List ℕ} (c ∷ until 32 s, from 32 s) (w, rest) = cc in
        let l : length (from 32 s) ≡ length rest = ap (λ (p : List ℕ × List ℕ). length p.1) both in
        omega (arith, l, from_shorter 32 s)

-- what follows words is an end of the line
pub words_end : (k : ℕ) (line : List ℕ) → (front : List ℕ) × (front ++ after_words k line ≡ line)
unfolding after_words
words_end zero line = ([], refl)
words_end (suc k) line = go (first_word line) (word_whole line) (words_end k)
  where
    go : (o : Option (List ℕ × List ℕ)) → ((w rest : List ℕ) → o ≡ Some (w, rest) → (n : ℕ) × (replicate n 32 ++ (w ++ rest) ≡ line))
        → ((t : List ℕ) → (front : List ℕ) × (front ++ after_words k t ≡ t)) → (front : List ℕ) × (front ++ after_words k (after_word o) ≡ line)
    go None h ih = let e : after_words k [] ≡ [] = empty (ih []).0 (after_words k []) (ih []).1 in (line, ap (λ (t : List ℕ). line ++ t) e ∙ append-nil line)
    go (Some found) h ih =
        let spaces = h found.0 found.1 refl in
        let front = ih found.1 in (
          replicate spaces.0 32 ++ (found.0 ++ front.0),
          append_assoc (replicate spaces.0 32) (found.0 ++ front.0) (after_words k found.1)
              ∙ ap (λ (t : List ℕ). replicate spaces.0 32 ++ t) (append_assoc found.0 front.0 (after_words k found.1) ∙ ap (λ (t : List ℕ). found.0 ++ t) front.1)
              ∙ spaces.1,
        )

-- ---- the first line

-- the bytes before a newline, and those behind it
abbrev pub ended : List ℕ → List ℕ → Option (List ℕ × List ℕ)
ended l [] = None
ended l (c ∷ rest) = Some (l, rest)

pub line_ended : (text : List ℕ) → first_line text ≡ ended (until 10 text) (from 10 text)
unfolding first_line until from
line_ended [] = refl
line_ended (c ∷ s) = go (eqb c 10) (line_ended s)
  where
    longer : (l r : List ℕ) → option_map (λ found. (c ∷ found.0, found.1)) (ended l r) ≡ ended (c ∷ l) r
    longer l [] = refl
    longer l (d ∷ r) = refl

    go : (q : Bool) → first_line s ≡ ended (until 10 s) (from 10 s)
        → cond q (Some ([], s)) (option_map (λ found. (c ∷ found.0, found.1)) (first_line s)) ≡ ended (cond q [] (c ∷ until 10 s)) (cond q (c ∷ s) (from 10 s))
    go true ih = refl
    go false ih = ap (option_map (λ found. (c ∷ found.0, found.1))) ih ∙ longer (until 10 s) (from 10 s)

from_byte : (b : ℕ) (s t : List ℕ) (c : ℕ) → from b s ≡ c ∷ t → c ≡ b
unfolding from
from_byte b [] t c e = absurd (cc)
from_byte b (d ∷ s) t c e = go (eqb d b) refl (from_byte b s t c) e
  where
    go : (q : Bool) → eqb d b ≡ q → (from b s ≡ c ∷ t → c ≡ b) → cond q (d ∷ s) (from b s) ≡ c ∷ t → c ≡ b
    go true h ih e = let same = eqb-true d b h in cc
    go false h ih e = ih e

pub no_line_until : (text : List ℕ) → first_line text ≡ None → text ≡ until 10 text
no_line_until text e = go (from 10 text) (until_from 10 text) (sym (line_ended text) ∙ e)
  where
    go : (r : List ℕ) → until 10 text ++ r ≡ text → ended (until 10 text) r ≡ None → text ≡ until 10 text
    go [] whole e = sym whole ∙ append-nil (until 10 text)
    go (c ∷ r) whole e = absurd (cc)

module _ (text l rest : List ℕ) (e : first_line text ≡ Some (l, rest)) where
  both : (l ≡ until 10 text) × (from 10 text ≡ 10 ∷ rest)
  both = go (from 10 text) refl (sym (line_ended text) ∙ e)
    where
      go : (r : List ℕ) → from 10 text ≡ r → ended (until 10 text) r ≡ Some (l, rest) → (l ≡ until 10 text) × (r ≡ 10 ∷ rest)
      go [] h f = absurd (cc)
      go (c ∷ r) h f =
          let parts : ◌≡◌ {A = List ℕ × List ℕ} (until 10 text, r) (l, rest) = cc in
          let newline = from_byte 10 text r c h in
          (sym (ap (λ (p : List ℕ × List ℕ). p.0) parts), ap (λ (d : ℕ). d ∷ r) newline ∙ ap (λ (p : List ℕ × List ℕ). 10 ∷ p.1) parts)

  pub line_until : l ≡ until 10 text
  line_until = both.0

  pub line_whole : l ++ (10 ∷ rest) ≡ text
  line_whole = ap (λ (t : List ℕ). t ++ (10 ∷ rest)) both.0 ∙ ap (λ (t : List ℕ). until 10 text ++ t) (sym both.1) ∙ until_from 10 text

  pub line_shorter : length rest < length text
  line_shorter = omega (arith, ap length line_whole, length-append l (10 ∷ rest))
