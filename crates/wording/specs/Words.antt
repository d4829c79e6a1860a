-- Text as a list of bytes, and the words of a line. Assumes nothing.
use Rattle.std.specs.Prelude.{ℕ, zero, suc, Bool, true, false, cond, not, ◌&&◌, List, [], ◌∷◌, eqb, Option, Some, None, option_map}
use Prim.Native.Char.{code}
use Prim.Native.String.{String, [] as nothing, ◌∷◌ as ◌then◌}

-- the bytes of a quoted text
abbrev pub ascii : String → List ℕ
ascii nothing = []
ascii (c then s) = code c ∷ ascii s

-- the bytes before the first one that is b
unfoldable pub until : ℕ → List ℕ → List ℕ
until b [] = []
until b (c ∷ s) = cond (eqb c b) [] (c ∷ until b s)

-- the bytes from the first one that is b on
unfoldable pub from : ℕ → List ℕ → List ℕ
from b [] = []
from b (c ∷ s) = cond (eqb c b) (c ∷ s) (from b s)

-- a text in two: the first byte that is b begins the second
abbrev pub parted : ℕ → List ℕ → List ℕ × List ℕ
parted b s = (until b s, from b s)

-- the bytes from the first one that is not b on
unfoldable pub past : ℕ → List ℕ → List ℕ
past b [] = []
past b (c ∷ s) = cond (eqb c b) (past b s) (c ∷ s)

-- the text goes on with a word: its first byte is no space
unfoldable pub in_word : List ℕ → Bool
in_word [] = false
in_word (c ∷ s) = not (eqb c 32)

-- a byte before a text: it begins the text's first word, or is a word by itself
unfoldable pub joined : ℕ → Bool → List (List ℕ) → List (List ℕ)
joined c false ws = (c ∷ []) ∷ ws
joined c true [] = (c ∷ []) ∷ []
joined c true (w ∷ ws) = (c ∷ w) ∷ ws

-- "words separated by spaces"
unfoldable pub words_of : List ℕ → List (List ℕ)
words_of [] = []
words_of (c ∷ s) = cond (eqb c 32) (words_of s) (joined c (in_word s) (words_of s))

-- the first word of a line, and what follows it: past the spaces, up to the next one
unfoldable pub first_word : List ℕ → Option (List ℕ × List ℕ)
first_word [] = None
first_word (c ∷ s) = cond (eqb c 32) (first_word s) (Some (parted 32 (c ∷ s)))

-- what follows a word that was found; nothing, where there was none
abbrev pub after_word : Option (List ℕ × List ℕ) → List ℕ
after_word None = []
after_word (Some found) = found.1

-- what follows the first k words of a line
unfoldable pub after_words : ℕ → List ℕ → List ℕ
after_words zero line = line
after_words (suc k) line = after_words k (after_word (first_word line))

-- "A newline ends a line": the first line of a text, and what follows its newline; none, where there is no newline
unfoldable pub first_line : List ℕ → Option (List ℕ × List ℕ)
first_line [] = None
first_line (c ∷ s) = cond (eqb c 10) (Some ([], s)) (option_map (λ found. (c ∷ found.0, found.1)) (first_line s))

-- two texts have the same bytes
unfoldable pub same_text : List ℕ → List ℕ → Bool
same_text [] [] = true
same_text [] (b ∷ t) = false
same_text (a ∷ s) [] = false
same_text (a ∷ s) (b ∷ t) = eqb a b && same_text s t
