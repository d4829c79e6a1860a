-- What is written to a lent buffer. Assumes nothing.
use Rattle.std.specs.Prelude.{ℕ, zero, suc, ◌+◌, ◌-◌, ◌/◌, ◌%◌, ◌≤◌, ◌≡◌, cond, List, [], ◌∷◌, ◌++◌, eqb, ltb, length, take, replicate}

-- the decimal digits of a number of at most k digits, first digit highest, with no zeros in front
unfoldable pub decimal_within : ℕ → ℕ → List ℕ
decimal_within zero n = []
decimal_within (suc k) n = cond (ltb n 10) ((48 + n) ∷ []) (decimal_within k (n / 10) ++ ((48 + n % 10) ∷ []))

-- a number below 2^64 has at most 20 digits
abbrev pub decimal_of : ℕ → List ℕ
decimal_of n = decimal_within 20 n

-- a text in a column: with spaces before it, or after it, up to a width
abbrev pub right : ℕ → List ℕ → List ℕ
right width t = replicate (width - length t) 32 ++ t

abbrev pub left : ℕ → List ℕ → List ℕ
left width t = t ++ replicate (width - length t) 32

-- numbers with a space before each
unfoldable pub spaced : List ℕ → List ℕ
spaced [] = []
spaced (n ∷ ns) = 32 ∷ decimal_of n ++ spaced ns

-- "BITS is a word of the characters 0 and 1"
abbrev pub bit_character : ℕ → ℕ
bit_character bit = cond (eqb bit 0) 48 49

-- a buffer's bytes after a text was written behind them, with room for so many in all; what has no room is left out
unfoldable pub written : ℕ → List ℕ → List ℕ → List ℕ
written room before text = before ++ take (room - length before) text

-- the same of a list with a place in it: after the bytes before `at` a text was written, which ends at `end`
pub record Appended (before : List ℕ) (at : ℕ) (after : List ℕ) (end : ℕ) (text : List ℕ) : Type 0 where
  pub same_length : length after ≡ length before
  pub inside : end ≤ length after
  pub written : take end after ≡ take (length before) (take at before ++ text)
