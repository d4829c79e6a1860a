-- What is claimed of what is read and written, beside the sample lines (Examples.antt). proofs/Claims.antt proves it. Assumes nothing.
use Rattle.std.specs.Prelude.{ℕ, ◌+◌, ◌^◌, ◌<◌, ◌≤◌, ◌≡◌, ◌↔◌, List, [], ◌∷◌, ◌++◌, length, take, replicate, Some, None, Ok, Err}
use Rattle.wording.specs.declared.Reason.{Reason}
use Rattle.wording.specs.Words.{until, parted, past, words_of, first_word, after_words, first_line}
use Rattle.wording.specs.Numbers.{number_of, numbers_of, numbers_in, list_of, list_filled}
use Rattle.wording.specs.Print.{decimal_of, written, Appended}

-- a text in two is the text
pub record PartedWhole : Type 0 where
  pub at_a_byte : (b : ℕ) (s : List ℕ) → (parted b s).0 ++ (parted b s).1 ≡ s
  pub behind_a_run : (b : ℕ) (s : List ℕ) → (n : ℕ) × (replicate n b ++ past b s ≡ s)

-- the first word is the first of the line's words, and what follows it has the others: spaces, the word, and an end of the line
pub record FirstWord : Type 0 where
  pub word : (line w rest : List ℕ) → first_word line ≡ Some (w, rest) → words_of line ≡ w ∷ words_of rest
  pub no_word : (line : List ℕ) → first_word line ≡ None → words_of line ≡ []
  pub whole : (line w rest : List ℕ) → first_word line ≡ Some (w, rest) → (n : ℕ) × (replicate n 32 ++ (w ++ rest) ≡ line)
  pub shorter : (line w rest : List ℕ) → first_word line ≡ Some (w, rest) → length rest < length line

-- the first line has no newline, and one stands behind it; a text without a first line has no newline
pub record FirstLine : Type 0 where
  pub line : (text l rest : List ℕ) → first_line text ≡ Some (l, rest) → l ≡ until 10 text
  pub no_line : (text : List ℕ) → first_line text ≡ None → text ≡ until 10 text
  pub whole : (text l rest : List ℕ) → first_line text ≡ Some (l, rest) → l ++ (10 ∷ rest) ≡ text
  pub shorter : (text l rest : List ℕ) → first_line text ≡ Some (l, rest) → length rest < length text

-- what follows the numbers of a line is an end of it, whose words are those that the numbers leave
pub record NumbersOfLine : Type 0 where
  pub numbers : (k : ℕ) (line ns rest : List ℕ) → numbers_in k line ≡ Ok (ns, rest) → numbers_of k (words_of line) ≡ Ok (ns, words_of rest)
  pub reason : (k : ℕ) (line : List ℕ) (r : Reason) → numbers_in k line ≡ Err r → numbers_of k (words_of line) ≡ Err r
  pub an_end : (k : ℕ) (line : List ℕ) → (front : List ℕ) × (front ++ after_words k line ≡ line)

-- words that are a list fill the lent one with it
pub record ListFilled : Type 0 where
  pub whole : (room : ℕ) (ws : List (List ℕ)) (ns : List ℕ) → list_of room ws ≡ Ok ns → list_filled room ws ≡ (Ok tt, ns)

-- a number that is written reads as itself
pub record ReadsBack : Type 0 where
  pub number : (n : ℕ) → n < 2 ^ 64 → number_of (decimal_of n) ≡ Ok n

-- what has room is written whole, behind the bytes that stood before it; two texts, one after the other, are one text
pub record WrittenWhole : Type 0 where
  pub in_buffer : (room : ℕ) (before text : List ℕ) → length before + length text ≤ room → written room before text ≡ before ++ text
  pub one_text : (room : ℕ) (before t u : List ℕ) → written room (written room before t) u ≡ written room before (t ++ u)
  -- the bytes of a list up to a place are such a buffer's, whose room is the list's length; so the same holds of them
  pub up_to_a_place : (before after text : List ℕ) (at end : ℕ) → Appended before at after end text
      ↔ ((length after ≡ length before) × (end ≤ length after) × (take end after ≡ written (length before) (take at before) text))
  pub whole : (before after text : List ℕ) (at end : ℕ) → Appended before at after end text → at + length text ≤ length before
      → take end after ≡ take at before ++ text
  pub one_after_the_other : (first second third t u : List ℕ) (at middle end : ℕ) → Appended first at second middle t → Appended second middle third end u
      → Appended first at third end (t ++ u)
