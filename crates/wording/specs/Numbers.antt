-- The numbers in a line. Assumes nothing.
use Rattle.std.specs.Prelude.{ℕ, zero, suc, ◌+◌, ◌-◌, ◌*◌, ◌^◌, min, Bool, false, cond, ◌&&◌, List, [], ◌∷◌, ◌++◌, ltb, leb, map, take, Result, Ok, Err}
use Rattle.std.specs.List.{list_all}
use Rattle.std.specs.Result.{ok_prefix}
use Rattle.wording.specs.Words.{words_of, after_words}
use Rattle.wording.specs.declared.Reason.{Reason}
use Rattle.wording.specs.declared.Reason.TheVariants.{TooFewWords, TooManyWords, NotANumber, NumberTooLarge}

-- "Numbers are decimal": a character from 0 to 9
abbrev pub is_digit : ℕ → Bool
is_digit c = leb 48 c && leb c 57

abbrev pub all_digits : List ℕ → Bool
all_digits w = list_all is_digit w

-- one digit or more, and nothing else
unfoldable pub is_number : List ℕ → Bool
is_number [] = false
is_number (c ∷ w) = all_digits (c ∷ w)

-- the value of digits that follow others of value n, first digit highest
unfoldable pub value_from : ℕ → List ℕ → ℕ
value_from n [] = n
value_from n (c ∷ w) = value_from (10 * n + (c - 48)) w

-- "0 to 2^64 − 1 (a larger one is an `error`)"
unfoldable pub within : ℕ → Result ℕ Reason
within n = cond (ltb n (2 ^ 64)) (Ok n) (Err NumberTooLarge)

-- the number that a word is, or why it is none
unfoldable pub number_of : List ℕ → Result ℕ Reason
number_of w = cond (is_number w) (within (value_from 0 w)) (Err NotANumber)

-- what is taken with a number; where a word is none, why
abbrev pub with_number : {A : Type 0} → Result ℕ Reason → (ℕ → Result A Reason) → Result A Reason
with_number (Ok n) f = f n
with_number (Err r) f = Err r

-- k numbers after the numbers ns, and the words after them; or why they are none
unfoldable pub numbers_after : List ℕ → ℕ → List (List ℕ) → Result (List ℕ × List (List ℕ)) Reason
numbers_after ns zero ws = Ok (ns, ws)
numbers_after ns (suc k) [] = Err TooFewWords
numbers_after ns (suc k) (w ∷ ws) = with_number (number_of w) (λ n. numbers_after (ns ++ (n ∷ [])) k ws)

abbrev pub numbers_of : ℕ → List (List ℕ) → Result (List ℕ × List (List ℕ)) Reason
numbers_of k ws = numbers_after [] k ws

-- what an answer says, where f says what its value does
abbrev pub answer_by : {A B : Type 0} → (A → B) → Result A Reason → Result B Reason
answer_by f (Ok a) = Ok (f a)
answer_by f (Err r) = Err r

-- the numbers that the first k words of a line are, and what follows these words; or why they are none
abbrev pub numbers_in : ℕ → List ℕ → Result (List ℕ × List ℕ) Reason
numbers_in k line = answer_by (λ found. (found.0, after_words k line)) (numbers_of k (words_of line))

-- the numbers, where no word is left
abbrev pub with_no_word : List ℕ → List (List ℕ) → Result (List ℕ) Reason
with_no_word ns [] = Ok ns
with_no_word ns (w ∷ ws) = Err TooManyWords

abbrev pub only_these : Result (List ℕ × List (List ℕ)) Reason → Result (List ℕ) Reason
only_these (Ok taken) = with_no_word taken.0 taken.1
only_these (Err r) = Err r

-- k numbers, and no further word
abbrev pub only_of : ℕ → List (List ℕ) → Result (List ℕ) Reason
only_of k ws = only_these (numbers_of k ws)

-- a number as 16 bits hold it: a larger one as the largest
abbrev pub entry : ℕ → ℕ
entry n = min n 65535

-- all words as numbers of 16 bits, after the numbers ns, with room for so many more
unfoldable pub list_after : List ℕ → ℕ → List (List ℕ) → Result (List ℕ) Reason
list_after ns room [] = Ok ns
list_after ns zero (w ∷ ws) = Err TooManyWords
list_after ns (suc room) (w ∷ ws) = with_number (number_of w) (λ n. list_after (ns ++ (entry n ∷ [])) room ws)

abbrev pub list_of : ℕ → List (List ℕ) → Result (List ℕ) Reason
list_of room ws = list_after [] room ws

-- what a lent list has afterwards, on an error too: the numbers of the words before the first that is none, as many as have room
abbrev pub listed : ℕ → List (List ℕ) → List ℕ
listed room ws = take room (map entry (ok_prefix (map number_of ws)))

-- whether the words were listed, and why not; and the lent list
abbrev pub list_filled : ℕ → List (List ℕ) → Result Unit Reason × List ℕ
list_filled room ws = (answer_by (λ ns. tt) (list_of room ws), listed room ws)

-- "any other number too large for the parameter that it goes to is passed as that parameter's largest value": a parameter has 32 bits
abbrev pub parameter : ℕ → ℕ
parameter n = min n 4294967295

-- "IMSI is a word of digits; a character that is no digit goes in as a byte above 9", "BITS is a word of the characters 0 and 1; another character goes in as a
-- byte above 1"
abbrev pub figure : ℕ → ℕ
figure c = cond (is_digit c) (c - 48) 255
