-- The loops over the words of a line: what is found so far, and the words that are left, come to what the whole line does. Assumes nothing.
use Rattle.std.proofs.Common.{◌≡◌, ℕ, zero, suc, ◌+◌, ◌-◌, ◌<◌, ◌≤◌, List, [], ◌∷◌, ◌++◌, length, take, set, map, Option, Some, None, Result, Ok, Err, refl, sym, ap, ◌∙◌, add-one, arith, append_assoc, append-nil, length-append}
use lib.Seq.{take_all}
use Rattle.std.proofs.Math.Seq.{take-suc-set}
use Rattle.std.specs.Prelude.{Bool, true, false, is_some, option_map}
use Rattle.std.specs.Result.{ok_prefix}
use Rattle.wording.specs.declared.Reason.{Reason}
use Rattle.wording.specs.declared.Reason.TheVariants.{TooFewWords, TooManyWords}
use Rattle.wording.specs.Words.{words_of, first_word, after_word, after_words}
use Rattle.wording.specs.Numbers.{number_of, with_number, answer_by, numbers_after, entry, list_after, listed, numbers_in, with_no_word, only_these, only_of, list_filled}
use Rattle.wording.proofs.Numbers.{in_line}
use Rattle.wording.proofs.Words.{word_words, no_word_words}

-- ---- k numbers, behind the numbers ns

unfoldable pub taken_after : List ℕ → ℕ → List ℕ → Result (List ℕ × List ℕ) Reason
taken_after ns k line = answer_by (λ found. (found.0, after_words k line)) (numbers_after ns k (words_of line))

pub taken_from : (count : ℕ) (line : List ℕ) → taken_after [] (count - 0) line ≡ numbers_in count line
unfolding taken_after
taken_from count line = let left : count - 0 ≡ count = omega arith in ap (λ (k : ℕ). taken_after [] k line) left

module _ (ns : List ℕ) (k : ℕ) (line : List ℕ) where
  no_word_taken : first_word line ≡ None → taken_after ns (suc k) line ≡ Err TooFewWords
  unfolding taken_after numbers_after
  no_word_taken e = ap (λ (ws : List (List ℕ)). answer_by (λ found. (found.0, after_words (suc k) line)) (numbers_after ns (suc k) ws)) (no_word_words line e)

  module _ (w rest : List ℕ) (e : first_word line ≡ Some (w, rest)) where
    word_taken : taken_after ns (suc k) line ≡ answer_by (λ found. (found.0, after_words k rest)) (with_number (number_of w) (λ n. numbers_after (ns ++ (n ∷ [])) k (words_of rest)))
    unfolding taken_after numbers_after after_words
    word_taken =
        ap (λ (ws : List (List ℕ)). answer_by (λ found. (found.0, after_words (suc k) line)) (numbers_after ns (suc k) ws)) (word_words line w rest e)
        ∙ ap (λ (o : Option (List ℕ × List ℕ)). answer_by (λ found. (found.0, after_words k (after_word o))) (with_number (number_of w) (λ n. numbers_after (ns ++ (n ∷ [])) k (words_of rest)))) e

    wrong_taken : (r : Reason) → number_of w ≡ Err r → taken_after ns (suc k) line ≡ Err r
    wrong_taken r f =
        word_taken ∙ ap (λ (m : Result ℕ Reason). answer_by (λ found. (found.0, after_words k rest)) (with_number m (λ n. numbers_after (ns ++ (n ∷ [])) k (words_of rest)))) f

    number_taken : (n : ℕ) → number_of w ≡ Ok n → taken_after ns (suc k) line ≡ taken_after (ns ++ (n ∷ [])) k rest
    unfolding taken_after
    number_taken n f =
        word_taken ∙ ap (λ (m : Result ℕ Reason). answer_by (λ found. (found.0, after_words k rest)) (with_number m (λ n. numbers_after (ns ++ (n ∷ [])) k (words_of rest)))) f

-- as many numbers as there are places: those before i are taken
module _ (count i : ℕ) (ns line : List ℕ) (whole : Result (List ℕ × List ℕ) Reason) (inv : taken_after (take i ns) (count - i) line ≡ whole) where
  pub taken_done : length ns ≤ i → count ≤ i → Ok (ns, line) ≡ whole
  unfolding taken_after numbers_after after_words
  taken_done l h =
      let left : count - i ≡ 0 = omega arith in
      sym (ap (λ (k : ℕ). taken_after (take i ns) k line) left ∙ ap (λ (ms : List ℕ). Ok (ms, line)) (take_all i ns l)) ∙ inv

  module _ (h : i < count) where
    further : taken_after (take i ns) (suc (count - suc i)) line ≡ whole
    further = let e : count - i ≡ suc (count - suc i) = omega arith in ap (λ (k : ℕ). taken_after (take i ns) k line) (sym e) ∙ inv

    pub taken_missing : None ≡ first_word line → Err TooFewWords ≡ whole
    taken_missing e = sym (no_word_taken (take i ns) (count - suc i) line (sym e)) ∙ further

    module _ (w rest : List ℕ) (e : Some (w, rest) ≡ first_word line) where
      pub taken_wrong : (r : Reason) → Err r ≡ number_of w → Err r ≡ whole
      taken_wrong r f = sym (wrong_taken (take i ns) (count - suc i) line w rest (sym e) r (sym f)) ∙ further

      pub taken_more : i < length ns → (n : ℕ) → Ok n ≡ number_of w → taken_after (take (i + 1) (set ns i n)) (count - (i + 1)) rest ≡ whole
      taken_more l n f =
          ap (λ (ms : List ℕ). taken_after ms (count - (i + 1)) rest) (rw (add-one i) (take-suc-set ns i n l))
          ∙ ap (λ (k : ℕ). taken_after (take i ns ++ (n ∷ [])) (count - k) rest) (add-one i)
          ∙ sym (number_taken (take i ns) (count - suc i) line w rest (sym e) n (sym f))
          ∙ further

-- ---- k numbers, and whether a word is left

pub same_case : {A B : Type 0} (f : A → B) (o : Option A) {p : Option B} {b : Bool} → option_map f o ≡ p → is_some o ≡ b → is_some p ≡ b
same_case f None e h = sym (ap is_some e) ∙ h
same_case f (Some a) e h = sym (ap is_some e) ∙ h

module _ (count : ℕ) (line ns rest : List ℕ) (e : Ok (ns, rest) ≡ numbers_in count line) where
  taken_only : only_of count (words_of line) ≡ with_no_word ns (words_of rest)
  taken_only = ap only_these (in_line count line ns rest (sym e))

  pub only_further : is_some (first_word rest) ≡ true → Err TooManyWords ≡ only_of count (words_of line)
  only_further h = go (first_word rest) refl h
    where
      go : (o : Option (List ℕ × List ℕ)) → first_word rest ≡ o → is_some o ≡ true → Err TooManyWords ≡ only_of count (words_of line)
      go None f h = absurd (cc)
      go (Some found) f h = sym (taken_only ∙ ap (with_no_word ns) (word_words rest found.0 found.1 f))

  pub only_done : is_some (first_word rest) ≡ false → Ok ns ≡ only_of count (words_of line)
  only_done h = go (first_word rest) refl h
    where
      go : (o : Option (List ℕ × List ℕ)) → first_word rest ≡ o → is_some o ≡ false → Ok ns ≡ only_of count (words_of line)
      go None f h = sym (taken_only ∙ ap (with_no_word ns) (no_word_words rest f))
      go (Some found) f h = absurd (cc)

-- of an array nothing is to be told: at a count that is a constant, the answer is what is said of it
pub as_it_is : {A : Type 0} (answer : Result A Reason) → answer_by (λ a. a) answer ≡ answer
as_it_is (Ok a) = refl
as_it_is (Err r) = refl

-- ---- a list to the end of the line, behind the numbers ns

unfoldable pub filled : List ℕ → ℕ → List (List ℕ) → Result Unit Reason × List ℕ
filled ns room ws = (answer_by (λ ms. tt) (list_after ns room ws), ns ++ listed room ws)

pub filled_from : (room : ℕ) (ns : List ℕ) (ws : List (List ℕ)) → ns ≡ [] → filled ns (room - length ns) ws ≡ list_filled room ws
unfolding filled
filled_from room ns ws e = let left : room - 0 ≡ room = omega arith in ap (λ (ms : List ℕ). filled ms (room - length ms) ws) e ∙ ap (λ (k : ℕ). filled [] k ws) left

nothing_filled : (ns : List ℕ) (k : ℕ) → filled ns k [] ≡ (Ok tt, ns)
unfolding filled list_after
nothing_filled ns zero = ap (λ (ms : List ℕ). (Ok tt, ms)) (append-nil ns)
nothing_filled ns (suc k) = ap (λ (ms : List ℕ). (Ok tt, ms)) (append-nil ns)

full : (ns w : List ℕ) (ws : List (List ℕ)) → filled ns 0 (w ∷ ws) ≡ (Err TooManyWords, ns)
unfolding filled list_after
full ns w ws = ap (λ (ms : List ℕ). (Err TooManyWords, ms)) (append-nil ns)

module _ (ns : List ℕ) (k : ℕ) (w : List ℕ) (ws : List (List ℕ)) where
  as_found : (r : Result ℕ Reason) → number_of w ≡ r → filled ns (suc k) (w ∷ ws)
      ≡ (answer_by (λ ms. tt) (with_number r (λ n. list_after (ns ++ (entry n ∷ [])) k ws)), ns ++ take (suc k) (map entry (ok_prefix (r ∷ map number_of ws))))
  unfolding filled list_after
  as_found r e = ap (λ (m : Result ℕ Reason). (answer_by (λ ms. tt) (with_number m (λ n. list_after (ns ++ (entry n ∷ [])) k ws)), ns ++ take (suc k) (map entry (ok_prefix (m ∷ map number_of ws))))) e

  wrong : (r : Reason) → number_of w ≡ Err r → filled ns (suc k) (w ∷ ws) ≡ (Err r, ns)
  wrong r e = as_found (Err r) e ∙ ap (λ (ms : List ℕ). (Err r, ms)) (append-nil ns)

  one_more : (n : ℕ) → number_of w ≡ Ok n → filled ns (suc k) (w ∷ ws) ≡ filled (ns ++ (entry n ∷ [])) k ws
  unfolding filled
  one_more n e = as_found (Ok n) e ∙ ap (λ (ms : List ℕ). (answer_by (λ ms. tt) (list_after (ns ++ (entry n ∷ [])) k ws), ms)) (sym (append_assoc ns (entry n ∷ []) (listed k ws)))

module _ (room : ℕ) (ns line : List ℕ) (whole : Result Unit Reason × List ℕ) (inv : filled ns (room - length ns) (words_of line) ≡ whole) where
  pub list_done : None ≡ first_word line → (Ok tt, ns) ≡ whole
  list_done e = sym (ap (filled ns (room - length ns)) (no_word_words line (sym e)) ∙ nothing_filled ns (room - length ns)) ∙ inv

  module _ (w rest : List ℕ) (e : Some (w, rest) ≡ first_word line) where
    in_words : filled ns (room - length ns) (w ∷ words_of rest) ≡ whole
    in_words = ap (filled ns (room - length ns)) (sym (word_words line w rest (sym e))) ∙ inv

    pub list_full : room ≤ length ns → (Err TooManyWords, ns) ≡ whole
    list_full h = let left : room - length ns ≡ 0 = omega arith in sym (ap (λ (k : ℕ). filled ns k (w ∷ words_of rest)) left ∙ full ns w (words_of rest)) ∙ in_words

    module _ (h : length ns < room) where
      further_words : filled ns (suc (room - suc (length ns))) (w ∷ words_of rest) ≡ whole
      further_words = let left : room - length ns ≡ suc (room - suc (length ns)) = omega arith in ap (λ (k : ℕ). filled ns k (w ∷ words_of rest)) (sym left) ∙ in_words

      pub list_wrong : (r : Reason) → Err r ≡ number_of w → (Err r, ns) ≡ whole
      list_wrong r f = sym (wrong ns (room - suc (length ns)) w (words_of rest) r (sym f)) ∙ further_words

      pub list_more : (n v : ℕ) → Ok n ≡ number_of w → v ≡ entry n → filled (ns ++ (v ∷ [])) (room - length (ns ++ (v ∷ []))) (words_of rest) ≡ whole
      list_more n v f g =
          let left : room - length (ns ++ (v ∷ [])) ≡ room - suc (length ns) = omega (arith, length-append ns (v ∷ [])) in
          ap (λ (k : ℕ). filled (ns ++ (v ∷ [])) k (words_of rest)) left
          ∙ ap (λ (m : ℕ). filled (ns ++ (m ∷ [])) (room - suc (length ns)) (words_of rest)) g
          ∙ sym (one_more ns (room - suc (length ns)) w (words_of rest) n (sym f))
          ∙ further_words
