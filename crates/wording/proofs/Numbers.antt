-- Laws of the numbers of a line, and of the list that words are. Assumes nothing.
use Rattle.std.proofs.Common.{◌≡◌, ℕ, zero, suc, List, [], ◌∷◌, ◌++◌, take, map, Option, Some, None, Result, Ok, Err, refl, sym, ap, ◌∙◌, append_assoc, append-nil}
use Rattle.std.specs.Result.{ok_prefix}
use Rattle.wording.specs.declared.Reason.{Reason}
use Rattle.wording.specs.declared.Reason.TheVariants.{TooFewWords}
use Rattle.wording.specs.Words.{words_of, first_word, after_word, after_words}
use Rattle.wording.specs.Numbers.{number_of, with_number, numbers_after, numbers_of, numbers_in, answer_by, entry, list_after, list_of, listed, list_filled}
use Rattle.wording.proofs.Words.{word_words, no_word_words}

-- ---- the words after numbers are those of what follows them

module _ (ns : List ℕ) (k : ℕ) (line ms : List ℕ) (ws : List (List ℕ)) where
  number_left : (r : Result ℕ Reason) (rest : List ℕ) → with_number r (λ n. numbers_after (ns ++ (n ∷ [])) k (words_of rest)) ≡ Ok (ms, ws)
      → ((n : ℕ) → numbers_after (ns ++ (n ∷ [])) k (words_of rest) ≡ Ok (ms, ws) → ws ≡ words_of (after_words k rest)) → ws ≡ words_of (after_words k rest)
  number_left (Ok n) rest e ih = ih n e
  number_left (Err r) rest e ih = absurd (cc)

  word_left : (o : Option (List ℕ × List ℕ)) → first_word line ≡ o → numbers_after ns (suc k) (words_of line) ≡ Ok (ms, ws)
      → ((n : ℕ) (rest : List ℕ) → numbers_after (ns ++ (n ∷ [])) k (words_of rest) ≡ Ok (ms, ws) → ws ≡ words_of (after_words k rest)) → ws ≡ words_of (after_words k (after_word o))
  unfolding numbers_after
  word_left None found e ih =
      let wrong : ◌≡◌ {A = Result (List ℕ × List (List ℕ)) Reason} (Err TooFewWords) (Ok (ms, ws)) = sym (ap (numbers_after ns (suc k)) (no_word_words line found)) ∙ e in
      absurd (cc)
  word_left (Some word) found e ih =
      number_left (number_of word.0) word.1 (sym (ap (numbers_after ns (suc k)) (word_words line word.0 word.1 found)) ∙ e) (λ n. ih n word.1)

left_words : (k : ℕ) (ns line ms : List ℕ) (ws : List (List ℕ)) → numbers_after ns k (words_of line) ≡ Ok (ms, ws) → ws ≡ words_of (after_words k line)
unfolding numbers_after after_words
left_words zero ns line ms ws e = let both : ◌≡◌ {A = List ℕ × List (List ℕ)} (ns, words_of line) (ms, ws) = cc in sym (ap (λ (p : List ℕ × List (List ℕ)). p.1) both)
left_words (suc k) ns line ms ws e = word_left ns k line ms ws (first_word line) refl e (λ n rest. left_words k (ns ++ (n ∷ [])) rest ms ws)

pub in_line : (k : ℕ) (line ns rest : List ℕ) → numbers_in k line ≡ Ok (ns, rest) → numbers_of k (words_of line) ≡ Ok (ns, words_of rest)
in_line k line ns rest e = go (numbers_of k (words_of line)) e (left_words k [] line)
  where
    go : (r : Result (List ℕ × List (List ℕ)) Reason) → answer_by {B = List ℕ × List ℕ} (λ found. (found.0, after_words k line)) r ≡ Ok (ns, rest)
        → ((ms : List ℕ) (ws : List (List ℕ)) → r ≡ Ok (ms, ws) → ws ≡ words_of (after_words k line)) → r ≡ Ok (ns, words_of rest)
    go (Ok found) e left =
        let both : ◌≡◌ {A = List ℕ × List ℕ} (found.0, after_words k line) (ns, rest) = cc in
        ap (λ (ws : List (List ℕ)). Ok (found.0, ws)) (left found.0 found.1 refl) ∙ ap (λ (p : List ℕ × List ℕ). Ok (p.0, words_of p.1)) both
    go (Err r) e left = absurd (cc)

pub not_in_line : (k : ℕ) (line : List ℕ) (r : Reason) → numbers_in k line ≡ Err r → numbers_of k (words_of line) ≡ Err r
not_in_line k line r e = go (numbers_of k (words_of line)) e
  where
    go : (m : Result (List ℕ × List (List ℕ)) Reason) → answer_by {B = List ℕ × List ℕ} (λ found. (found.0, after_words k line)) m ≡ Err r → m ≡ Err r
    go (Ok found) e = absurd (cc)
    go (Err q) e = cc

-- ---- words that are a list fill the lent one

list_listed : (room : ℕ) (ns ms : List ℕ) (ws : List (List ℕ)) → list_after ns room ws ≡ Ok ms → ns ++ listed room ws ≡ ms
unfolding list_after
list_listed zero ns ms [] e = let same : ns ≡ ms = cc in append-nil ns ∙ same
list_listed (suc room) ns ms [] e = let same : ns ≡ ms = cc in append-nil ns ∙ same
list_listed zero ns ms (w ∷ ws) e = absurd (cc)
list_listed (suc room) ns ms (w ∷ ws) e = go (number_of w) e (λ n. list_listed room (ns ++ (entry n ∷ [])) ms ws)
  where
    go : (r : Result ℕ Reason) → with_number r (λ n. list_after (ns ++ (entry n ∷ [])) room ws) ≡ Ok ms
        → ((n : ℕ) → list_after (ns ++ (entry n ∷ [])) room ws ≡ Ok ms → (ns ++ (entry n ∷ [])) ++ listed room ws ≡ ms)
        → ns ++ take (suc room) (map entry (ok_prefix (r ∷ map number_of ws))) ≡ ms
    go (Ok n) e ih = sym (append_assoc ns (entry n ∷ []) (listed room ws)) ∙ ih n e
    go (Err r) e ih = absurd (cc)

pub filled_whole : (room : ℕ) (ws : List (List ℕ)) (ns : List ℕ) → list_of room ws ≡ Ok ns → list_filled room ws ≡ (Ok tt, ns)
filled_whole room ws ns e = ap (λ (r : Result (List ℕ) Reason). (answer_by (λ ms. tt) r, listed room ws)) e ∙ ap (λ (ms : List ℕ). (Ok tt, ms)) (list_listed room [] ns ws e)
