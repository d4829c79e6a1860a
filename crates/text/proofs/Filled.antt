-- What a lent slice has before its place after a text was put there. Assumes nothing.
use Rattle.std.proofs.Common.{◌≡◌, ℕ, ◌+◌, ◌-◌, ◌<◌, ◌≤◌, min, List, [], ◌∷◌, ◌++◌, length, take, set, map, add-one, sym, ap, ◌∙◌, append_assoc, arith, length-append}
use Rattle.std.proofs.lemmas.List.{length-take, length-map, take_min, take_at, take-map}
use Rattle.std.proofs.Math.Seq.{take-suc-set}
use Rattle.wording.specs.Print.{written, Appended}
use Rattle.wording.proofs.Written.{written_whole, written-full, written-take, written_as_appended}

module _ (slice text : List ℕ) (at start from fits : ℕ) (first : start ≡ min at (length slice)) (same : from ≡ start) (most : fits ≡ min (length slice - start) (length text)) where
  before : take from slice ≡ take at slice
  before = ap (λ (n : ℕ). take n slice) (same ∙ first) ∙ take_min at slice

  size : length (take from slice) ≡ start
  size = length-take from slice ∙ omega (arith, first, same)

  pub filled : (put rest : List ℕ) → put ≡ take fits text → take (start + fits) (take from slice ++ (put ++ rest)) ≡ written (length slice) (take at slice) text
  filled put rest e =
      let long : length put ≡ fits = ap length e ∙ length-take fits text ∙ omega (arith, most) in
      let whole : length (take from slice ++ put) ≡ start + fits = length-append (take from slice) put ∙ omega (arith, size, long) in
      ap (take (start + fits)) (sym (append_assoc (take from slice) put rest))
      ∙ take_at (take from slice ++ put) rest (start + fits) whole
      ∙ ap (λ (s : List ℕ). take from slice ++ s) e
      ∙ written-take (length slice) (take from slice) text fits (omega (arith, size, most))
      ∙ ap (λ (s : List ℕ). written (length slice) s text) before

-- with each byte changed
pub filled_each : (f : ℕ → ℕ) (slice text : List ℕ) (at start from fits : ℕ) → start ≡ min at (length slice) → from ≡ start → fits ≡ min (length slice - start) (length text)
    → (put rest : List ℕ) → put ≡ map f (take fits text) → take (start + fits) (take from slice ++ (put ++ rest)) ≡ written (length slice) (take at slice) (map f text)
filled_each f slice text at start from fits first same most put rest e =
    filled slice (map f text) at start from fits first same (omega (arith, most, length-map text f)) put rest (e ∙ sym (take-map f fits text))

-- one more, where there is room for it, and where there is none
pub one_filled : (slice : List ℕ) (at place x : ℕ) → place ≡ at → at < length slice → take (at + 1) (set slice place x) ≡ written (length slice) (take at slice) (x ∷ [])
one_filled slice at place x same h =
    ap (λ (n : ℕ). take (at + 1) (set slice n x)) same
    ∙ rw (add-one at) (take-suc-set slice at x h)
    ∙ sym (written_whole (length slice) (take at slice) (x ∷ []) (omega (arith, h, length-take at slice)))

pub none_filled : (slice : List ℕ) (at x : ℕ) → length slice ≤ at → take at slice ≡ written (length slice) (take at slice) (x ∷ [])
none_filled slice at x h = sym (written-full (length slice) (take at slice) (x ∷ []) (omega (arith, h, length-take at slice)))

-- as a lent slice and a place tell it
pub appended : (before after text : List ℕ) (at place end : ℕ) → take place after ≡ written (length before) (take at before) text → length after ≡ length before
    → end ≡ min place (length after) → Appended before at after end text
appended before after text at place end put same e = written_as_appended same (omega (arith, e)) (ap (λ (n : ℕ). take n after) e ∙ take_min place after ∙ put)
