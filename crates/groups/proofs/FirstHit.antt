-- The first frame at or after FN that is frame s of a multiframe with the remainder t by p: in the next such multiframe, or past the turn in
-- multiframe t, whether or not p divides the 53,248 multiframes. Assumes nothing.
use Prim.Native.Nat.{ℕ, ◌+◌, ◌-◌, ◌*◌, ◌/◌, ◌%◌, ◌≤◌, ◌<◌}
use mathlib.Core.Path.{◌≡◌, ap, ◌∙◌}
use mathlib.Core.Bool.{Bool, true}
use native.Mathlib.Decide.{dec_lt}
use native.Mathlib.Nat.{mod-eq_of_lt}
use native.Mathlib.Omega.{arith}
use lib.Dec.{eqb}
use borrow.Author.Tests.{eq-eqb, eqb-true}
use Rattle.answers.specs.Ranges.{hyperframe}
use Rattle.answers.specs.Search.{least}
use Rattle.answers.proofs.Search.{First, least_first}
use Rattle.answers.proofs.Tests.{and_left, and_right, and_both, refute}
use Rattle.groups.specs.Helpers.{is_hit}
use Rattle.groups.specs.Paging.{later}
use Rattle.groups.proofs.Remainders.{next, next_remainder, next_first}

-- the first multiframe at or after FN by its frame s, among those with the remainder
abbrev pub multiframe : ℕ → ℕ → ℕ → ℕ → ℕ
multiframe p t s fn = next ((fn + 50 - s) / 51) t p

-- f is the first frame at or after FN that passes the test
pub record Lands (test : ℕ → Bool) (fn f : ℕ) : Type 0 where
  pub first : First (λ (d : ℕ). test (later fn d)) hyperframe
  pub lands : later fn first.place ≡ f

pub lands_least : (test : ℕ → Bool) (fn f : ℕ) → Lands test fn f → later fn (least (λ (d : ℕ). test (later fn d)) hyperframe 0) ≡ f
lands_least test fn f w = ap (later fn) (least_first (λ (d : ℕ). test (later fn d)) hyperframe 0 w.first) ∙ w.lands

module _ (p t s : ℕ) where
  -- what a hit is
  remainder : (f : ℕ) → is_hit p t s f ≡ true → f / 51 % p ≡ t
  remainder f e = eqb-true (f / 51 % p) t (and_left (eqb (f / 51 % p) t) _ e)

  place_in : (f : ℕ) → is_hit p t s f ≡ true → f % 51 ≡ s
  place_in f e = eqb-true (f % 51) s (and_right (eqb (f / 51 % p) t) (eqb (f % 51) s) e)

module _ (p t s fn : ℕ) (ht : t < p) (hs : s < 51) where
  -- frame s of multiframe j is a hit if j has the remainder
  pub hit : (j : ℕ) → j % p ≡ t → is_hit p t s (51 * j + s) ≡ true
  hit j e =
      let q : (51 * j + s) / 51 ≡ j = omega arith in
      and_both (eq-eqb ((51 * j + s) / 51 % p) t (ap (λ (k : ℕ). k % p) q ∙ e)) (eq-eqb ((51 * j + s) % 51) s (omega arith))

  -- a hit from FN on is not before that multiframe
  not_before : (f : ℕ) → fn ≤ f → is_hit p t s f ≡ true → 51 * multiframe p t s fn + s ≤ f
  not_before f h e =
      let i = place_in p t s f e in
      omega (arith, next_first ((fn + 50 - s) / 51) t p ht (f / 51) (omega arith) (remainder p t s f e))

  module _ (hf : fn < hyperframe) (hm : t < 53248) where
    -- before the turn
    pub hit_next : multiframe p t s fn < 53248 → Lands (is_hit p t s) fn (51 * multiframe p t s fn + s)
    hit_next h =
        record {
          first =
              record {
                place = 51 * multiframe p t s fn + s - fn;
                below = omega arith;
                passes = ap (is_hit p t s) {x = later fn (51 * multiframe p t s fn + s - fn)} (omega arith) ∙ hit (multiframe p t s fn) (next_remainder _ t p ht);
                none = λ k l. refute _ (λ e. omega (arith, not_before (later fn k) (omega arith) e));
              };
          lands = omega arith;
        }

    -- past the turn only if FN is past multiframe t
    passed : 53248 ≤ multiframe p t s fn → 51 * t + s < fn
    passed h = go (dec_lt t ((fn + 50 - s) / 51))
      where
        go : Dec (t < (fn + 50 - s) / 51) → 51 * t + s < fn
        go (yes g) = omega arith
        go (no g) = omega (arith, next_first ((fn + 50 - s) / 51) t p ht t (omega arith) (mod-eq_of_lt ht))

    -- no hit is before multiframe t
    not_lower : (f : ℕ) → is_hit p t s f ≡ true → 51 * t + s ≤ f
    not_lower f e = go (dec_lt (f / 51) t)
      where
        go : Dec (f / 51 < t) → 51 * t + s ≤ f
        go (yes g) = omega (arith, remainder p t s f e, mod-eq_of_lt {n = f / 51} {m = p} (omega arith))
        go (no g) = omega (arith, place_in p t s f e)

    pub hit_past : 53248 ≤ multiframe p t s fn → Lands (is_hit p t s) fn (51 * t + s)
    hit_past h =
        record {
          first =
              record {
                place = 51 * t + s + hyperframe - fn;
                below = omega (arith, passed h);
                passes = ap (is_hit p t s) {x = later fn (51 * t + s + hyperframe - fn)} (omega (arith, passed h)) ∙ hit t (mod-eq_of_lt ht);
                none = λ k l. refute _ (λ e. go k l e (dec_lt (fn + k) hyperframe));
              };
          lands = omega (arith, passed h);
        }
      where
        go : (k : ℕ) → k < 51 * t + s + hyperframe - fn → is_hit p t s (later fn k) ≡ true → Dec (fn + k < hyperframe) → ⊥
        go k l e (yes g) = omega (arith, not_before (later fn k) (omega arith) e)
        go k l e (no g) = omega (arith, passed h, not_lower (later fn k) e)

    -- one or the other
    pub hit_first : (P : Type 0) → (multiframe p t s fn < 53248 → Lands (is_hit p t s) fn (51 * multiframe p t s fn + s) → P)
        → (53248 ≤ multiframe p t s fn → Lands (is_hit p t s) fn (51 * t + s) → P) → P
    hit_first P before past = go (dec_lt (multiframe p t s fn) 53248)
      where
        go : Dec (multiframe p t s fn < 53248) → P
        go (yes h) = before h (hit_next h)
        go (no h) = past (omega arith) (hit_past (omega arith))
