-- What a chain over the numbers below a bound comes to, in the words of specs/Search.antt. Assumes nothing.
use Prim.Native.Nat.{ℕ, zero, suc, ◌+◌, ◌<◌}
use mathlib.Core.Path.{◌≡◌, refl, ap, subst, ◌∙◌}
use mathlib.Core.Bool.{Bool, true, false, ◌||◌, cond}
use mathlib.Core.List.{List, [], ◌∷◌, ◌++◌}
use native.Mathlib.Omega.{arith}
use lib.ListN.{length, get_or}
use denote.Param.Members.{Mut}
use Rattle.std.proofs.iter.Yields.{nat_range_steps}
use Rattle.std.proofs.lemmas.Iterator.{YieldsList-from_range, cases_from_any}
use Rattle.std.proofs.lemmas.Iterator.Search.{any_from_yields_List}
use Rattle.std.proofs.lemmas.List.Elements.{filter-append}
use Rattle.std.proofs.lemmas.List.Folds.{list_any-append}
use Rattle.std.proofs.Common.{length-append}
use Rattle.std.specs.Fn.{Called}
use Rattle.std.specs.Iterator.{ChecksAny}
use Rattle.std.proofs.lemmas.List.FromFn.{length-range_with_len, get_or-range_with_len}
use Rattle.std.specs.Bool.{MatchBool}
use Rattle.std.specs.List.{range_with_len, list_any, filter, HoldsAt, AllWithin}
use Rattle.std.specs.declared.ops.Range.{Range}
use Rattle.answers.specs.Search.{any_below, count_below}
use Rattle.answers.proofs.Tests.{or_false}

-- the numbers from a on, one more
range_more : (a n : ℕ) → range_with_len a (suc n) ≡ range_with_len a n ++ (a + n) ∷ []
range_more a zero = ap (λ (k : ℕ). k ∷ []) (let e : a ≡ a + 0 = omega arith in e)
range_more a (suc n) = ap {B = List ℕ} (λ (xs : List ℕ). a ∷ xs) (range_more (a + 1) n ∙ ap (λ (k : ℕ). range_with_len (a + 1) n ++ k ∷ []) (let e : a + 1 + n ≡ a + suc n = omega arith in e))

module _ (test : ℕ → Bool) where
  any_listed : (n : ℕ) → list_any test (range_with_len 0 n) ≡ any_below test n
  unfolding any_below
  any_listed zero = refl
  any_listed (suc n) = ap (list_any test) (range_more 0 n) ∙ list_any-append test (range_with_len 0 n) _ ∙ joined (any_listed n) (or_false _ ∙ ap test (let e : 0 + n ≡ n = omega arith in e))
    where
      joined : {a b c d : Bool} → a ≡ b → c ≡ d → (a || c) ≡ (b || d)
      joined p q = cc

  pub count_listed : (n : ℕ) → length (filter test (range_with_len 0 n)) ≡ count_below test n
  unfolding count_below
  count_listed zero = refl
  count_listed (suc n) =
      ap (λ (xs : List ℕ). length (filter test xs)) (range_more 0 n)
      ∙ ap length (filter-append test (range_with_len 0 n) _)
      ∙ length-append (filter test (range_with_len 0 n)) _
      ∙ joined (count_listed n) (one (0 + n) ∙ ap (λ (k : ℕ). cond (test k) 1 0) (let e : 0 + n ≡ n = omega arith in e))
    where
      joined : {a b c d : ℕ} → a ≡ b → c ≡ d → a + c ≡ b + d
      joined p q = cc

      one : (k : ℕ) → length (filter test (k ∷ [])) ≡ cond (test k) 1 0
      one k = go (test k)
        where
          go : (b : Bool) → length (cond b (k ∷ []) []) ≡ cond b 1 0
          go true = refl
          go false = refl

-- ---- what `any` and `find` answer over a range whose closure computes the test

module _ (n : ℕ) {s : Range ℕ} (e : s ≡ record { start = 0; end = n }) where
  from : s.start ≡ 0
  from = ap (λ (k : Range ℕ). k.start) e

  to : s.end ≡ n
  to = ap (λ (k : Range ℕ). k.end) e

  pub any_in_range : (test : ℕ → Bool) {F : Type 0} {g : Mut F (ℕ × Unit {0}) Bool} {f : F} (u : Range ℕ) (r : Bool) → ChecksAny nat_range_steps g s f r u
      → ((x : ℕ) (b : Bool) (q : F) → Called g f (x, tt) b q → (q ≡ f) × (b ≡ test x)) → r ≡ any_below test n
  any_in_range test u r ran calls = any_from_yields_List test u _ r ran (YieldsList-from_range 0 n n e (omega arith)) calls ∙ any_listed test n

  -- the same where no test is known, but what each answer of the closure shows
  pub found_in_range : {F : Type 0} {g : Mut F (ℕ × Unit {0}) Bool} {f : F} (u : Range ℕ) (r : Bool) (Yes No : ℕ → Type 0) → ChecksAny nat_range_steps g s f r u
      → ((x : ℕ) (q : F) → Called g f (x, tt) true q → Yes x) → ((x : ℕ) (q : F) → Called g f (x, tt) false q → (q ≡ f) × No x)
      → MatchBool r ((k : ℕ) × (k < n) × Yes k) ((k : ℕ) → k < n → No k)
  found_in_range u r Yes No ran at_true at_false = told r (cases_from_any u _ r Yes No ran (YieldsList-from_range 0 n n e (omega arith)) at_true at_false)
    where
      all : List ℕ
      all = range_with_len 0 n

      at : (k : ℕ) → k < n → get_or all k 0 ≡ k
      at k h = get_or-range_with_len 0 n k 0 h ∙ (let q : 0 + k ≡ k = omega arith in q)

      told : (r : Bool) → MatchBool r ((k : ℕ) × (k < length all) × HoldsAt Yes all k) (AllWithin No all 0 (length all)) → MatchBool r ((k : ℕ) × (k < n) × Yes k) ((k : ℕ) → k < n → No k)
      told true m = let b : m.0 < n = omega (arith, m.1, length-range_with_len 0 n) in (m.0, b, subst Yes (at m.0 b) (m.2 0))
      told false m = λ k h. subst No (at k h) (m k 0 (omega arith) (omega (arith, h, length-range_with_len 0 n)))
