-- specs/Claims.antt, from the laws of the other files. Assumes nothing.
use Prim.Native.Nat.{ℕ, suc, ◌^◌, ◌<◌}
use mathlib.Core.Path.{◌≡◌, refl, sym, ap, ◌∙◌, subst}
use mathlib.Core.Bool.{Bool, true, false, not, cond}
use mathlib.Core.List.{List, [], ◌∷◌}
use native.Mathlib.Nat.{lt_trans}
use native.Mathlib.Omega.{arith}
use lib.Dec.{eqb, lit<}
use lib.ListN.{length, get_or}
use borrow.Author.Tests.{eqb-true, ltb-true, not-false}
use Rattle.answers.specs.Outcome.{Outcome, refused, accepted}
use Rattle.answers.specs.Claims.{NoCause}
use Rattle.answers.specs.Search.{all_below}
use Rattle.answers.proofs.Decide.{fair_answer, passes, decide_answered, answered, accepted_has_none}
use Rattle.answers.proofs.Search.{all_at}
use Rattle.hops.specs.Masks.{ones, one_at_or_above}
use Rattle.hops.specs.Allocation.{is_allocation}
use Rattle.hops.specs.Hopping.{rntable, line_arfcn, line_selection, tuned, line_tuning, hopping_causes, position_causes, position_of, hop_causes, hop_of}
use Rattle.hops.specs.Clash.{Physical}
use Rattle.hops.specs.declared.Selection.{Selection}
use Rattle.hops.specs.declared.Tuning.{Tuning}
use Rattle.hops.specs.Claims.{FairCalls, Apart, AtOne, Position, tuned_by, ByPosition, Nbin, Rntable, OneAtOrAbove, ClashIsSymmetric, Words}
use Rattle.hops.proofs.Apart.{Fit, apart, sized, clash_sym, line_one, line_within}
use Rattle.hops.proofs.Bits.{count_ones, share_and, above_shift, above_bit, bit_above, bit_past}
use Rattle.hops.proofs.Causes.{position_ascends, hop_ascends}
use Rattle.hops.proofs.Mai.{rn_le, index_lt, nbin_room, nbin_least, mai_lt}

pub fair_calls : FairCalls
unfolding position_of hop_of
fair_calls =
    record {
      of_position = λ size m hsn maio fn. fair_answer _ (position_causes size m hsn maio fn) (position_ascends size m hsn maio fn);
      of_hop = λ ca m hsn maio fn. fair_answer _ (hop_causes ca m hsn maio fn) (hop_ascends ca m hsn maio fn);
    }

-- ---- what an accepted call shows

module _ (size m hsn maio fn : ℕ) (free : NoCause (hopping_causes size m hsn maio fn)) where
  pub within : one_at_or_above m size ≡ false
  within = free.1.0.1.0

  pub maio_below : maio < ones m
  maio_below = ltb-true _ _ (not-false _ free.1.1.0.0)

pub position : Position
unfolding Position position_of
position size m hsn maio fn s e =
    let w = accepted_has_none (line_selection m hsn maio fn) (position_causes size m hsn maio fn) s e in
    let h = maio_below size m hsn maio fn w.1.1 in
    let o = line_one m hsn maio fn h in
    subst (AtOne size m hsn maio fn) w.0
    (record {
      is_one = o.one;
      mai_ones_below = o.rank;
      mai_told = sym o.rank;
      mai_below_n = mai_lt (ones m) hsn maio fn (omega arith);
      in_allocation = line_within m hsn maio fn h size (within size m hsn maio fn w.1.1);
    })

-- ---- two lines

module _ (ca : List ℕ) (v : Physical) (fn : ℕ) (s : Tuning) (e : hop_of ca v.mask v.hsn v.maio fn ≡ accepted s) where
  shown : (line_tuning ca v.mask v.hsn v.maio fn ≡ s) × NoCause (hop_causes ca v.mask v.hsn v.maio fn)
  unfolding hop_of
  shown = accepted_has_none (line_tuning ca v.mask v.hsn v.maio fn) (hop_causes ca v.mask v.hsn v.maio fn) s e

  arfcn_is : line_arfcn ca v.mask v.hsn v.maio fn ≡ s.arfcn
  arfcn_is = ap (λ (t : Tuning). t.arfcn) shown.0

  entry_is : get_or ca s.position 0 ≡ s.arfcn
  entry_is = subst (λ (t : Tuning). get_or ca t.position 0 ≡ t.arfcn) shown.0 refl

  fit : Fit ca v
  fit = record { within = within (length ca) v.mask v.hsn v.maio fn shown.1.1; maio_below = maio_below (length ca) v.mask v.hsn v.maio fn shown.1.1 }

  allocated : is_allocation ca ≡ true
  allocated = not-false _ shown.1.0.0

pub lines_apart : Apart
unfolding Apart
lines_apart ca v w same c fn s t ev ew = (differ, λ q. differ (sym (entry_is ca v fn s ev) ∙ (ap (λ (p : ℕ). get_or ca p 0) q ∙ entry_is ca w fn t ew)))
  where
    differ : s.arfcn ≡ t.arfcn → ⊥
    differ q =
        apart ca v w (allocated ca v fn s ev) (fit ca v fn s ev) (fit ca w fn t ew) same c fn
        (arfcn_is ca v fn s ev ∙ (q ∙ sym (arfcn_is ca w fn t ew)))

-- ---- hop by position

tuned_answered : (ca : List ℕ) (o : Outcome Selection) → answered (tuned ca) o ≡ tuned_by ca o
tuned_answered ca (refused r) = refl
tuned_answered ca (accepted s) = refl

pub by_position : ByPosition
unfolding ByPosition hop_of position_of
by_position ca m hsn maio fn h =
    passes _ (hopping_causes (length ca) m hsn maio fn) (line_tuning ca m hsn maio fn) (ap not h, tt)
    ∙ (sym (passes _ (hopping_causes (length ca) m hsn maio fn) (line_tuning ca m hsn maio fn) (sized ca h, tt))
    ∙ (decide_answered (tuned ca) (position_causes (length ca) m hsn maio fn) (line_selection m hsn maio fn)
    ∙ tuned_answered ca (position_of (length ca) m hsn maio fn)))

-- ---- NBIN and RNTABLE

pub nbin_bits : Nbin
unfolding Nbin
nbin_bits n h = let b : n < 2 ^ 63 = lt_trans (let q : n < 65 = omega arith in q) (lit< tt) in (nbin_room n b, nbin_least n b)

-- where a number first stands in a list
unfoldable place_in : List ℕ → ℕ → ℕ
place_in [] v = 0
place_in (x ∷ xs) v = cond (eqb x v) 0 (suc (place_in xs v))

-- each entry of RNTABLE stands where its number first does: one test over the table
abbrev is_first : ℕ → Bool
is_first i = eqb (place_in rntable (get_or rntable i 0)) i

all_first : all_below is_first 114 ≡ true
unfolding all_below rntable place_in
all_first = refl

first : (i : ℕ) → i < 114 → place_in rntable (get_or rntable i 0) ≡ i
first i h = eqb-true _ _ (all_at is_first 114 all_first i h)

pub table : Rntable
unfolding rntable
table =
    record {
      entries = refl;
      at_most_127 = rn_le;
      none_twice = λ i j hi hj e. sym (first i hi) ∙ (ap (place_in rntable) e ∙ first j hj);
      within = λ hsn t1 t3 h k. index_lt hsn t1 t3 (omega arith) k;
    }

pub words : Words
words = record { count = count_ones; overlap = share_and; membership = bit_past; shifted = above_shift }

pub one_at_or_above_size : OneAtOrAbove
one_at_or_above_size = record { some_bit = bit_above; any_bit = above_bit }

pub clash_is_symmetric : ClashIsSymmetric
unfolding ClashIsSymmetric
clash_is_symmetric = clash_sym
