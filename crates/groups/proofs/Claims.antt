-- specs/Claims.antt, from the laws of the other files. Assumes nothing.
use Prim.Native.Nat.{ℕ, zero, suc, ◌+◌, ◌-◌, ◌*◌, ◌/◌, ◌≤◌, ◌<◌}
use mathlib.Core.Path.{◌≡◌, refl, ap, subst}
use mathlib.Core.Bool.{Bool, true, false, cond}
use mathlib.Core.List.{List}
use mathlib.Core.Logic.{◌⊎◌, inl, inr, ⊎_elim}
use native.Mathlib.Nat.{mul-pos, mod-lt}
use native.Mathlib.Omega.{arith}
use lib.Dec.{ltb, lit<}
use borrow.Author.Tests.{leb-false, ltb-false, not-false, eq-eqb, ne_eqb, eqb-false}
use Rattle.answers.specs.Ranges.{hyperframe}
use Rattle.answers.proofs.Tests.{and_rest, or_left, refute, not_both}
use Rattle.answers.specs.Claims.{NoCause}
use Rattle.answers.proofs.Decide.{accepted_has_none}
use Rattle.groups.specs.Paging.{Common, last_three, n, r, timeslot, block, common_in, later, wait, block_for, paging_causes, paging_of}
use Rattle.groups.specs.Claims.{FairCall, LastThree, Group, Groups, MayStand, Answered, First}
use Rattle.groups.proofs.Causes.{page_fair}
use Rattle.groups.proofs.FirstBlock as blocks
use Rattle.groups.proofs.Group.{group, turn, turn_below, block_below}
use Rattle.groups.proofs.Imsi.{three_digits, last_three_below}
use Rattle.groups.proofs.PagedFrames.{in_map}

pub fair_call : FairCall
unfolding FairCall
fair_call = page_fair

pub last_three_digits : LastThree
unfolding LastThree
last_three_digits digits e = (three_digits digits e, last_three_below digits e)

group_of : (c : Common) (i : ℕ) → 0 < n c → 0 < c.K → Group c i
group_of c i hn hk =
    record {
      group = group c i hn;
      turn = turn c i hn hk;
      timeslot_below = omega (arith, turn_below c i hn hk);
      block_from = omega arith;
      block_below = block_below c i hn;
    }

pub groups : Groups
unfolding Groups
groups = group_of

-- ---- what an accepted page shows

-- twice 0 to 3
even_timeslot : (u : ℕ) → u < 4 → (2 * u ≡ 0) ⊎ (2 * u ≡ 2) ⊎ (2 * u ≡ 4) ⊎ (2 * u ≡ 6)
even_timeslot zero h = inl (omega arith)
even_timeslot (suc zero) h = inr (inl (omega arith))
even_timeslot (suc (suc zero)) h = inr (inr (inl (omega arith)))
even_timeslot (suc (suc (suc u))) h = inr (inr (inr (omega arith)))

-- the 4 or the 5 in timeslot 0, and a 6 in the others
placed : (combined : Bool) (tn : ℕ) → (combined ≡ true → tn ≡ 0) → (tn ≡ 0) ⊎ (tn ≡ 2) ⊎ (tn ≡ 4) ⊎ (tn ≡ 6) → MayStand (common_in combined tn) tn
placed true tn five w = inl (inr refl, five refl)
placed false tn five (inl z) = inl (inl (ap (λ (t : Bool). cond t 4 6) (eq-eqb tn 0 z)), z)
placed false tn five (inr w) = inr (ap (λ (t : Bool). cond t 4 6) (ne_eqb tn 0 (λ z. ⊎_elim (λ (e : tn ≡ 2). omega arith) (λ u. ⊎_elim (λ (e : tn ≡ 4). omega arith) (λ (e : tn ≡ 6). omega arith) u) w)), w)

module _ (c : Common) (digits : List ℕ) (fn : ℕ) (free : NoCause (paging_causes c digits fn)) where
  abbrev i : ℕ
  i = last_three digits

  frame_below : fn < hyperframe
  frame_below = leb-false _ _ free.1.0.0

  small : i < 1000
  small = last_three_below digits (not-false _ free.1.0.1.0)

  some_line : 0 < c.K
  some_line = let z = eqb-false c.K 0 free.1.1.1.0.0 in omega (arith, z)

  at_most_four : c.K ≤ 4
  at_most_four = ltb-false 4 c.K free.1.1.0.0

  alone_five : c.combined ≡ true → c.K ≡ 1
  alone_five e = let h = ltb-false 1 c.K (and_rest c.combined _ e free.1.1.0.1.0) in omega (arith, h, some_line)

  pub has_groups : 0 < n c
  has_groups = go c.combined (λ e. ltb-false 2 c.AG (and_rest c.combined _ e free.1.1.0.1.1.0))
    where
      ag : c.AG ≤ 7
      ag = ltb-false 7 c.AG free.0.0

      p : 2 ≤ c.P
      p = ltb-false c.P 2 (refute (ltb c.P 2) (λ t. not_both (or_left (ltb 9 c.P) t) free.0.1.0))

      go : (b : Bool) → (b ≡ true → c.AG ≤ 2) → 0 < (cond b 3 9 - c.AG) * c.P
      go true f = mul-pos (let h = f refl in omega (arith, h)) (omega (arith, p))
      go false f = mul-pos (omega (arith, ag)) (omega (arith, p))

  turned : r c i / n c < c.K
  turned = turn_below c i has_groups some_line

  tn_is : (timeslot c i ≡ 0) ⊎ (timeslot c i ≡ 2) ⊎ (timeslot c i ≡ 4) ⊎ (timeslot c i ≡ 6)
  tn_is = even_timeslot (r c i / n c) (omega (arith, turned, at_most_four))

  answered : Answered c i fn (record { tn = timeslot c i; block = block c i; frame = later fn (wait c i fn) })
  answered =
      let f = blocks.first c i fn has_groups small frame_below in
      record {
        has_groups = has_groups;
        timeslot = tn_is;
        common_line = placed c.combined (timeslot c i) (λ e. let k = alone_five e in omega (arith, k, turned)) tn_is;
        a_five = alone_five;
        group = group_of c i has_groups some_line;
        first = record { after = wait c i fn; is_later = refl; within = f.within; begins = f.begins; none_before = f.none_before };
        past_turn = blocks.past_turn c i fn has_groups small frame_below;
        on_air = in_map c i has_groups (later fn (wait c i fn)) f.begins (omega (arith, turned, at_most_four)) (mod-lt (fn + wait c i fn) (lit< tt));
      }

pub first : First
unfolding First paging_of block_for
first c digits fn b e =
    let w = accepted_has_none (block_for c (last_three digits) fn) (paging_causes c digits fn) b e in
    subst (Answered c (last_three digits) fn) w.0 (answered c digits fn w.1)
