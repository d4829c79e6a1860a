-- The cell that start hands back, accepted or refused: its CA is a cell allocation with C0 in it, BCC, AG and P are in range, and it is what an
-- empty history says. Assumes nothing.
use Prim.Native.Nat.{ℕ, ◌≤◌, ◌<◌}
use mathlib.Core.Path.{◌≡◌, refl, sym, ap, ◌∙◌, subst}
use mathlib.Core.Bool.{true, false}
use mathlib.Core.List.{List, [], ◌∷◌}
use native.Mathlib.Decide.{dec_lt}
use native.Mathlib.Omega.{arith}
use lib.Dec.{lit≤, ltb}
use lib.ListN.{length, get_or, get_or-eq_default}
use borrow.Author.Tests.{ltb-false, not-false}
use Rattle.answers.specs.Outcome.{Outcome}
use Rattle.answers.specs.Ranges.{no_size}
use Rattle.answers.specs.Search.{all_below, any_below}
use Rattle.answers.proofs.Decide.{decided}
use Rattle.answers.proofs.Tests.{or_none_left, or_none_right}
use Rattle.hops.specs.Allocation.{is_allocation, lists}
use Rattle.hops.proofs.Apart.{sized, at_most_64}
use Rattle.rules.specs.State.{Cell, tabulate, allocation, empty}
use Rattle.rules.specs.Calls.{step, start_causes, refused_cell, start_of}
use Rattle.rules.specs.History.{opened_with, last_accepted, cell_from}
use Rattle.rules.proofs.Tabulate.{tabulate_at, tabulate_list, tabulate_length}

-- C0 is among the entries of a CA, BCC, AG and P are in range
record InRange (ca : List ℕ) (c0 bcc ag p : ℕ) : Type 0 where
  pub c0_listed : lists ca c0 ≡ true
  pub bcc_range : bcc ≤ 7
  pub ag_range : ag ≤ 7
  pub p_range : 2 ≤ p
  pub p_most : p ≤ 9

pub record Begun (first : Cell) : Type 0 where
  pub allocated : is_allocation (allocation first) ≡ true
  pub known_length : length (allocation first) ≡ first.size
  pub ag_range : first.ag ≤ 7
  pub p_range : 2 ≤ first.p
  pub nothing_open : first ≡ cell_from first []

-- CA has room for 64 entries, and 0 after its own; C0 is one of them; the other ranges
pub record Filled (first : Cell) : Type 0 where
  pub room : length first.ca ≡ 64
  pub past_length : (k : ℕ) → first.size ≤ k → get_or first.ca k 0 ≡ 0
  pub c0_listed : lists (allocation first) first.c0 ≡ true
  pub bcc_range : first.bcc ≤ 7
  pub p_most : first.p ≤ 9

module _ (ca : List ℕ) (c0 bcc ag p : ℕ) (h : is_allocation ca ≡ true) (r : InRange ca c0 bcc ag p) where
  same : allocation (empty ca c0 bcc ag p) ≡ ca
  unfolding empty
  same = tabulate_list 64 ca 0 (at_most_64 ca h)

  empty_begun : Begun (empty ca c0 bcc ag p)
  unfolding empty cell_from opened_with last_accepted
  empty_begun =
      record { allocated = ap is_allocation same ∙ h; known_length = ap (λ (xs : List ℕ). length xs) same; ag_range = r.ag_range; p_range = r.p_range; nothing_open = refl }

  empty_filled : Filled (empty ca c0 bcc ag p)
  unfolding empty
  empty_filled =
      record { room = tabulate_length 64 (λ k. get_or ca k 0); past_length = past; c0_listed = ap (λ (xs : List ℕ). lists xs c0) same ∙ r.c0_listed; bcc_range = r.bcc_range; p_most = r.p_most }
    where
      past : (k : ℕ) → length ca ≤ k → get_or (tabulate 64 (λ i. get_or ca i 0)) k 0 ≡ 0
      past k l = inside (dec_lt k 64)
        where
          inside : Dec (k < 64) → get_or (tabulate 64 (λ i. get_or ca i 0)) k 0 ≡ 0
          inside (yes b) = tabulate_at 64 (λ i. get_or ca i 0) 0 k b ∙ get_or-eq_default ca 0 l
          inside (no b) =
              let e = tabulate_length 64 (λ i. get_or ca i 0) in
              let h : length (tabulate 64 (λ i. get_or ca i 0)) ≤ k = omega arith in
              get_or-eq_default (tabulate 64 (λ i. get_or ca i 0)) 0 h

-- CA has the length of one
pub begun_size : (first : Cell) → Begun first → no_size first.size ≡ false
begun_size first b = subst (λ (n : ℕ). no_size n ≡ false) b.known_length (sized (allocation first) b.allocated)

-- a position below the size is one of the allocation, and a bit of a mask
module _ (first : Cell) (b : Begun first) (k : ℕ) (l : k < first.size) where
  pub in_allocation : k < length (allocation first)
  in_allocation = subst (λ (i : ℕ). k < i) (sym b.known_length) l

  pub below_64 : k < 64
  below_64 = omega (arith, at_most_64 (allocation first) b.allocated, in_allocation)

zero_allocation : is_allocation (0 ∷ []) ≡ true
unfolding is_allocation all_below
zero_allocation = refl

zero_in_range : InRange (0 ∷ []) 0 0 0 2
unfolding any_below
zero_in_range = record { c0_listed = refl; bcc_range = lit≤ {m = 0} {n = 7} tt; ag_range = lit≤ {m = 0} {n = 7} tt; p_range = lit≤ {m = 2} {n = 2} tt; p_most = lit≤ {m = 2} {n = 9} tt }

-- what holds of the refused start's cell, and of each that 1 and 2 do not refuse, holds of the cell that start hands back
started : (Has : Cell → Type 0) → ((ca : List ℕ) (c0 bcc ag p : ℕ) → is_allocation ca ≡ true → InRange ca c0 bcc ag p → Has (empty ca c0 bcc ag p))
    → (ca : List ℕ) (c0 bcc ag p : ℕ) → Has (start_of ca c0 bcc ag p).cell
unfolding start_of
started Has has ca c0 bcc ag p =
    decided (start_causes ca c0 bcc ag p) (empty ca c0 bcc ag p) (λ (o : Outcome Cell). Has (step refused_cell o).cell) (λ r. has (0 ∷ []) 0 0 0 2 zero_allocation zero_in_range)
    (λ none. has ca c0 bcc ag p (not-false _ none.0.0)
    (record {
      c0_listed = not-false _ none.1.0.0;
      bcc_range = ltb-false 7 bcc none.1.0.1.0;
      ag_range = ltb-false 7 ag none.1.0.1.1.0;
      p_range = ltb-false p 2 (or_none_left (ltb p 2) (ltb 9 p) none.1.0.1.1.1.0);
      p_most = ltb-false 9 p (or_none_right (ltb p 2) (ltb 9 p) none.1.0.1.1.1.0);
    }))

pub start_begun : (ca : List ℕ) (c0 bcc ag p : ℕ) → Begun (start_of ca c0 bcc ag p).cell
start_begun = started Begun (λ ca c0 bcc ag p h r. empty_begun ca c0 bcc ag p h r)

pub start_filled : (ca : List ℕ) (c0 bcc ag p : ℕ) → Filled (start_of ca c0 bcc ag p).cell
start_filled = started Filled (λ ca c0 bcc ag p h r. empty_filled ca c0 bcc ag p h r)
