-- The calls that hand back a cell: document 01, "The cell and its calls" and "Who causes a refusal". Assumes nothing.
use Rattle.std.specs.Prelude.{ℕ, ◌+◌, ◌-◌, Bool, not, ◌&&◌, ◌||◌, cond, List, [], ◌∷◌, ltb, eqb, get_or, set, Result}
use Rattle.std.proofs.Math.Option.{Option, none, some}
use Rattle.answers.specs.Outcome.{Refused, Outcome, refused, accepted, Cause, cause, decide}
use Rattle.answers.specs.Ranges.{line_count, no_line, no_tn, no_hsn, no_tsc, no_bcc, no_ag, no_p, no_owner}
use Rattle.answers.specs.Refusals.{refusal_in}
use Rattle.answers.specs.declared.Refusal.{Refusal}
use Rattle.answers.specs.Search.{any_below, least}
use Rattle.hops.specs.Masks.{contains, ones}
use Rattle.hops.specs.Allocation.{allocation_cause, lists}
use Rattle.hops.specs.Hopping.{mask_cause, maio_cause}
use Rattle.hops.specs.Clash.{Physical, clash}
use Rattle.maps.specs.Combinations.{is_combination}
use Rattle.groups.specs.Paging.{reserves_too_many}
use Rattle.rules.specs.State.{Cell, LineState, Values, owner_room, line_with, free, closed_line, is_open, line_at, owner_at, empty}

-- ---- what a call hands back

-- its refusal, if it is refused, and the cell after it
pub record Step : Type 0 where
  pub refusal : Option Refused
  pub cell : Cell

-- refused, a call hands back the cell as it came; accepted, the cell that it leaves
abbrev pub step : Cell → Outcome Cell → Step
step before (refused r) = record { refusal = some r; cell = before }
step before (accepted after) = record { refusal = none; cell = after }

-- what the code answers, and the cell that it leaves
abbrev pub changed : Result Unit Refusal → Cell → Step
changed answer cell = record { refusal = refusal_in answer; cell = cell }

-- ---- start

-- "2 C0 not in CA, or BCC, AG or P out of range."
abbrev pub parameter_cause : List ℕ → ℕ → ℕ → ℕ → ℕ → Cause
parameter_cause ca c0 bcc ag p = cause 2 (not (lists ca c0) ∷ no_bcc bcc ∷ no_ag ag ∷ no_p p ∷ [])

-- 1 and 2
abbrev pub start_causes : List ℕ → ℕ → ℕ → ℕ → ℕ → List Cause
start_causes ca c0 bcc ag p = allocation_cause ca ∷ parameter_cause ca c0 bcc ag p ∷ []

-- "refused, it hands back the cell with ARFCN 0 as CA and C0, BCC and AG 0, P 2, all lines closed"
abbrev pub refused_cell : Cell
refused_cell = empty (0 ∷ []) 0 0 0 2

unfoldable pub start_of : List ℕ → ℕ → ℕ → ℕ → ℕ → Step
start_of ca c0 bcc ag p = step refused_cell (decide (start_causes ca c0 bcc ag p) (empty ca c0 bcc ag p))

-- ---- open

-- the cell with another line n
abbrev pub with_line : Cell → ℕ → LineState → Cell
with_line c n l =
    record { ca = c.ca; size = c.size; c0 = c.c0; bcc = c.bcc; ag = c.ag; p = c.p; lines = set c.lines n l }

-- "3 line number (0 to 63), TN, HSN, combination, TSC .. out of range"
abbrev pub open_range : ℕ → Values → List Bool
open_range n v = no_line n ∷ no_tn v.tn ∷ no_hsn v.hsn ∷ not (is_combination v.combination) ∷ no_tsc v.tsc ∷ []

-- some line passes the test
abbrev pub any_line : Cell → (LineState → Bool) → Bool
any_line c test = any_below (λ m. test (line_at c m)) line_count

-- an open line of this combination; one of 4, 5 or 6; one of this combination in this timeslot
abbrev pub has_combination : ℕ → LineState → Bool
has_combination combination l = eqb l.combination combination

abbrev pub is_common_combination : ℕ → Bool
is_common_combination combination = eqb combination 4 || eqb combination 5 || eqb combination 6

abbrev pub is_common_line : LineState → Bool
is_common_line l = is_common_combination l.combination

abbrev pub stands_in : ℕ → ℕ → LineState → Bool
stands_in combination tn l = eqb l.combination combination && eqb l.tn tn

-- some one of the mask stands for C0
abbrev pub has_c0 : Cell → ℕ → Bool
has_c0 c mask = any_below (λ p. contains mask p && eqb (get_or c.ca p 0) c.c0) c.size

-- "a mask with C0 alone"
abbrev pub c0_alone : Cell → ℕ → Bool
c0_alone c mask = eqb (ones mask) 1 && has_c0 c mask

-- "8 common channel misplaced. Open: 4 and 5 need TN 0, 6 needs TN 2, 4 or 6; these three need a mask with C0 alone and TSC = BCC; 4 and 5
-- need no other open 4, 5 or 6; 5 needs AG ≤ 2; 6 on TN 2 needs an open 4, on TN 4 or 6 an open 6 two timeslots lower."
abbrev pub misplaced : Cell → Values → List Bool
misplaced c v =
    ((is 4 || is 5) && not (eqb v.tn 0))
    ∷ (is 6 && not (eqb v.tn 2 || eqb v.tn 4 || eqb v.tn 6))
    ∷ (is_common_combination v.combination && not (c0_alone c v.mask))
    ∷ (is_common_combination v.combination && not (eqb v.tsc c.bcc))
    ∷ ((is 4 || is 5) && any_line c is_common_line)
    ∷ (is 5 && reserves_too_many c.ag)
    ∷ (is 6 && eqb v.tn 2 && not (any_line c (has_combination 4)))
    ∷ (is 6 && (eqb v.tn 4 || eqb v.tn 6) && not (any_line c (stands_in 6 (v.tn - 2))))
    ∷ []
  where
    is : ℕ → Bool
    is combination = eqb v.combination combination

-- where a line stands on the air
abbrev pub physical : Values → Physical
physical v = record { tn = v.tn; mask = v.mask; hsn = v.hsn; maio = v.maio }

abbrev pub line_physical : LineState → Physical
line_physical l = record { tn = l.tn; mask = l.mask; hsn = l.hsn; maio = l.maio }

-- open line m clashes with the values
abbrev pub in_the_way : Cell → Values → ℕ → Bool
in_the_way c v m = is_open (line_at c m) && clash (physical v) (line_physical (line_at c m))

-- "9 open: clash, with the smallest line number that stands in the way."
abbrev pub clash_cause : Cell → Values → Cause
clash_cause c v =
    record { refusal = record { number = 9; values = least (in_the_way c v) line_count line_count ∷ [] }; conditions = any_below (in_the_way c v) line_count ∷ [] }

-- "6 open of an open line"
abbrev pub open_causes : Cell → ℕ → Values → List Cause
open_causes c n v =
    cause 3 (open_range n v)
    ∷ mask_cause c.size v.mask
    ∷ maio_cause v.mask v.maio
    ∷ cause 6 (is_open (line_at c n) ∷ [])
    ∷ cause 8 (misplaced c v)
    ∷ clash_cause c v
    ∷ []

-- "open: the named line gets the six values, owners 0."
unfoldable pub open_of : Cell → ℕ → Values → Step
open_of c n v = step c (decide (open_causes c n v) (with_line c n (line_with v free)))

-- ---- close

-- "8 .. Close: a 4 or 6 while a 6 is open two timeslots higher."
abbrev pub needed : Cell → LineState → Bool
needed c l = (has_combination 4 l || has_combination 6 l) && any_line c (stands_in 6 (l.tn + 2))

-- some subchannel of the line is held
abbrev pub some_held : LineState → Bool
some_held l = any_below (λ s. not (eqb (owner_at l s) 0)) owner_room

-- "7 close, seize, release or line on a closed line."
abbrev pub closed_cause : Cell → ℕ → Cause
closed_cause c n = cause 7 (not (is_open (line_at c n)) ∷ [])

-- "3 line number (0 to 63) .. out of range", "13 close with some s held"
abbrev pub close_causes : Cell → ℕ → List Cause
close_causes c n =
    cause 3 (no_line n ∷ [])
    ∷ closed_cause c n
    ∷ cause 8 (needed c (line_at c n) ∷ [])
    ∷ cause 13 (some_held (line_at c n) ∷ [])
    ∷ []

unfoldable pub close_of : Cell → ℕ → Step
close_of c n = step c (decide (close_causes c n) (with_line c n closed_line))

-- ---- seize and release

-- "1 (TCH/F, s = 0)", "2 (TCH/H, s = 0, 1)", "5 (combined, s = 0 to 3)", "7 (SDCCH/8, s = 0 to 7)": how many subchannels a combination has
abbrev pub subchannels : ℕ → ℕ
subchannels combination =
    cond (eqb combination 1) 1 (cond (eqb combination 2) 2 (cond (eqb combination 5) 4 (cond (eqb combination 7) 8 0)))

-- "10 s doesn't exist in this combination."
abbrev pub no_subchannel : LineState → ℕ → Bool
no_subchannel l s = not (ltb s (subchannels l.combination))

-- the line with another owner of s
abbrev pub with_owner : LineState → ℕ → ℕ → LineState
with_owner l s o =
    record { mask = l.mask; tn = l.tn; hsn = l.hsn; maio = l.maio; combination = l.combination; tsc = l.tsc; owners = set l.owners s o }

-- what both are refused for, and then what the one or the other is: "3 line number (0 to 63), .. owner .. out of range"
abbrev pub subchannel_causes : Cell → ℕ → ℕ → ℕ → List Cause → List Cause
subchannel_causes c n s o more =
    cause 3 (no_line n ∷ no_owner o ∷ [])
    ∷ closed_cause c n
    ∷ cause 10 (no_subchannel (line_at c n) s ∷ [])
    ∷ more

-- "11 seize of a held s."
abbrev pub seize_causes : Cell → ℕ → ℕ → ℕ → List Cause
seize_causes c n s o = subchannel_causes c n s o (cause 11 (not (eqb (owner_at (line_at c n) s) 0) ∷ []) ∷ [])

-- "seize: a free s gets the owner."
unfoldable pub seize_of : Cell → ℕ → ℕ → ℕ → Step
seize_of c n s o = step c (decide (seize_causes c n s o) (with_line c n (with_owner (line_at c n) s o)))

-- "12 release of an s that this owner doesn't hold."
abbrev pub release_causes : Cell → ℕ → ℕ → ℕ → List Cause
release_causes c n s o = subchannel_causes c n s o (cause 12 (not (eqb (owner_at (line_at c n) s) o) ∷ []) ∷ [])

-- "release: s returns to 0."
unfoldable pub release_of : Cell → ℕ → ℕ → ℕ → Step
release_of c n s o = step c (decide (release_causes c n s o) (with_line c n (with_owner (line_at c n) s 0)))
