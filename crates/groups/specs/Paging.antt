-- Document 01, "Paging (6.5.2, 6.5.3)", on plain numbers. Assumes nothing.
use Rattle.std.specs.Prelude.{ℕ, ◌+◌, ◌-◌, ◌*◌, ◌/◌, ◌%◌, Bool, false, not, cond, ◌&&◌, ◌||◌, List, [], ◌∷◌, ltb, leb, eqb, length, get_or}
use Rattle.answers.specs.Outcome.{Outcome, Cause, cause, decide}
use Rattle.answers.specs.Ranges.{hyperframe, no_fn, no_ag, no_p}
use Rattle.answers.specs.Search.{all_below, least}
use Rattle.maps.specs.declared.Kind.TheVariants.{Ccch}
use Rattle.maps.specs.Channels.{Standing, kind_number}
use Rattle.maps.specs.Rows.{standing}
use Rattle.maps.specs.Combinations.{rows_of}
use Rattle.groups.specs.declared.PagingBlock.{PagingBlock}

-- ---- the phone's group

-- "I is the IMSI's last three digits as a number."
abbrev pub last_three : List ℕ → ℕ
last_three digits = 100 * from_end 3 + 10 * from_end 2 + from_end 1
  where
    from_end : ℕ → ℕ
    from_end k = get_or digits (length digits - k) 0

-- what paging takes from a cell: "K = open lines of 4, 5, 6", whether one of them is a 5, AG and P
pub record Common : Type 0 where
  pub K : ℕ
  pub combined : Bool
  pub AG : ℕ
  pub P : ℕ

-- "A = 9 − AG (3 − AG with a 5)"
abbrev pub A : Common → ℕ
A c = cond c.combined 3 9 - c.AG

-- "n = A × P"
abbrev pub n : Common → ℕ
n c = A c * c.P

-- "r = I mod (K × n)"
abbrev pub r : Common → ℕ → ℕ
r c i = i % (c.K * n c)

-- "The TN is 2 × (r div n)."
abbrev pub timeslot : Common → ℕ → ℕ
timeslot c i = 2 * (r c i / n c)

-- "G = r mod n"
abbrev pub G : Common → ℕ → ℕ
G c i = r c i % n c

-- "multiframes where (FN div 51) mod P = G div A"
abbrev pub is_multiframe : Common → ℕ → ℕ → Bool
is_multiframe c i fn = eqb (fn / 51 % c.P) (G c i / A c)

-- "CCCH block AG + G mod A"
abbrev pub block : Common → ℕ → ℕ
block c i = c.AG + G c i % A c

-- ---- its first frame

-- the burst at place 0 of that CCCH block
abbrev pub is_first : ℕ → Standing → Bool
is_first b x = eqb (kind_number x.kind) (kind_number Ccch) && (eqb x.block b && eqb x.place 0)

unfoldable pub any_burst : (Standing → Bool) → List Standing → Bool
any_burst test [] = false
any_burst test (x ∷ xs) = test x || any_burst test xs

-- "where that block has place 0": by the downlink rows of the combination
unfoldable pub begins : ℕ → ℕ → ℕ → ℕ → Bool
begins combination tn b fn = any_burst (is_first b) (standing (rows_of combination tn 0) fn)

-- the common line in a timeslot is a 5, or the 4 in timeslot 0 and a 6 in the others
abbrev pub common_in : Bool → ℕ → ℕ
common_in combined tn = cond combined 5 (cond (eqb tn 0) 4 6)

-- the phone's block begins in frame fn
unfoldable pub is_paged : Common → ℕ → ℕ → Bool
is_paged c i fn = is_multiframe c i fn && begins (common_in c.combined (timeslot c i)) (timeslot c i) (block c i) fn

-- d frames after FN, "past the turn to 0 if need be"
abbrev pub later : ℕ → ℕ → ℕ
later fn d = (fn + d) % hyperframe

-- how many frames after FN the phone's block begins for the first time: 0 in FN itself
unfoldable pub wait : Common → ℕ → ℕ → ℕ
wait c i fn = least (λ d. is_paged c i (later fn d)) hyperframe 0

-- ---- the answer

-- "the answer is TN, block and the first frame at or after FN"
unfoldable pub block_for : Common → ℕ → ℕ → PagingBlock
block_for c i fn = record { tn = timeslot c i; block = block c i; frame = later fn (wait c i fn) }

-- "3 .. an IMSI that isn't 3 to 15 digits, each 0 to 9"
abbrev pub is_imsi : List ℕ → Bool
is_imsi digits = leb 3 (length digits) && (leb (length digits) 15 && all_below (λ k. leb (get_or digits k 0) 9) (length digits))

-- "5 needs AG ≤ 2"
abbrev pub reserves_too_many : ℕ → Bool
reserves_too_many ag = ltb 2 ag

-- "8 common channel misplaced": at most four common lines, one in each of the timeslots of "4 and 5 need TN 0, 6 needs TN 2, 4 or 6"; "4 and 5 need no
-- other open 4, 5 or 6"; "5 needs AG ≤ 2"
abbrev pub misplaced_lines : Common → List Bool
misplaced_lines c = ltb 4 c.K ∷ (c.combined && ltb 1 c.K) ∷ (c.combined && reserves_too_many c.AG) ∷ []

-- "3 .. FN .. out of range, or an IMSI that isn't 3 to 15 digits, each 0 to 9."
abbrev pub imsi_cause : List ℕ → ℕ → Cause
imsi_cause digits fn = cause 3 (no_fn fn ∷ not (is_imsi digits) ∷ [])

-- "16 paging with no common line open."
abbrev pub no_line_cause : Common → Cause
no_line_cause c = cause 16 (eqb c.K 0 ∷ [])

-- "2 .. AG or P out of range": this and 8 refuse no page of a cell that the calls hand back, since start and open have refused what they name
abbrev pub paging_causes : Common → List ℕ → ℕ → List Cause
paging_causes c digits fn = cause 2 (no_ag c.AG ∷ no_p c.P ∷ []) ∷ imsi_cause digits fn ∷ cause 8 (misplaced_lines c) ∷ no_line_cause c ∷ []

unfoldable pub paging_of : Common → List ℕ → ℕ → Outcome PagingBlock
paging_of c digits fn = decide (paging_causes c digits fn) (block_for c (last_three digits) fn)
