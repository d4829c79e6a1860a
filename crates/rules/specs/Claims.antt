-- What is claimed of the rules beside the third demand (CollisionFree.antt), who and page (Reached.antt), what a cell is (WellFormed.antt) and the
-- computed answers (Borders.antt, ExampleRun.antt, DrillSheet.antt). The statements; proofs/Claims.antt proves them. Assumes nothing.
use Rattle.std.specs.Prelude.{ℕ, ◌*◌, ◌<◌, ◌≤◌, ◌≡◌, ◌≢◌, ◌⊎◌, Bool, true, false, not, List, [], ◌∷◌, eqb}
use mathlib.Core.List.{Memᴰ}
use Rattle.std.proofs.Math.Option.{none, some}
use Rattle.answers.specs.Outcome.{Refused, accepted, Cause, any_of}
use Rattle.answers.specs.Claims.{Caused, NoCause, FairAnswer}
use Rattle.maps.specs.Channels.{is_common}
use Rattle.maps.specs.Combinations.{rows_of}
use Rattle.maps.specs.Rows.{Row}
use Rattle.groups.specs.Paging.{last_three, n, block_for, paging_causes}
use Rattle.rules.specs.State.{Cell, LineState, Values, line_with, free, closed_line, line_at, empty}
use Rattle.rules.specs.Calls.{Step, start_causes, refused_cell, start_of, with_line, open_causes, open_of, close_causes, close_of, subchannels, with_owner, seize_causes, seize_of, release_causes, release_of, is_common_line}
use Rattle.rules.specs.OnAir.{slot_of, line_causes, line_of}
use Rattle.rules.specs.Who.{Match, who_causes, match_of, who_of}
use Rattle.rules.specs.Paging.{common_lines, common_of, page_of}
use Rattle.rules.specs.History.{Call, opens, closes, seizes, releases, Made, opened_with, held_by, is_seized}
use Rattle.rules.specs.Carried.{Channel, subchannel, common_part, is_held}
use Rattle.rules.specs.CollisionFree.{run, begin}
use Rattle.rules.specs.Reached.{Reached}
use Rattle.rules.specs.WellFormed.{Closed, OneAt}

-- ---- "The lowest number that applies is given, and only if its condition holds."

-- a call on the cell `before`, with these causes, that leaves `after` where none of them applies, handed back s. Refused, it had its cause, no
-- lower number applied, and the cell is as it came; accepted, it had no cause
pub record Fair (cs : List Cause) (before after : Cell) (s : Step) : Type 0 where
  pub caused : (r : Refused) → s.refusal ≡ some r → Caused cs r
  pub lowest : (r : Refused) → s.refusal ≡ some r → (c : Cause) → Memᴰ c cs → any_of c.conditions ≡ true → r.number ≤ c.refusal.number
  pub as_it_came : (r : Refused) → s.refusal ≡ some r → s.cell ≡ before
  pub no_cause : s.refusal ≡ none → NoCause cs
  pub as_described : s.refusal ≡ none → s.cell ≡ after

-- `line`, `who` and `page` hand back no cell
pub record FairCalls : Type 0 where
  pub of_start : (ca : List ℕ) (c0 bcc ag p : ℕ) → Fair (start_causes ca c0 bcc ag p) refused_cell (empty ca c0 bcc ag p) (start_of ca c0 bcc ag p)
  pub of_open : (c : Cell) (n : ℕ) (v : Values) → Fair (open_causes c n v) c (with_line c n (line_with v free)) (open_of c n v)
  pub of_close : (c : Cell) (n : ℕ) → Fair (close_causes c n) c (with_line c n closed_line) (close_of c n)
  pub of_seize : (c : Cell) (n s o : ℕ) → Fair (seize_causes c n s o) c (with_line c n (with_owner (line_at c n) s o)) (seize_of c n s o)
  pub of_release : (c : Cell) (n s o : ℕ) → Fair (release_causes c n s o) c (with_line c n (with_owner (line_at c n) s 0)) (release_of c n s o)
  pub of_line : (c : Cell) (n fn direction : ℕ) → FairAnswer (slot_of c (line_at c n) fn direction) (line_causes c n fn direction) (line_of c n fn direction)
  pub of_who : (c : Cell) (tn arfcn fn direction : ℕ) → FairAnswer (match_of c tn arfcn fn direction) (who_causes tn arfcn fn direction) (who_of c tn arfcn fn direction)
  pub of_page : (c : Cell) (digits : List ℕ) (fn : ℕ)
      → FairAnswer (block_for (common_of c) (last_three digits) fn) (paging_causes (common_of c) digits fn) (page_of c digits fn)

-- ---- "start: all lines closed."

-- whatever is asked, and refused too
unfoldable pub StartsClosed : Type 0
StartsClosed = (ca : List ℕ) (c0 bcc ag p n : ℕ) → n < 64 → Closed (line_at (start_of ca c0 bcc ag p).cell n)

-- ---- "9 open: clash, with the smallest line number that stands in the way."

-- "Two lines clash if TN is equal, the masks share a one, and it isn't so that masks and HSN are equal and MAIO differ": the line is open, and does
pub record StandsInTheWay (v : Values) (l : LineState) : Type 0 where
  pub is_open : l.combination ≢ 0
  pub in_timeslot : l.tn ≡ v.tn
  pub ca_position : ℕ
  pub below : ca_position < 64
  pub one : OneAt l.mask ca_position
  pub shared : OneAt v.mask ca_position
  pub not_apart : l.mask ≡ v.mask → l.hsn ≡ v.hsn → l.maio ≢ v.maio → ⊥

-- the refusal names one line, which stands in the way, and none with a smaller number does
pub record NamesSmallest (c : Cell) (v : Values) (r : Refused) : Type 0 where
  pub line : ℕ
  pub is_named : r.values ≡ line ∷ []
  pub below : line < 64
  pub in_the_way : StandsInTheWay v (line_at c line)
  pub smallest : (k : ℕ) → k < line → StandsInTheWay v (line_at c k) → ⊥

unfoldable pub ClashNamesSmallest : Type 0
ClashNamesSmallest = (c : Cell) (n : ℕ) (v : Values) (r : Refused) → (open_of c n v).refusal ≡ some r → r.number ≡ 9 → NamesSmallest c v r

-- ---- "10 s doesn't exist in this combination."

-- a row of the combination's map is of subchannel s
pub record HasRow (combination tn direction s : ℕ) : Type 0 where
  pub row : Row
  pub of_map : Memᴰ row (rows_of combination tn direction)
  pub not_common : is_common row.kind ≡ false
  pub of_subchannel : row.subchannel ≡ s

-- the subchannels that exist are those of the map's rows, in every timeslot and direction
pub record SubchannelsOfMap : Type 0 where
  pub exists : (combination tn direction s : ℕ) → tn < 8 → direction < 2 → HasRow combination tn direction s → s < subchannels combination
  pub has_row : (combination tn direction s : ℕ) → tn < 8 → direction < 2 → s < subchannels combination → HasRow combination tn direction s

-- ---- what the list says, with one more call

abbrev pub and_accepted : List Made → Call → List Made
and_accepted past x = record { call = x; accepted = true } ∷ past

abbrev pub and_refused : List Made → Call → List Made
and_refused past x = record { call = x; accepted = false } ∷ past

-- line k is open with the same values, and closed where it was closed
abbrev pub OpenAsBefore : List Made → List Made → ℕ → Type 0
OpenAsBefore past after k = opened_with after k ≡ opened_with past k

-- subchannel t of line k is held by the same owner, and free where it was free
abbrev pub HeldAsBefore : List Made → List Made → ℕ → ℕ → Type 0
HeldAsBefore past after k t = (is_seized after k t ≡ is_seized past k t) × (held_by after k t ≡ held_by past k t)

-- it is free
abbrev pub Free : List Made → ℕ → ℕ → Type 0
Free past k t = (is_seized past k t ≡ false) × (held_by past k t ≡ 0)

-- another line; another subchannel, or one of another line
abbrev pub Beside : ℕ → ℕ → ℕ → ℕ → Type 0
Beside n s k t = (k ≢ n) ⊎ (t ≢ s)

pub record ReadsTheList : Type 0 where
  -- "Every other line is closed, and every other s has owner 0."
  pub nothing : (k t : ℕ) → (opened_with [] k ≡ none) × Free [] k t
  -- "whether each was accepted"
  pub refused : (past : List Made) (x : Call) (k t : ℕ) → OpenAsBefore past (and_refused past x) k × HeldAsBefore past (and_refused past x) k t
  -- "A line is open if the last accepted open or close that names it is an open; its six values are the ones named there." "since that open"
  pub opened : (past : List Made) (n : ℕ) (v : Values) (t : ℕ) → (opened_with (and_accepted past (opens n v)) n ≡ some v) × Free (and_accepted past (opens n v)) n t
  pub closed : (past : List Made) (n t : ℕ) → (opened_with (and_accepted past (closes n)) n ≡ none) × Free (and_accepted past (closes n)) n t
  pub beside_opened : (past : List Made) (n : ℕ) (v : Values) (k t : ℕ) → k ≢ n
      → OpenAsBefore past (and_accepted past (opens n v)) k × HeldAsBefore past (and_accepted past (opens n v)) k t
  pub beside_closed : (past : List Made) (n k t : ℕ) → k ≢ n
      → OpenAsBefore past (and_accepted past (closes n)) k × HeldAsBefore past (and_accepted past (closes n)) k t
  -- "Subchannel s of an open line is held if the last accepted seize or release of it since that open is a seize; its owner is the one named there."
  pub seized : (past : List Made) (n s o : ℕ) → (is_seized (and_accepted past (seizes n s o)) n s ≡ true) × (held_by (and_accepted past (seizes n s o)) n s ≡ o)
  pub released : (past : List Made) (n s o : ℕ) → Free (and_accepted past (releases n s o)) n s
  pub beside_seized : (past : List Made) (n s o k t : ℕ) → Beside n s k t → HeldAsBefore past (and_accepted past (seizes n s o)) k t
  pub beside_released : (past : List Made) (n s o k t : ℕ) → Beside n s k t → HeldAsBefore past (and_accepted past (releases n s o)) k t
  pub still_open : (past : List Made) (n s o k : ℕ) → OpenAsBefore past (and_accepted past (seizes n s o)) k × OpenAsBefore past (and_accepted past (releases n s o)) k

-- "for each s an owner 1–65,535, or 0 for free": held is to have an owner, after the calls of any list from the cell that any start hands back
abbrev pub has_owner : List Made → Channel → Bool
has_owner past (subchannel n s) = not (eqb (held_by past n s) 0)
has_owner past (common_part n) = true

unfoldable pub HeldHasOwner : Type 0
HeldHasOwner =
    (ca : List ℕ) (c0 bcc ag p : ℕ) (calls : List Call) (x : Channel)
    → let past = (run (begin (start_of ca c0 bcc ag p).cell) calls).past in is_held past x ≡ has_owner past x

-- ---- who, of any cell

pub record WhoNames : Type 0 where
  -- what `who` names, `line` shows, in that timeslot and on that ARFCN
  pub shown : (c : Cell) (tn arfcn fn direction : ℕ) (f : Match) → who_of c tn arfcn fn direction ≡ accepted (some f)
      → (line_of c f.line fn direction ≡ accepted f.slot) × ((line_at c f.line).tn ≡ tn) × (f.slot.tuning.arfcn ≡ arfcn)

-- ---- the lines that paging counts

-- an open common line in a timeslot
pub record CommonIn (c : Cell) (tn : ℕ) : Type 0 where
  pub line : ℕ
  pub below : line < 64
  pub is_common : is_common_line (line_at c line) ≡ true
  pub in_timeslot : (line_at c line).tn ≡ tn

-- "K = open lines of 4, 5, 6": the first K of the timeslots 0, 2, 4 and 6 have one. "n = A × P" is not 0, so that a phone has a block
pub record CountedInOrder (c : Cell) : Type 0 where
  pub at_most_four : common_lines c ≤ 4
  pub in_order : (j : ℕ) → j < common_lines c → CommonIn c (2 * j)
  pub has_groups : 1 ≤ n (common_of c)

unfoldable pub CommonLinesInOrder : Type 0
CommonLinesInOrder = (c : Cell) → Reached c → CountedInOrder c
