-- What else is claimed of the answers that C gets, from the promises of the tdma functions alone; `refusal` is 0 exactly where a call is accepted.
-- proofs/ClockOfC.antt, BurstsOfC.antt, WhoOfC.antt, RoutedOfC.antt and PageOfC.antt prove the claims. Assumes nothing.
use Rattle.std.specs.Prelude.{ℕ, ◌≡◌, List, length}
use Rattle.clock.specs.Clock.{split_of, join_of}
use Rattle.hops.specs.Hopping.{hop_of}
use Rattle.hops.specs.Placed.{Placed}
use Rattle.hops.specs.declared.Tuning.{Tuning}
use Rattle.layouts.specs.Bursts.{build_normal_of, take_normal_of, build_synchronization_of, take_synchronization_of, build_access_of, take_access_of}
use Rattle.layouts.specs.Claims.{Call}
use Rattle.storage.specs.Words.{cell_of}
use Rattle.rules.specs.State.{line_at, allocation}
use Rattle.rules.specs.OnAir.{line_of}
use Rattle.rules.specs.Who.{who_of}
use Rattle.rules.specs.Paging.{page_of}
use Rattle.rules.specs.Reached.{Reached, PagedOn}
use Rattle.c_answers.specs.declared.TdmaAnswer.{TdmaAnswer}
use Rattle.c_answers.specs.declared.TdmaSplit.{TdmaSplit}
use Rattle.c_answers.specs.declared.TdmaJoin.{TdmaJoin}
use Rattle.c_answers.specs.declared.TdmaHop.{TdmaHop}
use Rattle.c_answers.specs.declared.TdmaLine.{TdmaLine}
use Rattle.c_answers.specs.declared.TdmaWho.{TdmaWho}
use Rattle.c_answers.specs.declared.TdmaPage.{TdmaPage}
use Rattle.c_answers.specs.Numbers.{split_numbers, join_numbers, hop_numbers}
use Rattle.tdma.specs.Buffers.{Wrote}
use Rattle.tdma.specs.Cells.{line_numbers, who_numbers, page_numbers}

-- ---- "FN to T1, T2, T3 and back": tdma_split and tdma_join

pub record ClockOfC : Type 0 where
  -- whatever number is split: what its counters are joined to is that number
  pub join_undoes_split : (fn : ℕ) (s : TdmaSplit) (j : TdmaJoin) → s ≡ split_numbers (split_of fn) → j ≡ join_numbers (join_of s.t1 s.t2 s.t3)
      → s.refusal ≡ 0 → (j.refusal ≡ 0) × (j.frame ≡ fn)
  -- whatever counters are joined: what their number is split into are these counters
  pub split_undoes_join : (t1 t2 t3 : ℕ) (j : TdmaJoin) (s : TdmaSplit) → j ≡ join_numbers (join_of t1 t2 t3) → s ≡ split_numbers (split_of j.frame)
      → j.refusal ≡ 0 → (s.refusal ≡ 0) × (s.t1 ≡ t1) × (s.t2 ≡ t2) × (s.t3 ≡ t3)

-- ---- "burst to payload and back": tdma_build_.. and tdma_take_..

-- whatever was lent: r and s are the answers of two calls, one after the other, and the bytes are what those left
pub record UndoEachOtherOfC (building taking : Call) : Type 0 where
  pub take_undoes_build : (payload before burst lent after : List ℕ) (r s : TdmaAnswer) → Wrote r burst (building payload before) → Wrote s after (taking burst lent)
      → r.refusal ≡ 0 → length lent ≡ length payload → (s.refusal ≡ 0) × (after ≡ payload)
  pub build_undoes_take : (burst before payload lent after : List ℕ) (r s : TdmaAnswer) → Wrote r payload (taking burst before) → Wrote s after (building payload lent)
      → r.refusal ≡ 0 → length lent ≡ length burst → (s.refusal ≡ 0) × (after ≡ burst)

pub record BurstsOfC : Type 0 where
  pub normal : (tsc : ℕ) → UndoEachOtherOfC (build_normal_of tsc) (take_normal_of tsc)
  pub synchronization : UndoEachOtherOfC build_synchronization_of take_synchronization_of
  pub access : UndoEachOtherOfC build_access_of take_access_of

-- ---- tdma_who and tdma_line

-- what tdma_line and tdma_who promise to answer over these words
abbrev pub AnswersLine : List ℕ → ℕ → ℕ → ℕ → TdmaLine → Type 0
AnswersLine words n fn direction l = l ≡ line_numbers (line_of (cell_of words) n fn direction)

abbrev pub AnswersWho : List ℕ → ℕ → ℕ → ℕ → ℕ → TdmaWho → Type 0
AnswersWho words tn arfcn fn direction w = w ≡ who_numbers (who_of (cell_of words) tn arfcn fn direction)

-- tdma_line shows no line of that timeslot on that ARFCN
abbrev pub NoneOnAir : List ℕ → ℕ → ℕ → ℕ → ℕ → Type 0
NoneOnAir words tn arfcn fn direction = (n : ℕ) (l : TdmaLine) → AnswersLine words n fn direction l → l.refusal ≡ 0 → (line_at (cell_of words) n).tn ≡ tn
    → l.arfcn ≡ arfcn → ⊥

pub record WhoOfC (words : List ℕ) : Type 0 where
  -- the line that tdma_who names: tdma_line answers the same for it, on that ARFCN, and it is in that timeslot
  pub shown : (tn arfcn fn direction : ℕ) (w : TdmaWho) (l : TdmaLine) → AnswersWho words tn arfcn fn direction w → w.refusal ≡ 0 → w.found ≡ 1
      → AnswersLine words w.line fn direction l → (l.refusal ≡ 0) × (l ≡ w.answer) × (l.arfcn ≡ arfcn) × ((line_at (cell_of words) w.line).tn ≡ tn)
  -- what tdma_line shows of a line, tdma_who names in its timeslot and on its ARFCN
  pub named : (n fn direction : ℕ) (l : TdmaLine) (w : TdmaWho) → AnswersLine words n fn direction l → l.refusal ≡ 0
      → AnswersWho words (line_at (cell_of words) n).tn l.arfcn fn direction w → w ≡ record { refusal = 0; found = 1; line = n; answer = l }
  -- tdma_who says nobody exactly where tdma_line shows no line of that timeslot on that ARFCN
  pub nobody : (tn arfcn fn direction : ℕ) (w : TdmaWho) → AnswersWho words tn arfcn fn direction w → w.refusal ≡ 0 → w.found ≡ 0
      → NoneOnAir words tn arfcn fn direction
  pub only_nobody : (tn arfcn fn direction : ℕ) (w : TdmaWho) → AnswersWho words tn arfcn fn direction w → NoneOnAir words tn arfcn fn direction
      → w.found ≡ 0

-- of the words of every cell that the calls can hand back
unfoldable pub WhoAndLineOfC : Type 0
WhoAndLineOfC = (words : List ℕ) → Reached (cell_of words) → WhoOfC words

-- ---- which transceiver: document 02, No. 2

-- what tdma_hop, tdma_line and tdma_who carry of the hop
abbrev pub tuning_of_hop : TdmaHop → Tuning
tuning_of_hop a = record { arfcn = a.arfcn; mai = a.mai; position = a.position }

abbrev pub tuning_of_line : TdmaLine → Tuning
tuning_of_line l = record { arfcn = l.arfcn; mai = l.mai; position = l.position }

-- of whatever is asked of tdma_hop
unfoldable pub HopOfC : Type 0
HopOfC = (ca : List ℕ) (m hsn maio fn : ℕ) (a : TdmaHop) → a ≡ hop_numbers (hop_of ca m hsn maio fn) → a.refusal ≡ 0 → Placed ca m (tuning_of_hop a)

-- of the words of every cell that the calls can hand back
pub record RoutedOfC (words : List ℕ) : Type 0 where
  pub line : (n fn direction : ℕ) (l : TdmaLine) → AnswersLine words n fn direction l → l.refusal ≡ 0
      → Placed (allocation (cell_of words)) (line_at (cell_of words) n).mask (tuning_of_line l)
  pub who : (tn arfcn fn direction : ℕ) (w : TdmaWho) → AnswersWho words tn arfcn fn direction w → w.refusal ≡ 0 → w.found ≡ 1
      → Placed (allocation (cell_of words)) (line_at (cell_of words) w.line).mask (tuning_of_line w.answer)
  -- in one timeslot of a frame no two lines have one position
  pub one_line : (m n fn d e : ℕ) (k l : TdmaLine) → AnswersLine words m fn d k → k.refusal ≡ 0 → AnswersLine words n fn e l → l.refusal ≡ 0
      → (line_at (cell_of words) m).tn ≡ (line_at (cell_of words) n).tn → k.position ≡ l.position → m ≡ n

unfoldable pub BurstsAreRoutedOfC : Type 0
BurstsAreRoutedOfC = (words : List ℕ) → Reached (cell_of words) → RoutedOfC words

-- ---- tdma_page and tdma_line

pub record PageOfC (words digits : List ℕ) (fn : ℕ) (p : TdmaPage) : Type 0 where
  -- the phone is paged in that block of an open common line of that timeslot, and the frame is the first at or after FN in which the block begins
  pub paged_on : PagedOn (cell_of words) digits fn (record { tn = p.tn; block = p.block; frame = p.frame })
  -- and tdma_line shows the block there: CCCH (7), one burst, place 0
  pub shown : (l : TdmaLine) → AnswersLine words paged_on.line p.frame 0 l
      → (l.refusal ≡ 0) × (l.channel ≡ 7) × (l.blocks ≡ 1) × (l.block ≡ p.block) × (l.place ≡ 0)

unfoldable pub PageAndLineOfC : Type 0
PageAndLineOfC =
    (words : List ℕ) → Reached (cell_of words) → (digits : List ℕ) (fn : ℕ) (p : TdmaPage) → p ≡ page_numbers (page_of (cell_of words) digits fn)
    → p.refusal ≡ 0 → PageOfC words digits fn p
