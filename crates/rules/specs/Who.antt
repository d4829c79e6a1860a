-- Who is on the air: document 01, "who(TN, ARFCN, FN, direction)". Assumes nothing.
use Rattle.std.specs.Prelude.{ℕ, Bool, ◌&&◌, cond, List, [], ◌∷◌, eqb}
use Rattle.std.proofs.Math.Option.{Option, none, some}
use Rattle.answers.specs.Outcome.{Outcome, Cause, cause, decide}
use Rattle.answers.specs.Ranges.{line_count, no_tn, no_arfcn, no_fn, no_direction}
use Rattle.answers.specs.Search.{any_below, least}
use Rattle.rules.specs.State.{Cell, LineState, is_open, line_at}
use Rattle.rules.specs.OnAir.{Slot, tuning_in, slot_of}

-- line l is an "open line of that TN" and "has that ARFCN in that frame"
abbrev pub is_on : Cell → ℕ → ℕ → ℕ → LineState → Bool
is_on c tn arfcn fn l = is_open l && (eqb l.tn tn && eqb (tuning_in c l fn).arfcn arfcn)

-- so is line m
abbrev pub line_is_on : Cell → ℕ → ℕ → ℕ → ℕ → Bool
line_is_on c tn arfcn fn m = is_on c tn arfcn fn (line_at c m)

-- "the line and its answer": its number, and what `line` gives for it
pub record Match : Type 0 where
  pub line : ℕ
  pub slot : Slot

abbrev pub match_at : Cell → ℕ → ℕ → ℕ → Match
match_at c n fn direction = record { line = n; slot = slot_of c (line_at c n) fn direction }

-- "3 .. TN, .. FN, direction (0 D, 1 U) or ARFCN out of range"
abbrev pub who_causes : ℕ → ℕ → ℕ → ℕ → List Cause
who_causes tn arfcn fn direction = cause 3 (no_tn tn ∷ no_arfcn arfcn ∷ no_fn fn ∷ no_direction direction ∷ []) ∷ []

-- "nobody exactly if no open line of that TN has that ARFCN in that frame". The calls hand back no cell in which two lines have it (Reached.antt);
-- were there one, this would be the line with the smaller number
unfoldable pub match_of : Cell → ℕ → ℕ → ℕ → ℕ → Option Match
match_of c tn arfcn fn direction =
    cond (any_below (line_is_on c tn arfcn fn) line_count) (some (match_at c (least (line_is_on c tn arfcn fn) line_count line_count) fn direction)) none

unfoldable pub who_of : Cell → ℕ → ℕ → ℕ → ℕ → Outcome (Option Match)
who_of c tn arfcn fn direction = decide (who_causes tn arfcn fn direction) (match_of c tn arfcn fn direction)
