-- A run of calls with its exact answers, so that a reader sees calls accepted and refused. proofs/ExampleRun.antt computes it. Assumes nothing.
use Rattle.std.specs.Prelude.{ℕ, ◌≡◌, List, [], ◌∷◌}
use Rattle.std.proofs.Math.Option.{Option, none, some}
use Rattle.answers.specs.Outcome.{Refused, accepted, alone}
use Rattle.maps.specs.declared.Kind.TheVariants.{Tch, Sch}
use Rattle.maps.specs.Channels.{Standing, at}
use Rattle.rules.specs.State.{Cell, Values}
use Rattle.rules.specs.Calls.{start_of}
use Rattle.rules.specs.OnAir.{Slot, line_of}
use Rattle.rules.specs.History.{Call, opens, closes, seizes, releases, opened_with, held_by}
use Rattle.rules.specs.CollisionFree.{calling, Run, run, begin}

-- the refusal of each call of a list, none where it is accepted
unfoldable pub refusals : Cell → List Call → List (Option Refused)
refusals c [] = []
refusals c (x ∷ xs) = (calling c x).refusal ∷ refusals (calling c x).cell xs

abbrev pub values : ℕ → ℕ → ℕ → ℕ → ℕ → ℕ → Values
values tn mask hsn maio combination tsc = record { tn = tn; mask = mask; hsn = hsn; maio = maio; combination = combination; tsc = tsc }

-- what a line sends: the ARFCN, MAI and the position; what stands there, and its owner
abbrev pub sent : ℕ → ℕ → ℕ → List Standing → ℕ → Slot
sent arfcn mai ca_position standing owner = record { tuning = record { arfcn = arfcn; mai = mai; position = ca_position }; standing = standing; owner = owner }

-- CA 10, 20, 30, 40; C0 10, BCC 3, AG 1, P 5
abbrev pub example_cell : Cell
example_cell = (start_of (10 ∷ 20 ∷ 30 ∷ 40 ∷ []) 10 3 1 5).cell

abbrev pub example_calls : List Call
example_calls =
    opens 0 (values 0 1 0 0 4 3)
    ∷ opens 1 (values 0 1 0 0 4 3)
    ∷ opens 1 (values 2 1 0 0 6 2)
    ∷ opens 1 (values 4 1 0 0 6 3)
    ∷ opens 1 (values 2 1 0 0 6 3)
    ∷ opens 2 (values 1 14 1 0 1 5)
    ∷ opens 3 (values 1 14 1 1 2 5)
    ∷ opens 4 (values 1 14 1 1 1 0)
    ∷ opens 4 (values 1 6 1 1 1 0)
    ∷ seizes 2 0 77
    ∷ seizes 2 0 78
    ∷ seizes 3 1 79
    ∷ seizes 3 2 80
    ∷ releases 2 0 78
    ∷ closes 2
    ∷ closes 0
    ∷ releases 2 0 77
    ∷ closes 2
    ∷ seizes 2 0 77
    ∷ opens 64 (values 1 14 1 2 1 5)
    ∷ opens 5 (values 1 16 1 0 1 5)
    ∷ opens 5 (values 1 14 1 3 1 5)
    ∷ opens 3 (values 1 14 1 2 1 5)
    ∷ opens 2 (values 1 14 1 2 1 5)
    ∷ seizes 2 0 81
    ∷ []

-- the answers, in the same order. Refused are: a second 4; a 6 with another training code than BCC; one with no 6 two timeslots lower; line 3 in
-- the way; lines 2 and 3 in the way, of which 2 is the smaller; a held subchannel; one that half rate lacks; a release by somebody else; a held
-- line; a 4 while a 6 is open two timeslots higher; a closed line; no such line; a one past CA; MAIO not below N; an open line
abbrev pub example_refusals : List (Option Refused)
example_refusals =
    none ∷ some (alone 8) ∷ some (alone 8) ∷ some (alone 8) ∷ none ∷ none ∷ none
    ∷ some (record { number = 9; values = 3 ∷ [] })
    ∷ some (record { number = 9; values = 2 ∷ [] })
    ∷ none ∷ some (alone 11) ∷ none ∷ some (alone 10) ∷ some (alone 12) ∷ some (alone 13) ∷ some (alone 8)
    ∷ none ∷ none ∷ some (alone 7) ∷ some (alone 3) ∷ some (alone 4) ∷ some (alone 5) ∷ some (alone 6)
    ∷ none ∷ none ∷ []

abbrev pub example_end : Run
example_end = run (begin example_cell) example_calls

-- a 5 in a cell with this AG
abbrev pub combined_with : ℕ → Option Refused
combined_with ag = (calling (start_of (10 ∷ 20 ∷ 30 ∷ 40 ∷ []) 10 3 ag 5).cell (opens 0 (values 0 1 0 0 5 3))).refusal

pub record ExampleRun : Type 0 where
  pub answers : refusals example_cell example_calls ≡ example_refusals
  -- afterwards line 1 is open with the values of the fifth call and line 4, whose opens were refused, is closed; s 1 of line 3 is held by 79, and
  -- s 0 is free
  pub opened : (opened_with example_end.past 1 ≡ some (values 2 1 0 0 6 3)) × (opened_with example_end.past 4 ≡ none)
  pub held : (held_by example_end.past 3 1 ≡ 79) × (held_by example_end.past 3 0 ≡ 0)
  -- in frame 1, downlink, lines 2 and 3, both in timeslot 1, send on 40 and on 30, by the third and the second one of mask 14; line 0 sends SCH on C0
  pub slots : (line_of example_end.cell 2 1 0 ≡ accepted (sent 40 2 3 (at Tch 0 0 1 ∷ at Tch 0 5 5 ∷ []) 81))
      × (line_of example_end.cell 3 1 0 ≡ accepted (sent 30 1 2 (at Tch 1 0 0 ∷ at Tch 1 5 2 ∷ []) 79))
      × (line_of example_end.cell 0 1 0 ≡ accepted (sent 10 0 0 (at Sch 0 0 0 ∷ []) 0))
  -- "5 needs AG ≤ 2"
  pub combined_line : (combined_with 2 ≡ none) × (combined_with 3 ≡ some (alone 8))
