-- Each range and each rule of a refusal on both sides of its border, with the exact answers in plain numbers, call by call.
-- proofs/Borders.antt computes them. Assumes nothing.
use Rattle.std.specs.Prelude.{ℕ, ◌≡◌, Bool, true, false, List, [], ◌∷◌, ◌++◌, map, replicate}
use Rattle.std.proofs.Math.Option.{Option, none, some}
use Rattle.answers.specs.Outcome.{Refused, Outcome, refused, accepted, alone}
use Rattle.maps.specs.declared.Kind.TheVariants.{Ccch, Sacch, Sdcch, Rach}
use Rattle.maps.specs.Channels.{at}
use Rattle.maps.specs.Rows.{from}
use Rattle.groups.specs.declared.PagingBlock.{PagingBlock}
use Rattle.groups.specs.Paging.{Common}
use Rattle.rules.specs.State.{Cell, LineState, line_at}
use Rattle.rules.specs.Calls.{refused_cell, start_of, c0_alone}
use Rattle.rules.specs.OnAir.{Slot, tuning_in, line_of}
use Rattle.rules.specs.Paging.{common_of, page_of}
use Rattle.rules.specs.Who.{who_of}
use Rattle.rules.specs.History.{Call, opens, closes, seizes, releases}
use Rattle.rules.specs.CollisionFree.{run, begin}
use Rattle.rules.specs.ExampleRun.{refusals, values, sent}

-- ---- the words of the tables

-- a refusal that comes alone, and 9 with the line that it names
abbrev pub refuses : ℕ → Option Refused
refuses number = some (alone number)

abbrev pub clashes : ℕ → Option Refused
clashes line = some (record { number = 9; values = line ∷ [] })

-- the refusal of a start with this CA, C0, BCC, AG and P
abbrev pub starts : List ℕ → ℕ → ℕ → ℕ → ℕ → Option Refused
starts ca c0 bcc ag p = (start_of ca c0 bcc ag p).refusal

-- CA 10, 20, 30 and C0 20 (mask 2), BCC 7, AG 2, P 9
abbrev pub few : Cell
few = (start_of (10 ∷ 20 ∷ 30 ∷ []) 20 7 2 9).cell

-- the same with AG 3
abbrev pub reserved : Cell
reserved = (start_of (10 ∷ 20 ∷ 30 ∷ []) 20 7 3 9).cell

-- the longest CA
abbrev pub many : Cell
many = (start_of (from 1 64) 1 0 0 2).cell

-- the cell after some calls on the first
abbrev pub after : List Call → Cell
after calls = (run (begin few) calls).cell

-- a line with 0 everywhere
abbrev pub zero_line : List ℕ → LineState
zero_line owners = record { mask = 0; tn = 0; hsn = 0; maio = 0; combination = 0; tsc = 0; owners = owners }

-- a cell all of whose lines are closed: CA is followed by this many zeros
abbrev pub closed_cell : List ℕ → ℕ → ℕ → ℕ → ℕ → ℕ → ℕ → Cell
closed_cell ca zeros size c0 bcc ag p =
    record { ca = ca ++ replicate zeros 0; size = size; c0 = c0; bcc = bcc; ag = ag; p = p; lines = replicate 64 (zero_line (replicate 8 0)) }

-- ---- start

pub record StartBorders : Type 0 where
  -- "CA is 1 to 64 ARFCNs"
  pub sizes : starts [] 0 0 0 2 ∷ starts (10 ∷ []) 10 0 0 2 ∷ starts (from 1 64) 64 0 0 2 ∷ starts (from 1 65) 1 0 0 2 ∷ []
      ≡ refuses 1 ∷ none ∷ none ∷ refuses 1 ∷ []
  -- "An ARFCN is a channel number, 0 to 1023"
  pub arfcns : starts (0 ∷ []) 0 0 0 2 ∷ starts (1023 ∷ []) 1023 0 0 2 ∷ starts (1024 ∷ []) 1024 0 0 2 ∷ []
      ≡ none ∷ none ∷ refuses 1 ∷ []
  -- "strictly ascending"
  pub ascending :
      starts (20 ∷ 21 ∷ []) 20 0 0 2 ∷ starts (20 ∷ 20 ∷ []) 20 0 0 2 ∷ starts (20 ∷ 19 ∷ []) 20 0 0 2 ∷ starts (10 ∷ 20 ∷ 20 ∷ []) 10 0 0 2 ∷ []
      ≡ none ∷ refuses 1 ∷ refuses 1 ∷ refuses 1 ∷ []
  -- "C0 (an ARFCN of CA)": the zeros that follow CA in the cell are none of it
  pub c0 : starts (10 ∷ 20 ∷ []) 10 0 0 2 ∷ starts (10 ∷ 20 ∷ []) 20 0 0 2 ∷ starts (10 ∷ 20 ∷ []) 15 0 0 2 ∷ starts (10 ∷ 20 ∷ []) 0 0 0 2 ∷ []
      ≡ none ∷ none ∷ refuses 2 ∷ refuses 2 ∷ []
  -- "BCC 0–7, BS_AG_BLKS_RES (AG) 0–7, BS_PA_MFRMS (P) 2–9"
  pub parameters :
      starts (10 ∷ []) 10 0 0 2 ∷ starts (10 ∷ []) 10 7 7 9 ∷ starts (10 ∷ []) 10 8 7 9
      ∷ starts (10 ∷ []) 10 7 8 9 ∷ starts (10 ∷ []) 10 7 7 10 ∷ starts (10 ∷ []) 10 7 7 1 ∷ []
      ≡ none ∷ none ∷ refuses 2 ∷ refuses 2 ∷ refuses 2 ∷ refuses 2 ∷ []
  -- the lowest number is given
  pub lowest : starts [] 20 8 8 10 ≡ refuses 1
  -- "start: all lines closed"
  pub cell : few ≡ closed_cell (10 ∷ 20 ∷ 30 ∷ []) 61 3 20 7 2 9
  -- "refused, it hands back the cell with ARFCN 0 as CA and C0, BCC and AG 0, P 2, all lines closed", whatever was asked
  pub refused_by_1 : (start_of [] 20 7 7 9).cell ≡ closed_cell (0 ∷ []) 63 1 0 0 0 2
  pub refused_by_2 : (start_of (10 ∷ 20 ∷ []) 15 7 7 9).cell ≡ closed_cell (0 ∷ []) 63 1 0 0 0 2
  -- "and 64 lines": past the last there is none
  pub lines : (line_at few 63 ≡ zero_line (replicate 8 0)) × (line_at few 64 ≡ zero_line [])

-- ---- open

-- one line in timeslot 0, on mask 1
abbrev pub opened : ℕ → Call
opened n = opens n (values 0 1 0 0 1 0)

-- an open of line n by what its channel needs: the combination, the timeslot, the mask and the training code
abbrev pub places : ℕ → ℕ → ℕ → ℕ → ℕ → Call
places n combination tn mask tsc = opens n (values tn mask 0 0 combination tsc)

pub record OpenBorders : Type 0 where
  -- "3 line number (0 to 63), TN, HSN, combination, TSC .. out of range": "TN, the timeslot, is 0 to 7", "HSN is 0 to 63", "TSC (training code) 0–7"
  pub ranges :
      refusals few (opens 64 (values 7 1 63 0 7 7) ∷ opens 63 (values 8 1 63 0 7 7) ∷ opens 63 (values 7 1 64 0 7 7) ∷ opens 63 (values 7 1 63 0 7 8)
      ∷ opens 63 (values 7 1 63 0 7 7) ∷ opens 0 (values 0 1 0 0 1 0) ∷ [])
      ≡ refuses 3 ∷ refuses 3 ∷ refuses 3 ∷ refuses 3 ∷ none ∷ none ∷ []
  -- the six combinations; 4, 5 and 6 are asked below
  pub combinations :
      refusals few (opens 1 (values 1 1 0 0 0 0) ∷ opens 1 (values 1 1 0 0 3 0) ∷ opens 1 (values 1 1 0 0 8 0)
      ∷ opens 1 (values 1 1 0 0 1 0) ∷ opens 2 (values 2 1 0 0 2 0) ∷ opens 7 (values 7 1 0 0 7 0) ∷ [])
      ≡ refuses 3 ∷ refuses 3 ∷ refuses 3 ∷ none ∷ none ∷ none ∷ []
  -- "4 mask zero, or a one at or above CA's length.": CA has three entries, so positions 0 to 2. Mask 0 gives 4 and not 5; 2^64 + 1 has a one past the 64
  pub masks :
      refusals few (opens 1 (values 1 0 0 0 1 0) ∷ opens 1 (values 1 8 0 0 1 0) ∷ opens 1 (values 1 9 0 0 1 0) ∷ opens 1 (values 1 18446744073709551617 0 0 1 0)
      ∷ opens 1 (values 1 4 0 0 1 0) ∷ [])
      ≡ refuses 4 ∷ refuses 4 ∷ refuses 4 ∷ refuses 4 ∷ none ∷ []
  -- "5 MAIO not below N."
  pub maios :
      refusals few (opens 1 (values 1 7 0 3 1 0) ∷ opens 1 (values 1 7 0 2 1 0) ∷ opens 2 (values 2 4 0 1 1 0) ∷ opens 2 (values 2 4 0 0 1 0) ∷ [])
      ≡ refuses 5 ∷ none ∷ refuses 5 ∷ none ∷ []
  -- all 64 positions, and the last alone
  pub longest :
      refusals many (opens 1 (values 1 18446744073709551615 0 64 1 0) ∷ opens 1 (values 1 18446744073709551615 0 63 1 0)
      ∷ opens 2 (values 2 9223372036854775808 0 0 1 0) ∷ [])
      ≡ refuses 5 ∷ none ∷ none ∷ []
  -- "6 open of an open line"
  pub twice : refusals few (opened 1 ∷ opened 1 ∷ []) ≡ none ∷ refuses 6 ∷ []
  -- "9 open: clash, with the smallest line number that stands in the way. Two lines clash if TN is equal, the masks share a one, and it isn't so
  -- that masks and HSN are equal and MAIO differ."
  pub clash :
      refusals few (opens 5 (values 3 6 1 0 1 0) ∷ opens 6 (values 3 6 1 1 1 0)
      ∷ opens 7 (values 3 6 1 1 1 0) ∷ opens 7 (values 3 6 2 0 1 0) ∷ opens 7 (values 3 3 1 1 1 0)
      ∷ opens 7 (values 3 1 1 0 1 0) ∷ opens 8 (values 4 6 1 0 1 0) ∷ [])
      ≡ none ∷ none ∷ clashes 6 ∷ clashes 5 ∷ clashes 5 ∷ none ∷ none ∷ []
  -- the first line and the last
  pub ends :
      refusals few (opened 63 ∷ opened 62 ∷ opens 0 (values 1 1 0 0 1 0) ∷ opens 1 (values 1 1 0 0 1 0) ∷ [])
      ≡ none ∷ clashes 63 ∷ none ∷ clashes 0 ∷ []

-- "8 common channel misplaced"
pub record PlaceBorders : Type 0 where
  -- "4 and 5 need TN 0 ..; these three need a mask with C0 alone and TSC = BCC; 4 and 5 need no other open 4, 5 or 6"
  pub four :
      refusals few (places 0 4 1 2 7 ∷ places 0 4 0 1 7 ∷ places 0 4 0 3 7 ∷ places 0 4 0 2 6 ∷ places 0 4 0 2 7 ∷ places 1 4 0 2 7 ∷ places 1 5 0 2 7 ∷ [])
      ≡ refuses 8 ∷ refuses 8 ∷ refuses 8 ∷ refuses 8 ∷ none ∷ refuses 8 ∷ refuses 8 ∷ []
  pub five :
      refusals few (places 0 5 1 2 7 ∷ places 0 5 0 1 7 ∷ places 0 5 0 3 7 ∷ places 0 5 0 2 6 ∷ places 0 5 0 2 7 ∷ places 1 4 0 2 7 ∷ places 1 5 0 2 7 ∷ [])
      ≡ refuses 8 ∷ refuses 8 ∷ refuses 8 ∷ refuses 8 ∷ none ∷ refuses 8 ∷ refuses 8 ∷ []
  -- "a mask with C0 alone", of the cell of ARFCN 0: its entry, and not the 0 that follows CA
  pub c0_alone : map (c0_alone refused_cell) (0 ∷ 1 ∷ 2 ∷ 3 ∷ []) ≡ false ∷ true ∷ false ∷ false ∷ []
  -- "5 needs AG ≤ 2": the cell above has 2
  pub five_reserved : refusals reserved (places 0 5 0 2 7 ∷ []) ≡ refuses 8 ∷ []
  -- "6 needs TN 2, 4 or 6"
  pub six :
      refusals few (places 0 4 0 2 7 ∷ places 1 6 0 2 7 ∷ places 1 6 1 2 7 ∷ places 1 6 3 2 7 ∷ places 1 6 5 2 7 ∷ places 1 6 7 2 7
      ∷ places 1 6 2 1 7 ∷ places 1 6 2 3 7 ∷ places 1 6 2 2 6 ∷ places 1 6 2 2 7 ∷ [])
      ≡ none ∷ refuses 8 ∷ refuses 8 ∷ refuses 8 ∷ refuses 8 ∷ refuses 8 ∷ refuses 8 ∷ refuses 8 ∷ refuses 8 ∷ none ∷ []
  -- "6 on TN 2 needs an open 4": with nothing open, with a 1 in timeslot 0, and with a 5
  pub six_alone : refusals few (places 1 6 2 2 7 ∷ places 0 1 0 2 7 ∷ places 1 6 2 2 7 ∷ []) ≡ refuses 8 ∷ none ∷ refuses 8 ∷ []
  pub six_with_five : refusals few (places 0 5 0 2 7 ∷ places 1 6 2 2 7 ∷ []) ≡ none ∷ refuses 8 ∷ []
  -- "on TN 4 or 6 an open 6 two timeslots lower": a 7 there is none
  pub six_above :
      refusals few (places 0 4 0 2 7 ∷ places 4 7 2 1 7 ∷ places 2 6 4 2 7 ∷ places 1 6 2 2 7 ∷ places 3 6 6 2 7 ∷ places 2 6 4 2 7 ∷ places 3 6 6 2 7 ∷ [])
      ≡ none ∷ none ∷ refuses 8 ∷ none ∷ refuses 8 ∷ none ∷ none ∷ []
  -- a 6 is a common line too
  pub beside_six :
      refusals few (places 0 4 0 2 7 ∷ places 1 6 2 2 7 ∷ places 2 4 0 2 7 ∷ places 2 5 0 2 7 ∷ [])
      ≡ none ∷ none ∷ refuses 8 ∷ refuses 8 ∷ []

-- ---- close

pub record CloseBorders : Type 0 where
  -- "3 line number (0 to 63)", "7 close .. on a closed line"
  pub ranges : refusals few (opened 63 ∷ closes 64 ∷ closes 62 ∷ closes 63 ∷ closes 63 ∷ []) ≡ none ∷ refuses 3 ∷ refuses 7 ∷ none ∷ refuses 7 ∷ []
  -- "8 .. Close: a 4 or 6 while a 6 is open two timeslots higher."
  pub needed :
      refusals few (places 0 4 0 2 7 ∷ places 1 6 2 2 7 ∷ places 2 6 4 2 7 ∷ places 3 6 6 2 7 ∷ closes 0 ∷ closes 1 ∷ closes 2
      ∷ closes 3 ∷ closes 2 ∷ closes 1 ∷ closes 0 ∷ [])
      ≡ none ∷ none ∷ none ∷ none ∷ refuses 8 ∷ refuses 8 ∷ refuses 8 ∷ none ∷ none ∷ none ∷ none ∷ []
  -- no 4 or 6 is closed here, and none is two timeslots higher
  pub not_needed :
      refusals few (places 0 4 0 2 7 ∷ places 1 6 2 2 7 ∷ places 4 7 0 1 7 ∷ places 5 7 4 1 7 ∷ closes 4 ∷ closes 1 ∷ places 6 7 2 1 7 ∷ closes 0 ∷ [])
      ≡ none ∷ none ∷ none ∷ none ∷ none ∷ none ∷ none ∷ none ∷ []
  -- "13 close with some s held": the first, and the last that there can be
  pub held :
      refusals few (places 1 7 1 1 0 ∷ seizes 1 0 1 ∷ closes 1 ∷ releases 1 0 1 ∷ seizes 1 7 1 ∷ closes 1 ∷ releases 1 7 1 ∷ closes 1 ∷ [])
      ≡ none ∷ none ∷ refuses 13 ∷ none ∷ none ∷ refuses 13 ∷ none ∷ none ∷ []

-- ---- seize and release

-- s of a line that has just been opened is seized and released
abbrev pub owning : ℕ → ℕ → List (Option Refused)
owning combination s = refusals few (places 1 combination 0 2 7 ∷ seizes 1 s 1 ∷ releases 1 s 1 ∷ [])

-- the combination has it, or lacks it
abbrev pub Has : ℕ → ℕ → Type 0
Has combination s = owning combination s ≡ none ∷ none ∷ none ∷ []

abbrev pub Lacks : ℕ → ℕ → Type 0
Lacks combination s = owning combination s ≡ none ∷ refuses 10 ∷ refuses 10 ∷ []

pub record OwnerBorders : Type 0 where
  -- "3 line number (0 to 63) .. owner .. out of range": "an owner 1–65,535"; "7 .. seize .. on a closed line"
  pub seize_ranges :
      refusals few (places 63 7 1 1 0 ∷ seizes 64 0 1 ∷ seizes 63 0 0 ∷ seizes 63 0 65536 ∷ seizes 62 0 1 ∷ seizes 63 0 1 ∷ seizes 63 7 65535 ∷ [])
      ≡ none ∷ refuses 3 ∷ refuses 3 ∷ refuses 3 ∷ refuses 7 ∷ none ∷ none ∷ []
  pub release_ranges :
      refusals few (places 63 7 1 1 0 ∷ seizes 63 0 1 ∷ seizes 63 7 65535
      ∷ releases 64 0 1 ∷ releases 63 0 0 ∷ releases 63 0 65536 ∷ releases 62 0 1 ∷ releases 63 0 1 ∷ releases 63 7 65535 ∷ [])
      ≡ none ∷ none ∷ none ∷ refuses 3 ∷ refuses 3 ∷ refuses 3 ∷ refuses 7 ∷ none ∷ none ∷ []
  -- "10 s doesn't exist in this combination.": 1 has s = 0; 2 has 0, 1; 5 has 0 to 3; 7 has 0 to 7; 4 and 6 have none
  pub full_rate : Has 1 0 × Lacks 1 1
  pub half_rate : Has 2 1 × Lacks 2 2
  pub combined : Has 5 3 × Lacks 5 4
  pub sdcch8 : Has 7 7 × Lacks 7 8
  pub four : Lacks 4 0
  pub six : refusals few (places 0 4 0 2 7 ∷ places 1 6 2 2 7 ∷ seizes 1 0 1 ∷ releases 1 0 1 ∷ []) ≡ none ∷ none ∷ refuses 10 ∷ refuses 10 ∷ []
  -- "11 seize of a held s.", by another or by its owner; another s is free
  pub held :
      refusals few (places 1 2 1 1 0 ∷ seizes 1 0 5 ∷ seizes 1 0 6 ∷ seizes 1 0 5 ∷ seizes 1 1 6 ∷ [])
      ≡ none ∷ none ∷ refuses 11 ∷ refuses 11 ∷ none ∷ []
  -- "12 release of an s that this owner doesn't hold.": a free one, another's, and one that is released already
  pub not_held :
      refusals few (places 1 2 1 1 0 ∷ releases 1 0 5 ∷ seizes 1 0 5 ∷ releases 1 0 6 ∷ releases 1 1 5 ∷ releases 1 0 5 ∷ releases 1 0 5 ∷ [])
      ≡ none ∷ refuses 12 ∷ none ∷ refuses 12 ∷ refuses 12 ∷ none ∷ refuses 12 ∷ []

-- ---- line and who

-- a full-rate line of timeslot 7 that hops over all of CA, and a 5 with one s held
abbrev pub asked : Cell
asked = after (opens 63 (values 7 7 0 2 1 0) ∷ seizes 63 0 9 ∷ places 0 5 0 2 7 ∷ seizes 0 0 8 ∷ [])

-- line 63 in FN 2,715,647: (FN + MAIO) mod 3 is 1, and q is 103, where timeslot 7 has place 0 of its SACCH
abbrev pub last_slot : Slot
last_slot = sent 20 1 1 (at Sacch 0 0 0 ∷ []) 9

pub record LineBorders : Type 0 where
  -- "3 line number (0 to 63), .. FN, direction (0 D, 1 U) .. out of range"
  pub last_frame : (line_of asked 63 2715647 1 ≡ accepted last_slot) × (line_of asked 63 2715648 1 ≡ refused (alone 3))
  pub directions : (line_of asked 63 2715647 0 ≡ accepted last_slot) × (line_of asked 63 2715647 2 ≡ refused (alone 3))
  pub number : line_of asked 64 0 0 ≡ refused (alone 3)
  -- "7 .. line on a closed line"
  pub closed : line_of asked 62 0 0 ≡ refused (alone 7)
  -- the owner of the s that stands there; "owner 0 for a free s"
  pub held : line_of asked 0 22 0 ≡ accepted (sent 20 0 1 (at Sdcch 0 0 0 ∷ []) 8)
  pub free : line_of asked 0 26 0 ≡ accepted (sent 20 0 1 (at Sdcch 1 0 0 ∷ []) 0)
  -- "s and owner 0 for a common part", and idle
  pub common : line_of asked 0 4 1 ≡ accepted (sent 20 0 1 (at Rach 0 0 0 ∷ []) 0)
  pub idle : line_of asked 0 2715647 0 ≡ accepted (sent 20 0 1 [] 0)
  -- a line that the hopping rules refuse, which no call opens, is tuned to nothing
  pub nowhere : tuning_in asked (zero_line []) 0 ≡ record { arfcn = 0; mai = 0; position = 0 }

pub record WhoBorders : Type 0 where
  -- "3 .. TN, .. FN, direction (0 D, 1 U) or ARFCN out of range"
  pub timeslots : (who_of asked 7 20 2715647 1 ≡ accepted (some (record { line = 63; slot = last_slot }))) × (who_of asked 8 20 2715647 1 ≡ refused (alone 3))
  pub arfcns : (who_of asked 7 1023 2715647 1 ≡ accepted none) × (who_of asked 7 1024 2715647 1 ≡ refused (alone 3))
  pub frames : who_of asked 7 20 2715648 1 ≡ refused (alone 3)
  pub directions : (who_of asked 7 20 2715647 0 ≡ accepted (some (record { line = 63; slot = last_slot }))) × (who_of asked 7 20 2715647 2 ≡ refused (alone 3))
  -- another timeslot, another ARFCN of CA
  pub nobody : (who_of asked 6 20 2715647 1 ≡ accepted none) × (who_of asked 7 30 2715647 1 ≡ accepted none)

-- ---- page

-- K, whether a 5 is open, AG and P
abbrev pub paging : ℕ → Bool → ℕ → ℕ → Common
paging k combined ag p = record { K = k; combined = combined; AG = ag; P = p }

abbrev pub paged : List Call → List ℕ → ℕ → Outcome PagingBlock
paged calls digits fn = page_of (after calls) digits fn

pub record PageBorders : Type 0 where
  -- "3 .. FN .. out of range, or an IMSI that isn't 3 to 15 digits, each 0 to 9", and before 16
  pub ranges : (paged [] (1 ∷ 2 ∷ 3 ∷ []) 2715648 ≡ refused (alone 3)) × (paged [] (1 ∷ 2 ∷ []) 0 ≡ refused (alone 3))
      × (paged [] (replicate 16 9) 0 ≡ refused (alone 3)) × (paged [] (1 ∷ 10 ∷ 3 ∷ []) 0 ≡ refused (alone 3))
  -- "16 paging with no common line open"
  pub no_line : (paged [] (replicate 15 9) 2715647 ≡ refused (alone 16)) × (paged (opened 0 ∷ []) (0 ∷ 0 ∷ 0 ∷ []) 0 ≡ refused (alone 16))
  -- "K = open lines of 4, 5, 6", the last line too
  pub none_open : common_of few ≡ paging 0 false 2 9
  pub one : common_of (after (opened 1 ∷ places 63 4 0 2 7 ∷ [])) ≡ paging 1 false 2 9
  pub combined : common_of (after (places 63 5 0 2 7 ∷ [])) ≡ paging 1 true 2 9
  pub four : common_of (after (places 0 4 0 2 7 ∷ places 1 6 2 2 7 ∷ places 2 6 4 2 7 ∷ places 3 6 6 2 7 ∷ places 4 7 1 1 7 ∷ [])) ≡ paging 4 false 2 9

-- ---- a cell with ARFCN 0: document 02, No. 3

-- CA 5, 10, 0 and C0 0 (mask 4), BCC 7, AG 2, P 9
abbrev pub with_zero : Cell
with_zero = (start_of (5 ∷ 10 ∷ 0 ∷ []) 0 7 2 9).cell

-- a 4, and a full-rate line of timeslot 1 that hops over 10 and 0
abbrev pub on_zero : Cell
on_zero = (run (begin with_zero) (places 0 4 0 4 7 ∷ opens 9 (values 1 6 0 0 1 0) ∷ seizes 9 0 3 ∷ [])).cell

-- line 9 in FN 25: FN mod 2 is 1, and q is 25, where timeslot 1 has place 0 of its SACCH
abbrev pub zero_slot : Slot
zero_slot = sent 0 1 2 (at Sacch 0 0 0 ∷ []) 3

-- the 4 in FN 12, which is 12 mod 51 too: place 0 of CCCH block 1
abbrev pub beacon_slot : Slot
beacon_slot = sent 0 0 2 (at Ccch 0 1 0 ∷ []) 0

pub record ZeroBorders : Type 0 where
  -- "ARFCN 0 last, after all others in ascending order": "refusal 1 is given by it"
  pub last :
      starts (5 ∷ 0 ∷ []) 5 0 0 2 ∷ starts (5 ∷ 0 ∷ []) 0 0 0 2 ∷ starts (from 1 63 ++ (0 ∷ [])) 0 0 0 2
      ∷ starts (0 ∷ 5 ∷ []) 0 0 0 2 ∷ starts (0 ∷ 0 ∷ []) 0 0 0 2 ∷ starts (5 ∷ 0 ∷ 7 ∷ []) 5 0 0 2 ∷ starts (from 1 64 ++ (0 ∷ [])) 0 0 0 2 ∷ []
      ≡ none ∷ none ∷ none ∷ refuses 1 ∷ refuses 1 ∷ refuses 1 ∷ refuses 1 ∷ []
  pub cell : with_zero ≡ closed_cell (5 ∷ 10 ∷ 0 ∷ []) 61 3 0 7 2 9
  -- "mask bits count in it": C0 is at position 2
  pub c0_alone :
      refusals with_zero (places 0 4 0 1 7 ∷ places 0 4 0 2 7 ∷ places 0 4 0 6 7 ∷ places 0 4 0 8 7 ∷ places 0 4 0 4 7 ∷ [])
      ≡ refuses 8 ∷ refuses 8 ∷ refuses 8 ∷ refuses 4 ∷ none ∷ []
  -- the line of mask 6 is on ARFCN 10 where MAI is 0, on ARFCN 0 where MAI is 1; the 4 is on ARFCN 0 always
  pub line :
      line_of on_zero 9 12 0 ∷ line_of on_zero 9 25 0 ∷ line_of on_zero 0 12 0 ∷ []
      ≡ accepted (sent 10 0 1 [] 0) ∷ accepted zero_slot ∷ accepted beacon_slot ∷ []
  -- who has ARFCN 0: line 9, and nobody in a frame in which that is on 10; in timeslot 0 the 4
  pub who :
      who_of on_zero 1 0 25 0 ∷ who_of on_zero 1 0 12 0 ∷ who_of on_zero 1 5 25 0 ∷ who_of on_zero 2 0 25 0 ∷ who_of on_zero 0 0 12 0 ∷ []
      ≡ accepted (some (record { line = 9; slot = zero_slot })) ∷ accepted none ∷ accepted none ∷ accepted none ∷ accepted (some (record { line = 0; slot = beacon_slot })) ∷ []

pub record Borders : Type 0 where
  pub of_start : StartBorders
  pub of_open : OpenBorders
  pub of_places : PlaceBorders
  pub of_close : CloseBorders
  pub of_owners : OwnerBorders
  pub of_line : LineBorders
  pub of_who : WhoBorders
  pub of_page : PageBorders
  pub of_zero : ZeroBorders
