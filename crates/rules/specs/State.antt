-- The state of a cell: document 01, "The cell and its calls". Assumes nothing.
use Rattle.std.specs.Prelude.{ℕ, zero, suc, Bool, not, List, [], ◌∷◌, eqb, length, get_or, take}
use Rattle.answers.specs.Ranges.{ca_room, line_count}
pub use Rattle.rules.specs.declared.Values.{Values}
pub use Rattle.rules.specs.declared.Parameters.{Parameters}

-- "A line is closed, or has TN, mask, HSN, MAIO, combination, TSC (training code) 0–7, and for each s an owner 1–65,535, or 0 for free."
pub record LineState : Type 0 where
  pub mask : ℕ
  pub tn : ℕ
  pub hsn : ℕ
  pub maio : ℕ
  pub combination : ℕ
  pub tsc : ℕ
  pub owners : List ℕ

-- "A cell is CA, C0 (an ARFCN of CA), BCC 0–7, BS_AG_BLKS_RES (AG) 0–7, BS_PA_MFRMS (P) 2–9, and 64 lines." CA is the first `size` entries of
-- `ca`, and 0 follows them
pub record Cell : Type 0 where
  pub ca : List ℕ
  pub size : ℕ
  pub c0 : ℕ
  pub bcc : ℕ
  pub ag : ℕ
  pub p : ℕ
  pub lines : List LineState

-- the list f 0, f 1 and so on, n entries
unfoldable pub tabulate : {A : Type 0} → ℕ → (ℕ → A) → List A
tabulate zero f = []
tabulate (suc n) f = f 0 ∷ tabulate n (λ k. f (suc k))

-- how many owners a line has room for: no combination has more subchannels
abbrev pub owner_room : ℕ
owner_room = 8

-- a line's six values are "TN, mask, HSN, MAIO, combination, TSC (training code)", the fields of `Values`; "and for each s an owner": a line with these
-- values, where s has the owner `owners s`
abbrev pub line_with : Values → (ℕ → ℕ) → LineState
line_with v owners =
    record { mask = v.mask; tn = v.tn; hsn = v.hsn; maio = v.maio; combination = v.combination; tsc = v.tsc; owners = tabulate owner_room owners }

-- the six values of a line
abbrev pub values_of : LineState → Values
values_of l = record { tn = l.tn; mask = l.mask; hsn = l.hsn; maio = l.maio; combination = l.combination; tsc = l.tsc }

-- C0, BCC, AG and P of a cell
abbrev pub parameters_of : Cell → Parameters
parameters_of c = record { c0 = c.c0; bcc = c.bcc; ag = c.ag; p = c.p }

-- "or 0 for free"
abbrev pub free : ℕ → ℕ
free s = 0

-- a closed line has 0 everywhere
unfoldable pub closed_line : LineState
closed_line = line_with (record { tn = 0; mask = 0; hsn = 0; maio = 0; combination = 0; tsc = 0 }) free

-- "A line is closed, or has .. combination": 0 is no combination's number
abbrev pub is_open : LineState → Bool
is_open l = not (eqb l.combination 0)

-- line n; past the last line, what a read there gives: no combination, no owners
abbrev pub line_at : Cell → ℕ → LineState
line_at c n = get_or c.lines n (record { mask = 0; tn = 0; hsn = 0; maio = 0; combination = 0; tsc = 0; owners = [] })

-- the owner of subchannel s, 0 for free
abbrev pub owner_at : LineState → ℕ → ℕ
owner_at l s = get_or l.owners s 0

-- the cell allocation
abbrev pub allocation : Cell → List ℕ
allocation c = take c.size c.ca

-- "start: all lines closed": a cell with this CA, C0, BCC, AG and P
unfoldable pub empty : List ℕ → ℕ → ℕ → ℕ → ℕ → Cell
empty ca c0 bcc ag p =
    record { ca = tabulate ca_room (λ k. get_or ca k 0); size = length ca; c0 = c0; bcc = bcc; ag = ag; p = p; lines = tabulate line_count (λ n. closed_line) }
