-- Document 01, "Hopping (6.2)"; document 02, No. 2. Assumes nothing.
use Rattle.std.specs.Prelude.{ℕ, ◌+◌, ◌%◌, ◌^◌, not, cond, List, [], ◌∷◌, ltb, eqb, length, get_or}
use Rattle.std.specs.Int.Bits.{bit_xor}
use Rattle.answers.specs.Outcome.{Outcome, Cause, cause, decide}
use Rattle.answers.specs.Ranges.{no_fn, no_hsn, no_size}
use Rattle.answers.specs.Search.{least}
use Rattle.clock.specs.declared.Frame.{Frame}
use Rattle.clock.specs.Clock.{parts_of}
use Rattle.hops.specs.Masks.{ones, position_at, one_at_or_above}
use Rattle.hops.specs.Allocation.{allocation_cause}
use Rattle.hops.specs.declared.Selection.{Selection}
use Rattle.hops.specs.declared.Tuning.{Tuning}

-- "RNTABLE, entries 0 to 113"
unfoldable pub rntable : List ℕ
rntable =
    48 ∷ 98 ∷ 63 ∷ 1 ∷ 36 ∷ 95 ∷ 78 ∷ 102 ∷ 94 ∷ 73 ∷ 0 ∷ 64 ∷ 25 ∷ 81 ∷ 76 ∷ 59
    ∷ 124 ∷ 23 ∷ 104 ∷ 100 ∷ 101 ∷ 47 ∷ 118 ∷ 85 ∷ 18 ∷ 56 ∷ 96 ∷ 86 ∷ 54 ∷ 2 ∷ 80 ∷ 34
    ∷ 127 ∷ 13 ∷ 6 ∷ 89 ∷ 57 ∷ 103 ∷ 12 ∷ 74 ∷ 55 ∷ 111 ∷ 75 ∷ 38 ∷ 109 ∷ 71 ∷ 112 ∷ 29
    ∷ 11 ∷ 88 ∷ 87 ∷ 19 ∷ 3 ∷ 68 ∷ 110 ∷ 26 ∷ 33 ∷ 31 ∷ 8 ∷ 45 ∷ 82 ∷ 58 ∷ 40 ∷ 107
    ∷ 32 ∷ 5 ∷ 106 ∷ 92 ∷ 62 ∷ 67 ∷ 77 ∷ 108 ∷ 122 ∷ 37 ∷ 60 ∷ 66 ∷ 121 ∷ 42 ∷ 51 ∷ 126
    ∷ 117 ∷ 114 ∷ 4 ∷ 90 ∷ 43 ∷ 52 ∷ 53 ∷ 113 ∷ 120 ∷ 72 ∷ 16 ∷ 49 ∷ 7 ∷ 79 ∷ 119 ∷ 61
    ∷ 22 ∷ 84 ∷ 9 ∷ 97 ∷ 91 ∷ 15 ∷ 21 ∷ 24 ∷ 46 ∷ 39 ∷ 93 ∷ 105 ∷ 65 ∷ 70 ∷ 125 ∷ 99
    ∷ 17 ∷ 123 ∷ []

-- "NBIN is the number of bits needed to write N": the least that has room for it
unfoldable pub nbin : ℕ → ℕ
nbin n = least (λ k. ltb n (2 ^ k)) 64 64

-- "M = T2 + RNTABLE[(HSN xor (T1 mod 64)) + T3]"
abbrev pub M : ℕ → Frame → ℕ
M hsn f = f.t2 + get_or rntable (bit_xor hsn (f.t1 % 64) + f.t3) 0

-- "M' = M mod 2^NBIN"
abbrev pub M' : ℕ → ℕ → Frame → ℕ
M' n hsn f = M hsn f % 2 ^ nbin n

-- "T' = T3 mod 2^NBIN"
abbrev pub T' : ℕ → Frame → ℕ
T' n f = f.t3 % 2 ^ nbin n

-- "S = M' if M' < N, else (M' + T') mod N"
unfoldable pub S : ℕ → ℕ → Frame → ℕ
S n hsn f = cond (ltb (M' n hsn f) n) (M' n hsn f) ((M' n hsn f + T' n f) % n)

-- "HSN = 0: MAI = (FN + MAIO) mod N", "Otherwise .. MAI = (S + MAIO) mod N"
unfoldable pub mai_of : ℕ → ℕ → ℕ → ℕ → ℕ
mai_of n hsn maio fn = cond (eqb hsn 0) ((fn + maio) % n) ((S n hsn (parts_of fn) + maio) % n)

-- the CA position that a line uses in a frame
abbrev pub line_position : ℕ → ℕ → ℕ → ℕ → ℕ
line_position m hsn maio fn = position_at m (mai_of (ones m) hsn maio fn)

-- "The ARFCN is the CA entry at the mask's one bit that has MAI ones below it"
abbrev pub line_arfcn : List ℕ → ℕ → ℕ → ℕ → ℕ → ℕ
line_arfcn ca m hsn maio fn = get_or ca (line_position m hsn maio fn) 0

-- MAI, and the CA position of the mask's one that MAI selects
abbrev pub line_selection : ℕ → ℕ → ℕ → ℕ → Selection
line_selection m hsn maio fn = record { mai = mai_of (ones m) hsn maio fn; position = line_position m hsn maio fn }

-- "The hop answer must give MAI and the CA position beside the ARFCN": "The position is the one whose CA entry is the ARFCN"
abbrev pub tuned : List ℕ → Selection → Tuning
tuned ca s = record { arfcn = get_or ca s.position 0; mai = s.mai; position = s.position }

-- where there is nothing to be tuned to, each number is 0
abbrev pub no_tuning : Tuning
no_tuning = record { arfcn = 0; mai = 0; position = 0 }

-- what a line is tuned to in a frame
abbrev pub line_tuning : List ℕ → ℕ → ℕ → ℕ → ℕ → Tuning
line_tuning ca m hsn maio fn = tuned ca (line_selection m hsn maio fn)

-- "4 mask zero, or a one at or above CA's length."
abbrev pub mask_cause : ℕ → ℕ → Cause
mask_cause size m = cause 4 (eqb m 0 ∷ one_at_or_above m size ∷ [])

-- "5 MAIO not below N."
abbrev pub maio_cause : ℕ → ℕ → Cause
maio_cause m maio = cause 5 (not (ltb maio (ones m)) ∷ [])

-- what a hop is refused for, beside CA, of which the length alone counts here: "3 .. HSN, .. FN .. out of range", 4 and 5
abbrev pub hopping_causes : ℕ → ℕ → ℕ → ℕ → ℕ → List Cause
hopping_causes size m hsn maio fn = cause 3 (no_hsn hsn ∷ no_fn fn ∷ []) ∷ mask_cause size m ∷ maio_cause m maio ∷ []

-- MAI and the position in a cell allocation of so many ARFCNs; "1 CA isn't as above", if none has so many
abbrev pub position_causes : ℕ → ℕ → ℕ → ℕ → ℕ → List Cause
position_causes size m hsn maio fn = cause 1 (no_size size ∷ []) ∷ hopping_causes size m hsn maio fn

unfoldable pub position_of : ℕ → ℕ → ℕ → ℕ → ℕ → Outcome Selection
position_of size m hsn maio fn = decide (position_causes size m hsn maio fn) (line_selection m hsn maio fn)

-- the ARFCN, MAI and the position
abbrev pub hop_causes : List ℕ → ℕ → ℕ → ℕ → ℕ → List Cause
hop_causes ca m hsn maio fn = allocation_cause ca ∷ hopping_causes (length ca) m hsn maio fn

unfoldable pub hop_of : List ℕ → ℕ → ℕ → ℕ → ℕ → Outcome Tuning
hop_of ca m hsn maio fn = decide (hop_causes ca m hsn maio fn) (line_tuning ca m hsn maio fn)
