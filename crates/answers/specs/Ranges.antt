-- The ranges of document 01's numbers, each once: what is out of it. Refused with 1 (the length of CA), 2 (BCC, AG, P) or 3. Assumes nothing.
use Rattle.std.specs.Prelude.{ℕ, Bool, ◌||◌, ltb, leb, eqb}

-- "FN is 0 to 2,715,647 and returns to 0": so many frames are a hyperframe
abbrev pub hyperframe : ℕ
hyperframe = 2715648

abbrev pub no_fn : ℕ → Bool
no_fn fn = leb hyperframe fn

-- "TN, the timeslot, is 0 to 7."
abbrev pub no_tn : ℕ → Bool
no_tn tn = ltb 7 tn

-- "direction (0 D, 1 U)"
abbrev pub no_direction : ℕ → Bool
no_direction direction = ltb 1 direction

-- "An ARFCN is a channel number, 0 to 1023."
abbrev pub no_arfcn : ℕ → Bool
no_arfcn arfcn = ltb 1023 arfcn

-- "The cell allocation CA is 1 to 64 ARFCNs": room for so many, and what is no CA's length
abbrev pub ca_room : ℕ
ca_room = 64

abbrev pub no_size : ℕ → Bool
no_size size = eqb size 0 || ltb ca_room size

-- "HSN is 0 to 63"
abbrev pub no_hsn : ℕ → Bool
no_hsn hsn = ltb 63 hsn

-- "BCC 0–7, BS_AG_BLKS_RES (AG) 0–7, BS_PA_MFRMS (P) 2–9"
abbrev pub no_bcc : ℕ → Bool
no_bcc bcc = ltb 7 bcc

abbrev pub no_ag : ℕ → Bool
no_ag ag = ltb 7 ag

abbrev pub no_p : ℕ → Bool
no_p p = ltb p 2 || ltb 9 p

-- "and 64 lines": "line number (0 to 63)"
abbrev pub line_count : ℕ
line_count = 64

abbrev pub no_line : ℕ → Bool
no_line n = leb line_count n

-- "TSC (training code) 0–7"
abbrev pub no_tsc : ℕ → Bool
no_tsc tsc = ltb 7 tsc

-- "an owner 1–65,535"
abbrev pub no_owner : ℕ → Bool
no_owner owner = eqb owner 0 || ltb 65535 owner
