-- What is claimed of every call that is answered by a list of causes, of the ranges and of the numbers: document 01, "Who causes a refusal". Assumes nothing.
use Rattle.std.specs.Prelude.{ℕ, ◌≡◌, ◌≤◌, Bool, true, false, List, [], ◌∷◌, map}
use mathlib.Core.List.{Memᴰ}
use Rattle.answers.specs.Outcome.{Refused, Outcome, refused, accepted, Cause, cause, any_of, decide, ascending}
use Rattle.answers.specs.Ranges.{no_fn, no_tn, no_direction, no_arfcn, no_size, no_hsn, no_bcc, no_ag, no_p, no_line, no_tsc, no_owner}
use Rattle.answers.specs.Refusals.{refusal_of}
use Rattle.answers.specs.declared.Refusal.{Refusal}
use Rattle.answers.specs.declared.Refusal.TheVariants.{CellAllocation, CellParameter, OutOfRange, MobileAllocation, Maio, LineOpen, LineClosed, CommonChannel, Clash, NoSubchannel, SubchannelHeld, NotHolder, LineHeld, Malformed, FixedBit, NoCommonLine}

-- ---- "The lowest number that applies is given, and only if its condition holds."

-- r is the refusal, number and values, of a cause of the list that has a condition that holds
pub record Caused (cs : List Cause) (r : Refused) : Type 0 where
  pub of : Cause
  pub member : Memᴰ of cs
  pub applies : any_of of.conditions ≡ true
  pub same : of.refusal ≡ r

-- none of the conditions holds
abbrev pub NoneHolds : List Bool → Type 0
NoneHolds [] = Unit
NoneHolds (b ∷ bs) = (b ≡ false) × NoneHolds bs

-- no condition of any cause holds
abbrev pub NoCause : List Cause → Type 0
NoCause [] = Unit
NoCause (c ∷ cs) = NoneHolds c.conditions × NoCause cs

-- a call with these causes, and with this answer where none applies, came to o: refused, it had its cause, and no lower number applied;
-- accepted, it had no cause, and it gives the answer
pub record FairAnswer {A : Type 0} (answer : A) (cs : List Cause) (o : Outcome A) : Type 0 where
  pub caused : (r : Refused) → o ≡ refused r → Caused cs r
  pub lowest : (r : Refused) → o ≡ refused r → (c : Cause) → Memᴰ c cs → any_of c.conditions ≡ true → r.number ≤ c.refusal.number
  pub no_cause : (b : A) → o ≡ accepted b → (answer ≡ b) × NoCause cs

-- so it is of every call that decides by causes in the order of their numbers
pub record DecidesFairly (A : Type 0) : Type 0 where
  pub fair : (cs : List Cause) (answer : A) → ascending cs ≡ true → FairAnswer answer cs (decide cs answer)

-- "the lowest number": causes ascend where each number is above the one before it
pub record Ascends : Type 0 where
  pub ascending_causes : map ascending ([] ∷ (cause 1 [] ∷ []) ∷ (cause 1 [] ∷ cause 2 [] ∷ cause 16 [] ∷ []) ∷ []) ≡ true ∷ true ∷ true ∷ []
  pub other_causes : map ascending ((cause 2 [] ∷ cause 2 [] ∷ []) ∷ (cause 1 [] ∷ cause 3 [] ∷ cause 2 [] ∷ []) ∷ (cause 0 [] ∷ []) ∷ [])
      ≡ false ∷ false ∷ false ∷ []

-- ---- the ranges

-- the numbers at the borders of each, and those beside them
pub record InRange : Type 0 where
  -- "FN is 0 to 2,715,647"; "TN, the timeslot, is 0 to 7"; "direction (0 D, 1 U)"
  pub fn : map no_fn (0 ∷ 2715647 ∷ 2715648 ∷ []) ≡ false ∷ false ∷ true ∷ []
  pub tn : map no_tn (0 ∷ 7 ∷ 8 ∷ []) ≡ false ∷ false ∷ true ∷ []
  pub direction : map no_direction (0 ∷ 1 ∷ 2 ∷ []) ≡ false ∷ false ∷ true ∷ []
  -- "An ARFCN is a channel number, 0 to 1023"; "CA is 1 to 64 ARFCNs"; "HSN is 0 to 63"
  pub arfcn : map no_arfcn (0 ∷ 1023 ∷ 1024 ∷ []) ≡ false ∷ false ∷ true ∷ []
  pub size : map no_size (0 ∷ 1 ∷ 64 ∷ 65 ∷ []) ≡ true ∷ false ∷ false ∷ true ∷ []
  pub hsn : map no_hsn (0 ∷ 63 ∷ 64 ∷ []) ≡ false ∷ false ∷ true ∷ []
  -- "BCC 0–7, BS_AG_BLKS_RES (AG) 0–7, BS_PA_MFRMS (P) 2–9"
  pub bcc : map no_bcc (0 ∷ 7 ∷ 8 ∷ []) ≡ false ∷ false ∷ true ∷ []
  pub ag : map no_ag (0 ∷ 7 ∷ 8 ∷ []) ≡ false ∷ false ∷ true ∷ []
  pub p : map no_p (1 ∷ 2 ∷ 9 ∷ 10 ∷ []) ≡ true ∷ false ∷ false ∷ true ∷ []
  -- "line number (0 to 63)"; "TSC (training code) 0–7"; "an owner 1–65,535"
  pub line : map no_line (0 ∷ 63 ∷ 64 ∷ []) ≡ false ∷ false ∷ true ∷ []
  pub tsc : map no_tsc (0 ∷ 7 ∷ 8 ∷ []) ≡ false ∷ false ∷ true ∷ []
  pub owner : map no_owner (0 ∷ 1 ∷ 65535 ∷ 65536 ∷ []) ≡ true ∷ false ∷ false ∷ true ∷ []

-- ---- the numbers

-- the refusals in document 01's order
abbrev pub cases : ℕ → ℕ → List Refusal
cases line bit =
    CellAllocation ∷ CellParameter ∷ OutOfRange ∷ MobileAllocation ∷ Maio ∷ LineOpen ∷ LineClosed ∷ CommonChannel ∷ Clash line ∷ NoSubchannel
    ∷ SubchannelHeld ∷ NotHolder ∷ LineHeld ∷ Malformed ∷ FixedBit bit ∷ NoCommonLine ∷ []

-- they have its numbers, and "It comes alone, except 9 and 15": 9 comes with the line, 15 with the bit number
pub record Numbered : Type 0 where
  pub numbers : (line bit : ℕ) → map (λ r. (refusal_of r).number) (cases line bit) ≡ 1 ∷ 2 ∷ 3 ∷ 4 ∷ 5 ∷ 6 ∷ 7 ∷ 8 ∷ 9 ∷ 10 ∷ 11 ∷ 12 ∷ 13 ∷ 14 ∷ 15 ∷ 16 ∷ []
  pub values : (line bit : ℕ) → map (λ r. (refusal_of r).values) (cases line bit)
      ≡ [] ∷ [] ∷ [] ∷ [] ∷ [] ∷ [] ∷ [] ∷ [] ∷ (line ∷ []) ∷ [] ∷ [] ∷ [] ∷ [] ∷ [] ∷ (bit ∷ []) ∷ [] ∷ []
