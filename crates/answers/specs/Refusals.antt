-- Which number and values of document 01 each case of the enum `Refusal` stands for, and what the code's answers say. Assumes nothing.
use Rattle.std.specs.Prelude.{ℕ, List, [], ◌∷◌, Result, Ok, Err, Some, None}
use Rattle.std.specs.Prelude.{Option as MayBe}
use Rattle.std.proofs.Math.Option.{Option, none, some}
use Rattle.answers.specs.Outcome.{Refused, Outcome, refused, accepted, alone}
use Rattle.answers.specs.declared.Refusal.{Refusal}
use Rattle.answers.specs.declared.Refusal.TheVariants.{CellAllocation, CellParameter, OutOfRange, MobileAllocation, Maio, LineOpen, LineClosed, CommonChannel, Clash, NoSubchannel, SubchannelHeld, NotHolder, LineHeld, Malformed, FixedBit, NoCommonLine}

-- document 01's number for each case, with the line of 9 and the bit of 15
abbrev pub refusal_of : Refusal → Refused
refusal_of CellAllocation = alone 1
refusal_of CellParameter = alone 2
refusal_of OutOfRange = alone 3
refusal_of MobileAllocation = alone 4
refusal_of Maio = alone 5
refusal_of LineOpen = alone 6
refusal_of LineClosed = alone 7
refusal_of CommonChannel = alone 8
refusal_of (Clash line) = record { number = 9; values = line ∷ [] }
refusal_of NoSubchannel = alone 10
refusal_of SubchannelHeld = alone 11
refusal_of NotHolder = alone 12
refusal_of LineHeld = alone 13
refusal_of Malformed = alone 14
refusal_of (FixedBit bit) = record { number = 15; values = bit ∷ [] }
refusal_of NoCommonLine = alone 16

-- the values of a refusal that carries one value at most
abbrev pub values_in : MayBe ℕ → List ℕ
values_in (Some value) = value ∷ []
values_in None = []

-- what an answer of the code says, where f says what its value does
abbrev pub outcome_by : {A B : Type 0} → (A → B) → Result A Refusal → Outcome B
outcome_by f (Ok a) = accepted (f a)
outcome_by f (Err e) = refused (refusal_of e)

-- what an answer of the code says whose value is the definition's
abbrev pub outcome_of : {A : Type 0} → Result A Refusal → Outcome A
outcome_of (Ok a) = accepted a
outcome_of (Err e) = refused (refusal_of e)

-- the refusal that an answer tells, if it tells one
abbrev pub refusal_in : {A : Type 0} → Result A Refusal → Option Refused
refusal_in (Ok a) = none
refusal_in (Err e) = some (refusal_of e)

-- what an optional value of the code says, where f says what the value does
abbrev pub option_by : {A B : Type 0} → (A → B) → MayBe A → Option B
option_by f (Some a) = some (f a)
option_by f None = none

abbrev pub option_of : {A : Type 0} → MayBe A → Option A
option_of (Some a) = some a
option_of None = none
