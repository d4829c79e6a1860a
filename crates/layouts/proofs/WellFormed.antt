-- What a call that is not malformed shows, and a call that is refused. Assumes nothing.
use Prim.Native.Nat.{ℕ}
use mathlib.Core.Path.{◌≡◌, ap}
use mathlib.Core.Bool.{false, not}
use mathlib.Core.List.{List}
use mathlib.Core.Option.{some}
use lib.ListN.{length}
use borrow.Author.Tests.{eq-eqb, eqb-true, not-false}
use Rattle.answers.specs.Outcome.{Refused}
use Rattle.answers.specs.Claims.{NoneHolds}
use Rattle.layouts.specs.Rows.{Row, room}
use Rattle.layouts.specs.Bursts.{Written, byte_above_one, malformed}

-- nothing is malformed: the lengths are right, and what is read has no byte above 1
module _ (row : Row) (burst payload read : List ℕ) where
  abbrev pub WellFormed : Type 0
  WellFormed = (length burst ≡ length row) × (length payload ≡ room row) × (byte_above_one read ≡ false)

  pub well_formed : NoneHolds (malformed row burst payload read).conditions → WellFormed
  well_formed h = (eqb-true _ _ (not-false _ h.0), eqb-true _ _ (not-false _ h.1.0), h.1.1.0)

  pub not_malformed : WellFormed → NoneHolds (malformed row burst payload read).conditions
  not_malformed h = (ap not (eq-eqb _ _ h.0), (ap not (eq-eqb _ _ h.1), (h.2, tt)))

-- a refused call
abbrev pub turned_away : Refused → List ℕ → Written
turned_away r lent = record { refusal = some r; bytes = lent }
