-- What stands in a frame: a logical channel, its subchannel, and the block and place of the burst. Assumes nothing.
use Rattle.std.specs.Prelude.{ℕ, ◌≡◌, ◌≢◌, Result, MatchResult, Bool, true, false, cond, eqb}
use Rattle.answers.specs.declared.Refusal.{Refusal}
use Rattle.answers.specs.declared.Refusal.TheVariants.{OutOfRange}
use Rattle.maps.specs.declared.Kind.{Kind}
use Rattle.maps.specs.declared.Kind.TheVariants.{Tch, Sacch, Sdcch, Fcch, Sch, Bcch, Ccch, Rach}

-- a number for each kind; 0 is left for idle
abbrev pub kind_number : Kind → ℕ
kind_number Tch = 1
kind_number Sacch = 2
kind_number Sdcch = 3
kind_number Fcch = 4
kind_number Sch = 5
kind_number Bcch = 6
kind_number Ccch = 7
kind_number Rach = 8

-- the kind of a channel number
unfoldable pub kind_at : ℕ → Kind
kind_at n =
    cond (eqb n 1) Tch
    (cond (eqb n 2) Sacch
    (cond (eqb n 3) Sdcch (cond (eqb n 4) Fcch (cond (eqb n 5) Sch (cond (eqb n 6) Bcch (cond (eqb n 7) Ccch Rach))))))

-- the result is the kind with this number, or the refusal of a number that no kind has
abbrev pub IsKindOf : ℕ → Result Kind Refusal → Type 0
IsKindOf n r = MatchResult r (λ kind. kind_number kind ≡ n) (λ e. (e ≡ OutOfRange) × ((kind : Kind) → kind_number kind ≢ n))

-- "The common part of a line is its FCCH, SCH, BCCH, CCCH and RACH frames."
abbrev pub is_common : Kind → Bool
is_common Tch = false
is_common Sacch = false
is_common Sdcch = false
is_common Fcch = true
is_common Sch = true
is_common Bcch = true
is_common Ccch = true
is_common Rach = true

-- a burst as one of its blocks has it
pub record Standing : Type 0 where
  pub kind : Kind
  pub subchannel : ℕ
  pub block : ℕ
  pub place : ℕ

-- a burst of this kind and subchannel, in this block at this place
abbrev pub at : Kind → ℕ → ℕ → ℕ → Standing
at kind s block place = record { kind = kind; subchannel = s; block = block; place = place }
