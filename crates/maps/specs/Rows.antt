-- The rows of a frame map: one for each burst that document 01 names, two for a burst of two blocks. Assumes nothing.
use Rattle.std.specs.Prelude.{ℕ, zero, suc, ◌+◌, ◌%◌, Bool, true, false, List, [], ◌∷◌, ◌++◌, eqb}
use Rattle.maps.specs.declared.Kind.{Kind}
use Rattle.maps.specs.Channels.{Standing, at}

-- a burst of a block: it stands in the frames whose number modulo the period is `frame`
pub record Row : Type 0 where
  pub kind : Kind
  pub subchannel : ℕ
  pub block : ℕ
  pub place : ℕ
  pub period : ℕ
  pub frame : ℕ

-- ---- document 01's ways to name bursts

-- the burst of a block at a place
abbrev pub row : Kind → ℕ → ℕ → ℕ → ℕ → ℕ → Row
row kind s block place period frame =
    record { kind = kind; subchannel = s; block = block; place = place; period = period; frame = frame }

-- frames numbered from n: what is made of each number and its frame
unfoldable pub numbered : (ℕ → ℕ → List Row) → ℕ → List ℕ → List Row
numbered make n [] = []
numbered make n (a ∷ more) = make n a ++ numbered make (suc n) more

-- what is made of each number
unfoldable pub each : (ℕ → List Row) → List ℕ → List Row
each make [] = []
each make (a ∷ more) = make a ++ each make more

-- the n numbers from a
unfoldable pub from : ℕ → ℕ → List ℕ
from a zero = []
from a (suc n) = a ∷ from (suc a) n

-- '"a.." means the four frames from a, places 0 to 3'
abbrev pub four : Kind → ℕ → ℕ → ℕ → ℕ → List Row
four kind s period block a =
    row kind s block 0 period a ∷ row kind s block 1 period (a + 1) ∷ row kind s block 2 period (a + 2) ∷ row kind s block 3 period (a + 3) ∷ []

-- "Single-burst blocks have place 0"
abbrev pub single : Kind → ℕ → ℕ → ℕ → List Row
single kind period block a = row kind 0 block 0 period a ∷ []

-- "15 frames later (mod 51, mod 102)"
abbrev pub later : Row → Row
later r = row r.kind r.subchannel r.block r.place r.period ((r.frame + 15) % r.period)

-- ---- what the rows have in a frame

abbrev pub stands : Row → ℕ → Bool
stands r fn = eqb (fn % r.period) r.frame

abbrev pub told : Row → Standing
told r = at r.kind r.subchannel r.block r.place

abbrev pub put : Bool → Standing → List Standing → List Standing
put true x xs = x ∷ xs
put false x xs = xs

-- all rows that stand in frame fn; none, and the frame is idle
unfoldable pub standing : List Row → ℕ → List Standing
standing [] fn = []
standing (r ∷ rs) fn = put (stands r fn) (told r) (standing rs fn)
