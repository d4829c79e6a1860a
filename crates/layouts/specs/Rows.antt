-- A burst by its bit numbers: what a layout has at each, the burst with a payload, the payload of a burst, and where a fixed bit differs.
-- Assumes nothing.
use Rattle.std.specs.Prelude.{ℕ, suc, Bool, false, not, List, [], ◌∷◌, ◌++◌, map, eqb, drop, replicate, get_or}
use Rattle.std.proofs.Math.Option.{Option, none, some}
use Rattle.layouts.specs.Layouts.{Field, Fixed, Payload}

-- one entry for each bit number: some fixed bit, or none where a payload bit stands
abbrev pub Row : Type 0
Row = List (Option ℕ)

unfoldable pub row_of : List Field → Row
row_of [] = []
row_of (Fixed states ∷ fields) = map some states ++ row_of fields
row_of (Payload n ∷ fields) = replicate n none ++ row_of fields

-- how many payload bits a burst has
unfoldable pub room : Row → ℕ
room [] = 0
room (some bit ∷ row) = room row
room (none ∷ row) = suc (room row)

-- the burst with this payload: the fixed bits where they stand, and the payload bits in order where none does
unfoldable pub built : Row → List ℕ → List ℕ
built [] payload = []
built (some bit ∷ row) payload = bit ∷ built row payload
built (none ∷ row) payload = get_or payload 0 0 ∷ built row (drop 1 payload)

-- the payload of a burst: in order, the bits that stand where no fixed bit does
unfoldable pub taken : Row → List ℕ → List ℕ
taken [] burst = []
taken (some bit ∷ row) burst = taken row (drop 1 burst)
taken (none ∷ row) burst = get_or burst 0 0 ∷ taken row (drop 1 burst)

-- a bit that is not the fixed one
abbrev pub is_other : Option ℕ → ℕ → Bool
is_other none bit = false
is_other (some state) bit = not (eqb bit state)

-- "a fixed bit differs" at bit number k
abbrev pub differs : Row → List ℕ → ℕ → Bool
differs row burst k = is_other (get_or row k none) (get_or burst k 0)
