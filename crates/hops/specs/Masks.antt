-- The bits of a mask: document 01, "A mobile allocation is a 64-bit mask". Assumes nothing.
use Rattle.std.specs.Prelude.{ℕ, zero, suc, ◌+◌, ◌/◌, ◌%◌, ◌^◌, Bool, ◌&&◌, eqb, leb}
use Rattle.answers.specs.Search.{any_below, least}

-- "bit p (p = 0 is worth 1) stands for CA position p"
abbrev pub bit : ℕ → ℕ → ℕ
bit m p = m / 2 ^ p % 2

-- the mobile allocation contains CA position p
abbrev pub contains : ℕ → ℕ → Bool
contains m p = eqb (bit m p) 1

-- how many ones stand below bit p
unfoldable pub ones_below : ℕ → ℕ → ℕ
ones_below m zero = 0
ones_below m (suc p) = ones_below m p + bit m p

-- "N is the count of its ones"
abbrev pub ones : ℕ → ℕ
ones m = ones_below m 64

-- "the mask's one bit that has MAI ones below it" (64 if there is none)
unfoldable pub position_at : ℕ → ℕ → ℕ
position_at m mai = least (λ p. contains m p && eqb (ones_below m p) mai) 64 64

-- "a one at or above CA's length": the mask is no less than the lowest bit there is worth (`OneAtOrAbove` of Claims.antt: exactly then some bit there
-- is one)
unfoldable pub one_at_or_above : ℕ → ℕ → Bool
one_at_or_above m size = leb (2 ^ size) m

-- "the masks share a one"
unfoldable pub share_one : ℕ → ℕ → Bool
share_one a b = any_below (λ p. contains a p && contains b p) 64
