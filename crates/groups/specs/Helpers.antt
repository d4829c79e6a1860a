-- What the helpers of the code compute. No part of what is promised to a caller. Assumes nothing.
use Rattle.std.specs.Prelude.{ℕ, ◌/◌, ◌%◌, Bool, ◌&&◌, eqb}

-- frame fn is frame s of a multiframe with the remainder t by p
abbrev pub is_hit : ℕ → ℕ → ℕ → ℕ → Bool
is_hit p t s fn = eqb (fn / 51 % p) t && eqb (fn % 51) s
