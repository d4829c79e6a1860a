-- What the helpers of the code compute: here `position_at`, for every number. No part of what is promised to a caller of the library. Assumes nothing.
use Rattle.std.specs.Prelude.{ℕ, cond, ltb}
use Rattle.hops.specs.Masks.{ones, position_at}

-- "the mask's one bit that has MAI ones below it"; 63, the last bit, if there is none
abbrev pub select_of : ℕ → ℕ → ℕ
select_of m mai = cond (ltb mai (ones m)) (position_at m mai) 63
