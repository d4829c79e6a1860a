-- What the helpers of the code compute. No part of what is promised to a caller. Assumes nothing.
use Rattle.std.specs.Prelude.{ℕ}
use Rattle.answers.specs.Ranges.{hyperframe}
use Rattle.answers.specs.Search.{least}
use Rattle.groups.specs.Helpers.{is_hit}
use Rattle.groups.specs.Paging.{later}

-- the first frame at or after FN, past the turn to 0 too, that is frame s of a multiframe with the remainder t by p
unfoldable pub first_hit : ℕ → ℕ → ℕ → ℕ → ℕ
first_hit p t s fn = later fn (least (λ d. is_hit p t s (later fn d)) hyperframe 0)
