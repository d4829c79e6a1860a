-- specs/Borders.antt computed. Assumes nothing.
use mathlib.Core.Path.{refl}
use Rattle.answers.specs.Outcome.{any_of, decide}
use Rattle.clock.specs.Clock.{prime_of}
use Rattle.clock.specs.Borders.{Borders}

pub borders : Borders
unfolding prime_of decide any_of
borders = record { split = refl; past_split = refl; prime = refl; join = refl; past_join = refl }
