-- The examples hold, by computation. Assumes nothing.
use mathlib.Core.Path.{refl}
use Rattle.answers.specs.Outcome.{decide, any_of}
use Rattle.clock.specs.Clock.{prime_of}
use Rattle.maps.specs.Numbers.{standing_numbers}
use Rattle.c_answers.specs.Examples.{Examples}

pub examples : Examples
unfolding decide any_of prime_of standing_numbers
examples =
    record {
      clash_with_line_1 = refl;
      bit_61_differs = refl;
      out_of_range = refl;
      no_refusal = refl;
      frame_11 = refl;
      frame_12 = refl;
      past_the_last = refl;
      frame_51 = refl;
      t1_2048 = refl;
      position_63 = refl;
      no_position = refl;
      arfcn_1023 = refl;
      no_arfcn = refl;
      full_rate = refl;
      idle = refl;
      closed = refl;
      tn_8 = refl;
      no_line = refl;
    }
