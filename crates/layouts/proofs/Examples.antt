-- specs/Examples.antt computed. Assumes nothing.
use mathlib.Core.Path.{refl}
use Rattle.answers.specs.Outcome.{any_of, decide}
use Rattle.answers.specs.Search.{any_below, least}
use Rattle.layouts.specs.Layouts.{bits, normal, frequency_correction, access}
use Rattle.layouts.specs.Rows.{row_of, room, built, taken}
use Rattle.layouts.specs.Bursts.{byte_above_one, build_of, build_normal_of, take_of, take_normal_of}
use Rattle.layouts.specs.Examples.{CallExamples}

pub calls : CallExamples
unfolding decide any_of any_below least bits normal frequency_correction access row_of room built taken byte_above_one build_of build_normal_of take_of take_normal_of
calls =
    record {
      frequency_correction = refl;
      code_7 = refl;
      code_8 = refl;
      take_code_8 = refl;
      short_payload = refl;
      long_payload = refl;
      short_burst = refl;
      long_burst = refl;
      first_byte = refl;
      last_byte = refl;
      lowest_bit = refl;
      short_and_wrong = refl;
      there_and_back = refl;
    }
