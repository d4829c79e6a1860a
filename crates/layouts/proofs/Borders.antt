-- specs/Borders.antt computed. Assumes nothing.
use mathlib.Core.Path.{refl}
use Rattle.answers.specs.Outcome.{any_of, decide}
use Rattle.answers.specs.Search.{any_below, least}
use Rattle.layouts.specs.Layouts.{bits, normal, frequency_correction, synchronization, dummy, access}
use Rattle.layouts.specs.Rows.{row_of, room, built, taken}
use Rattle.layouts.specs.Bursts.{byte_above_one, build_of, build_normal_of, take_of, take_normal_of}
use Rattle.layouts.specs.Claims.{value}
use Rattle.layouts.specs.Borders.{Borders}

pub borders : Borders
unfolding decide any_of any_below least bits normal frequency_correction synchronization dummy access row_of room built taken byte_above_one build_of build_normal_of take_of take_normal_of value
borders =
    record {
      take_code_7 = refl;
      first_bits = refl;
      training_3 = refl;
      training_6 = refl;
      payload_read = refl;
      payload_written = refl;
      burst_written = refl;
      burst_read = refl;
      payload_bytes = refl;
      burst_bytes = refl;
      byte_of_2 = refl;
      normal_bits = refl;
      synchronization_bits = refl;
      access_bits = refl;
    }
