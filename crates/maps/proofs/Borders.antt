-- specs/Borders.antt computed. Assumes nothing.
use mathlib.Core.Path.{refl}
use Rattle.answers.specs.Outcome.{any_of, decide}
use Rattle.maps.specs.Rows.{numbered, each, from, standing}
use Rattle.maps.specs.Combinations.{full_rate, half_rate, uncombined, combined, additional, sdcch8, combinations, among, rows_among}
use Rattle.maps.specs.Map.{map_of}
use Rattle.maps.specs.Numbers.{standing_numbers, numbers_of}
use Rattle.maps.specs.Borders.{Borders}

pub borders : Borders
unfolding decide any_of numbered each from standing full_rate half_rate uncombined combined additional sdcch8 combinations among rows_among map_of standing_numbers numbers_of
borders =
    record {
      combinations = refl;
      timeslots = refl;
      frames = refl;
      directions = refl;
      full_rate = refl;
      half_rate = refl;
      combined = refl;
      combined_up = refl;
      dedicated = refl;
      dedicated_up = refl;
      kinds = refl;
      in_numbers = refl;
    }
