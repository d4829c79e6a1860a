-- specs/Borders.antt computed. Assumes nothing.
use mathlib.Core.Path.{refl}
use Rattle.answers.specs.Outcome.{any_of, decide}
use Rattle.answers.specs.Search.{all_below, any_below, least}
use Rattle.hops.specs.Masks.{ones_below, position_at, one_at_or_above, share_one}
use Rattle.hops.specs.Allocation.{is_allocation}
use Rattle.hops.specs.Hopping.{rntable, nbin, S, mai_of, position_of, hop_of}
use Rattle.hops.specs.Clash.{clash}
use Rattle.hops.specs.Borders.{Borders}

pub borders : Borders
unfolding decide any_of all_below any_below least ones_below position_at one_at_or_above share_one is_allocation rntable nbin S mai_of position_of hop_of clash
borders =
    record {
      allocation = refl;
      no_allocation = refl;
      zero_last = refl;
      zero_out_of_place = refl;
      zero_in_mask = refl;
      zero_at_63 = refl;
      no_length = refl;
      ranges = refl;
      mask = refl;
      no_mask = refl;
      maio = refl;
      no_maio = refl;
      lowest_of_hop = refl;
      lowest_of_position = refl;
      cyclic = refl;
      random = refl;
      random_63 = refl;
      bits = refl;
      holes = refl;
      entries = refl;
      clashes = refl;
      no_clash = refl;
    }
