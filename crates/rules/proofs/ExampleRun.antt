-- specs/ExampleRun.antt computed: the answers, what is open and held afterwards, and what the lines send. Assumes nothing.
use mathlib.Core.Path.{refl}
use Rattle.answers.specs.Outcome.{any_of, decide}
use Rattle.answers.specs.Search.{all_below, any_below, least}
use Rattle.hops.specs.Masks.{ones_below, position_at, one_at_or_above, share_one}
use Rattle.hops.specs.Allocation.{is_allocation}
use Rattle.hops.specs.Clash.{clash}
use Rattle.hops.specs.Hopping.{rntable, nbin, S, mai_of, position_of}
use Rattle.maps.specs.Rows.{numbered, each, from, standing}
use Rattle.maps.specs.Combinations.{combinations, among, rows_among, full_rate, half_rate, uncombined, combined, additional, sdcch8}
use Rattle.maps.specs.Map.{map_of}
use Rattle.rules.specs.State.{tabulate, closed_line, empty}
use Rattle.rules.specs.Calls.{start_of, open_of, close_of, seize_of, release_of}
use Rattle.rules.specs.History.{last_accepted, opened_with, since, held_by}
use Rattle.rules.specs.OnAir.{owner_of, slot_of, line_of}
use Rattle.rules.specs.CollisionFree.{run}
use Rattle.rules.specs.ExampleRun.{refusals, ExampleRun}

pub example_run : ExampleRun
unfolding refusals opened_with held_by since last_accepted line_of slot_of owner_of position_of map_of standing numbered each from rows_among full_rate half_rate uncombined combined additional sdcch8 rntable nbin S mai_of run decide any_of all_below any_below least ones_below position_at one_at_or_above share_one is_allocation clash combinations among tabulate closed_line empty start_of open_of close_of seize_of release_of
example_run = record { answers = refl; opened = (refl, refl); held = (refl, refl); slots = (refl, refl, refl); combined_line = (refl, refl) }
