-- specs/Borders.antt computed. Assumes nothing.
use mathlib.Core.Path.{refl}
use Rattle.answers.specs.Outcome.{any_of, decide}
use Rattle.answers.specs.Search.{all_below, any_below, count_below, least}
use Rattle.hops.specs.Masks.{ones_below, position_at, one_at_or_above, share_one}
use Rattle.hops.specs.Allocation.{is_allocation}
use Rattle.hops.specs.Clash.{clash}
use Rattle.hops.specs.Hopping.{rntable, nbin, S, mai_of, position_of}
use Rattle.maps.specs.Combinations.{combinations, among, rows_among, full_rate, half_rate, uncombined, combined, additional, sdcch8}
use Rattle.maps.specs.Map.{map_of}
use Rattle.maps.specs.Rows.{numbered, each, from, standing}
use Rattle.groups.specs.Paging.{paging_of}
use Rattle.rules.specs.State.{tabulate, closed_line, empty}
use Rattle.rules.specs.Calls.{start_of, open_of, close_of, seize_of, release_of}
use Rattle.rules.specs.OnAir.{owner_of, slot_of, line_of}
use Rattle.rules.specs.Paging.{page_of}
use Rattle.rules.specs.Who.{who_of, match_of}
use Rattle.rules.specs.CollisionFree.{run}
use Rattle.rules.specs.ExampleRun.{refusals}
use Rattle.rules.specs.Borders.{StartBorders, OpenBorders, PlaceBorders, CloseBorders, OwnerBorders, LineBorders, WhoBorders, PageBorders, ZeroBorders, Borders}

start_borders : StartBorders
unfolding from decide any_of all_below any_below is_allocation tabulate closed_line empty start_of
start_borders = record { sizes = refl; arfcns = refl; ascending = refl; c0 = refl; parameters = refl; lowest = refl; cell = refl; refused_by_1 = refl; refused_by_2 = refl; lines = (refl, refl) }

open_borders : OpenBorders
unfolding from refusals decide any_of all_below any_below least ones_below one_at_or_above share_one is_allocation clash combinations among tabulate closed_line empty start_of open_of
open_borders = record { ranges = refl; combinations = refl; masks = refl; maios = refl; longest = refl; twice = refl; clash = refl; ends = refl }

place_borders : PlaceBorders
unfolding refusals decide any_of all_below any_below least ones_below one_at_or_above share_one is_allocation clash combinations among tabulate closed_line empty start_of open_of
place_borders = record { four = refl; five = refl; c0_alone = refl; five_reserved = refl; six = refl; six_alone = refl; six_with_five = refl; six_above = refl; beside_six = refl }

close_borders : CloseBorders
unfolding refusals decide any_of all_below any_below least ones_below one_at_or_above share_one is_allocation clash combinations among tabulate closed_line empty start_of open_of close_of seize_of release_of
close_borders = record { ranges = refl; needed = refl; not_needed = refl; held = refl }

owner_borders : OwnerBorders
unfolding refusals decide any_of all_below any_below least ones_below one_at_or_above share_one is_allocation clash combinations among tabulate closed_line empty start_of open_of close_of seize_of release_of
owner_borders = record { seize_ranges = refl; release_ranges = refl; full_rate = (refl, refl); half_rate = (refl, refl); combined = (refl, refl); sdcch8 = (refl, refl); four = refl; six = refl; held = refl; not_held = refl }

line_borders : LineBorders
unfolding line_of slot_of owner_of position_of map_of standing numbered each from rows_among full_rate half_rate uncombined combined additional sdcch8 rntable nbin S mai_of run decide any_of all_below any_below least ones_below position_at one_at_or_above share_one is_allocation clash combinations among tabulate closed_line empty start_of open_of seize_of
line_borders = record { last_frame = (refl, refl); directions = (refl, refl); number = refl; closed = refl; held = refl; free = refl; common = refl; idle = refl; nowhere = refl }

who_borders : WhoBorders
unfolding who_of match_of slot_of owner_of position_of map_of standing numbered each from rows_among full_rate half_rate uncombined combined additional sdcch8 rntable nbin S mai_of run decide any_of all_below any_below least ones_below position_at one_at_or_above share_one is_allocation clash combinations among tabulate closed_line empty start_of open_of seize_of
who_borders = record { timeslots = (refl, refl); arfcns = (refl, refl); frames = refl; directions = (refl, refl); nobody = (refl, refl) }

page_borders : PageBorders
unfolding page_of paging_of run decide any_of all_below any_below count_below least ones_below one_at_or_above share_one is_allocation clash combinations among tabulate closed_line empty start_of open_of
page_borders = record { ranges = (refl, refl, refl, refl); no_line = (refl, refl); none_open = refl; one = refl; combined = refl; four = refl }

zero_borders : ZeroBorders
unfolding refusals who_of match_of slot_of owner_of position_of map_of standing numbered each from rows_among full_rate half_rate uncombined combined additional sdcch8 rntable nbin S mai_of run decide any_of all_below any_below least ones_below position_at one_at_or_above share_one is_allocation clash combinations among tabulate closed_line empty start_of open_of seize_of line_of
zero_borders = record { last = refl; cell = refl; c0_alone = refl; line = refl; who = refl }

pub borders : Borders
borders =
    record {
      of_start = start_borders;
      of_open = open_borders;
      of_places = place_borders;
      of_close = close_borders;
      of_owners = owner_borders;
      of_line = line_borders;
      of_who = who_borders;
      of_page = page_borders;
      of_zero = zero_borders;
    }
