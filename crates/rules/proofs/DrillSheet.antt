-- The drill sheet holds. Assumes nothing.
use Prim.Native.Nat.{ℕ, ◌≤◌}
use mathlib.Core.Path.{◌≡◌, refl, ap, ◌∙◌}
use mathlib.Core.Bool.{true, not}
use lib.Dec.{lit≤}
use borrow.Author.Tests.{le-ltb}
use Rattle.answers.specs.Outcome.{accepted, decide, any_of}
use Rattle.answers.specs.Search.{all_below, any_below, count_below, least}
use Rattle.answers.proofs.Decide.{passes, accepts}
use Rattle.hops.specs.Masks.{ones_below, position_at, one_at_or_above, share_one}
use Rattle.hops.specs.Allocation.{is_allocation}
use Rattle.hops.specs.Hopping.{rntable, nbin, S, mai_of, position_of, hop_of}
use Rattle.hops.specs.Clash.{clash}
use Rattle.maps.specs.Rows.{numbered, each, from, standing}
use Rattle.maps.specs.Combinations.{full_rate, half_rate, uncombined, combined, additional, sdcch8, combinations, among, rows_among, rows_of, is_combination}
use Rattle.maps.specs.Map.{map_of}
use Rattle.groups.specs.Paging.{paging_of}
use Rattle.groups.proofs.Drill.{one_line, drill}
use Rattle.rules.specs.State.{tabulate, closed_line, empty}
use Rattle.rules.specs.Calls.{start_of, open_of, seize_of}
use Rattle.rules.specs.OnAir.{owner_of, slot_of, line_of}
use Rattle.rules.specs.Paging.{common_of, page_of}
use Rattle.rules.specs.Who.{match_of, who_of}
use Rattle.rules.specs.CollisionFree.{run}
use Rattle.rules.specs.ExampleRun.{refusals}
use Rattle.rules.specs.DrillSheet.{imsi, traffic, DrillSheet}

-- a question in range is answered by what stands there
module _ (n tn fn d : ℕ) (t : tn ≤ 7) (f : fn ≤ 2715647) (e : d ≤ 1) where
  in_range : is_combination n ≡ true → map_of n tn fn d ≡ accepted (standing (rows_of n tn d) fn)
  unfolding map_of
  in_range c = passes _ _ _ (ap not c, (le-ltb _ _ t, (le-ltb _ _ f, (le-ltb _ _ e, tt)))) ∙ accepts _

-- what paging takes from the cell. The search for the frame isn't computed here: `drill` has it
one_common_line : common_of traffic ≡ one_line
unfolding run share_one clash tabulate closed_line empty start_of open_of seize_of decide any_of all_below any_below count_below ones_below one_at_or_above is_allocation combinations among
one_common_line = refl

pub drill_sheet : DrillSheet
unfolding who_of match_of page_of line_of slot_of owner_of map_of refusals run share_one clash tabulate closed_line empty start_of open_of seize_of uncombined additional decide any_of all_below any_below least ones_below position_at one_at_or_above is_allocation rntable nbin S mai_of position_of hop_of numbered each from standing full_rate half_rate combined sdcch8 combinations among rows_among
drill_sheet =
    record {
      last_frame = refl;
      frame_51 = refl;
      cyclic = refl;
      mask_7_fn_0 = refl;
      mask_7_fn_2 = refl;
      mask_7_fn_4 = refl;
      mask_7_maio_1 = refl;
      mask_15 = refl;
      full_rate_sacch = λ d h. in_range 1 1 25 d (lit≤ tt) (lit≤ tt) h refl;
      full_rate_idle = λ d h. in_range 1 1 12 d (lit≤ tt) (lit≤ tt) h refl;
      half_rate_sacch = λ d h. in_range 2 1 12 d (lit≤ tt) (lit≤ tt) h refl;
      sdcch8_sacch = λ tn h. in_range 7 tn 102 1 h (lit≤ tt) (lit≤ tt) refl;
      combined_fn_13 = λ tn h. in_range 5 tn 13 1 h (lit≤ tt) (lit≤ tt) refl;
      combined_fn_14 = λ tn h. in_range 5 tn 14 1 h (lit≤ tt) (lit≤ tt) refl;
      combined_fn_64 = λ tn h. in_range 5 tn 64 1 h (lit≤ tt) (lit≤ tt) refl;
      paged = drill.0;
      accepted_start = refl;
      accepted_calls = refl;
      accepted_combined = refl;
      line_cyclic = refl;
      line_mask_7_fn_0 = refl;
      line_mask_7_fn_2 = refl;
      line_mask_7_fn_4 = refl;
      line_mask_7_maio_1 = refl;
      line_mask_15 = refl;
      line_full_rate_sacch = refl;
      line_full_rate_idle = refl;
      line_half_rate_sacch = refl;
      line_sdcch8_sacch = refl;
      line_combined_fn_13 = refl;
      line_combined_fn_14 = refl;
      line_combined_fn_64 = refl;
      page_asked = ap (λ c. paging_of c imsi 0) one_common_line ∙ drill.0;
      line_paged = refl;
      who_cyclic = refl;
      who_nobody = refl;
    }
