-- specs/Borders.antt computed; where a page is accepted, by the frames that its block waits. Assumes nothing.
use Prim.Native.Nat.{ℕ, ◌<◌}
use mathlib.Core.Path.{◌≡◌, refl, ap}
use mathlib.Core.Bool.{true, false, not}
use lib.Dec.{lit<}
use Rattle.answers.specs.Outcome.{any_of, decide}
use Rattle.answers.specs.Ranges.{hyperframe}
use Rattle.answers.specs.Search.{all_below}
use Rattle.maps.specs.Combinations.{uncombined, combined, additional, combinations, rows_among}
use Rattle.maps.specs.Rows.{numbered, standing}
use Rattle.groups.specs.Paging.{Common, timeslot, block, any_burst, begins, is_paged, later, wait, block_for, paging_of}
use Rattle.groups.specs.Borders.{given, lines, five, to, Borders}
use Rattle.groups.proofs.FirstBlock.{given_wait}

-- the phone's block begins d frames after FN, and not before
waited : (c : Common) (i fn d : ℕ) → d < hyperframe → is_paged c i (later fn d) ≡ true → all_below (λ e. not (is_paged c i (later fn e))) d ≡ true
    → to (timeslot c i) (block c i) (later fn (wait c i fn)) ≡ to (timeslot c i) (block c i) (later fn d)
waited c i fn d h t a = ap (λ (e : ℕ). to (timeslot c i) (block c i) (later fn e)) (given_wait c i fn d h t a)

pub borders : Borders
unfolding decide any_of all_below uncombined combined additional combinations rows_among numbered standing any_burst begins is_paged block_for paging_of
borders =
    record {
      imsi = (
        waited (lines 1) 0 0 6 (lit< tt) refl refl,
        waited (lines 1) 17 0 97 (lit< tt) refl refl,
        waited (lines 1) 999 0 57 (lit< tt) refl refl,
        waited (lines 1) 123 0 87 (lit< tt) refl refl,
      );
      no_imsi = refl;
      last_frame = waited (lines 1) 0 2715647 7 (lit< tt) refl refl;
      past_the_last = refl;
      parameters = refl;
      last_ag = (waited (given 1 false 7 2) 0 0 42 (lit< tt) refl refl, waited (given 1 false 7 9) 0 0 42 (lit< tt) refl refl);
      misplaced = refl;
      lowest = refl;
      no_line = refl;
      on_four = (
        waited (lines 4) 8 0 46 (lit< tt) refl refl,
        waited (lines 4) 9 0 57 (lit< tt) refl refl,
        waited (lines 4) 17 0 97 (lit< tt) refl refl,
      );
      on_six = (
        waited (lines 4) 18 0 6 (lit< tt) refl refl,
        waited (lines 4) 35 0 97 (lit< tt) refl refl,
        waited (lines 4) 36 0 6 (lit< tt) refl refl,
        waited (lines 4) 54 0 6 (lit< tt) refl refl,
        waited (lines 4) 71 0 97 (lit< tt) refl refl,
        waited (lines 4) 72 0 6 (lit< tt) refl refl,
      );
      on_five = (
        waited (five 0) 2 0 16 (lit< tt) refl refl,
        waited (five 0) 3 0 57 (lit< tt) refl refl,
        waited (five 0) 5 0 67 (lit< tt) refl refl,
        waited (five 0) 6 0 6 (lit< tt) refl refl,
        waited (five 1) 0 0 12 (lit< tt) refl refl,
        waited (five 2) 0 0 16 (lit< tt) refl refl,
        waited (five 2) 1 0 67 (lit< tt) refl refl,
      );
      at_or_after = (
        waited (lines 1) 0 6 0 (lit< tt) refl refl,
        waited (lines 1) 0 7 101 (lit< tt) refl refl,
        waited (lines 1) 0 2715552 0 (lit< tt) refl refl,
        waited (lines 1) 0 2715553 101 (lit< tt) refl refl,
      );
      common_lines = refl;
    }
