-- Two phones of a cell with one common line of combination 4, AG 1 and P 5: the drill sheet's, and one whose next block is past the turn.
-- Assumes nothing.
use Prim.Native.Nat.{ℕ}
use mathlib.Core.Path.{◌≡◌, refl, ap}
use mathlib.Core.Bool.{false}
use mathlib.Core.List.{[], ◌∷◌}
use lib.Dec.{lit<}
use Rattle.answers.specs.Outcome.{accepted, any_of, decide}
use Rattle.answers.specs.Search.{all_below}
use Rattle.maps.specs.Combinations.{uncombined, combinations, rows_among}
use Rattle.maps.specs.Rows.{numbered, standing}
use Rattle.groups.specs.declared.PagingBlock.{PagingBlock}
use Rattle.groups.specs.Paging.{Common, any_burst, begins, is_paged, later, block_for, paging_of}
use Rattle.groups.proofs.FirstBlock.{given_wait}

abbrev pub one_line : Common
one_line = record { K = 1; combined = false; AG = 1; P = 5 }

-- the phone's block 4 begins d frames after FN
abbrev block_4 : ℕ → ℕ → PagingBlock
block_4 fn d = record { tn = 0; block = 4; frame = later fn d }

-- I = 131 has G = 11, so its multiframes are 1, 6, .. up to 53,246, and then 1 again: no remainder of 53,248 by 5 is carried over
pub drill : (paging_of one_line (1 ∷ 2 ∷ 3 ∷ []) 0 ≡ accepted (record { tn = 0; block = 4; frame = 26 }))
    × (paging_of one_line (1 ∷ 3 ∷ 1 ∷ []) 2715647 ≡ accepted (record { tn = 0; block = 4; frame = 77 }))
unfolding decide any_of all_below uncombined combinations rows_among numbered standing any_burst begins is_paged block_for paging_of
drill = (
  ap (λ (d : ℕ). accepted (block_4 0 d)) (given_wait one_line 123 0 26 (lit< tt) refl refl),
  ap (λ (d : ℕ). accepted (block_4 2715647 d)) (given_wait one_line 131 2715647 78 (lit< tt) refl refl),
)
