-- Which frames are a phone's: one in each of its multiframes, where the map of the common line in its timeslot has the first burst of its block
-- and nothing else. Assumes nothing.
use Prim.Native.Nat.{ℕ, ◌%◌, ◌<◌}
use mathlib.Core.Path.{◌≡◌, ap}
use mathlib.Core.Bool.{Bool, true, ◌&&◌}
use mathlib.Core.List.{[], ◌∷◌}
use lib.Dec.{eqb}
use lib.ListN.{get_or}
use Rattle.answers.specs.Outcome.{accepted}
use Rattle.answers.specs.Ranges.{hyperframe}
use Rattle.answers.proofs.Tests.{and_right}
use Rattle.maps.specs.declared.Kind.TheVariants.{Ccch}
use Rattle.maps.specs.Channels.{at}
use Rattle.maps.specs.Combinations.{rows_of}
use Rattle.maps.specs.Map.{map_of}
use Rattle.maps.specs.Rows.{standing}
use Rattle.groups.specs.Claims.{starts}
use Rattle.groups.specs.Paging.{Common, n, timeslot, is_multiframe, block, begins, common_in, is_paged}
use Rattle.groups.proofs.BlockFrames as blocks
use Rattle.groups.proofs.Group.{block_below}

-- the common line in the phone's timeslot
abbrev pub common_line : Common → ℕ → ℕ
common_line c i = common_in c.combined (timeslot c i)

module _ (c : Common) (i : ℕ) (hn : 0 < n c) (f : ℕ) where
  pub paged_frames : is_paged c i f ≡ (is_multiframe c i f && eqb (f % 51) (get_or starts (block c i) 0))
  unfolding is_paged
  paged_frames = ap (λ (t : Bool). is_multiframe c i f && t) (blocks.begins_at (blocks.common_has c.combined (timeslot c i)) (timeslot c i) (block c i) (block_below c i hn) f)

  module _ (e : is_paged c i f ≡ true) where
    begun : begins (common_line c i) (timeslot c i) (block c i) f ≡ true
    unfolding is_paged
    begun = and_right (is_multiframe c i f) _ e

    pub stands_alone : standing (rows_of (common_line c i) (timeslot c i) 0) f ≡ at Ccch 0 (block c i) 0 ∷ []
    stands_alone = blocks.stands_alone (blocks.common_has c.combined (timeslot c i)) (timeslot c i) (block c i) (block_below c i hn) f begun

    pub in_map : timeslot c i < 8 → f < hyperframe → map_of (common_line c i) (timeslot c i) f 0 ≡ accepted (at Ccch 0 (block c i) 0 ∷ [])
    in_map = blocks.in_map (blocks.common_has c.combined (timeslot c i)) (timeslot c i) (block c i) (block_below c i hn) f begun
