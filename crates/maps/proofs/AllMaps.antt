-- A test of what stands in a frame that every map passes, for every combination number, timeslot, direction and frame: computed once over the
-- list of combinations, in the frames after which each map repeats. Assumes nothing.
use Prim.Native.Nat.{ℕ, ◌<◌}
use mathlib.Core.Path.{◌≡◌}
use mathlib.Core.Bool.{Bool, true, false, cond}
use mathlib.Core.List.{List, [], ◌∷◌}
use lib.Dec.{eqb}
use Rattle.answers.specs.Search.{all_below}
use Rattle.answers.proofs.Search.{all_at}
use Rattle.answers.proofs.Tables.{every}
use Rattle.answers.proofs.Tests.{and_left, and_right}
use Rattle.maps.specs.Channels.{Standing}
use Rattle.maps.specs.Rows.{standing}
use Rattle.maps.specs.Combinations.{Combination, combinations, rows_among, rows_of}
use Rattle.maps.proofs.Repeat.{all_frames, every_frame}

module _ (test : List Standing → Bool) where
  -- in every timeslot, direction and frame of a combination
  unfoldable pub passes : Combination → Bool
  passes c = all_below (λ (tn : ℕ). all_below (λ (d : ℕ). all_frames test c.period (c.rows tn d)) 2) 8

  module _ (idle : test [] ≡ true) (tn : ℕ) (hn : tn < 8) (d : ℕ) (hd : d < 2) (fn : ℕ) where
    among : (cs : List Combination) → every passes cs ≡ true → (n : ℕ) → test (standing (rows_among cs n tn d) fn) ≡ true
    unfolding every passes rows_among standing
    among [] e n = idle
    among (c ∷ cs) e n = go (eqb n c.number) (among cs (and_right (passes c) _ e) n)
      where
        in_timeslot : ℕ → Bool
        in_timeslot t = all_below (λ (u : ℕ). all_frames test c.period (c.rows t u)) 2

        go : (b : Bool) → test (standing (rows_among cs n tn d) fn) ≡ true
            → test (standing (cond b (c.rows tn d) (rows_among cs n tn d)) fn) ≡ true
        go true w =
            every_frame test c.period (c.rows tn d)
            (all_at (λ (u : ℕ). all_frames test c.period (c.rows tn u)) 2 (all_at in_timeslot 8 (and_left (passes c) _ e) tn hn) d hd) fn
        go false w = w

    pub all_maps : every passes combinations ≡ true → (n : ℕ) → test (standing (rows_of n tn d) fn) ≡ true
    all_maps e n = among combinations e n
