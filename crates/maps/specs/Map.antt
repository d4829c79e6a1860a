-- The frame map: what stands in a frame, and when the question is refused. Assumes nothing.
use Rattle.std.specs.Prelude.{ℕ, Bool, not, List, [], ◌∷◌}
use Rattle.answers.specs.Outcome.{Outcome, Cause, cause, decide}
use Rattle.answers.specs.Ranges.{no_tn, no_fn, no_direction}
use Rattle.maps.specs.declared.Blocks.{Blocks}
use Rattle.maps.specs.declared.Blocks.TheVariants.{One, Two}
use Rattle.maps.specs.declared.Content.{Content}
use Rattle.maps.specs.declared.Content.TheVariants.{Idle, Channel}
use Rattle.maps.specs.declared.Kind.{Kind}
use Rattle.maps.specs.Channels.{Standing, at}
use Rattle.maps.specs.Rows.{standing}
use Rattle.maps.specs.Combinations.{is_combination, rows_of}

-- "3 .. TN, .. combination, .. FN, direction (0 D, 1 U) .. out of range"
abbrev pub out_of_range : ℕ → ℕ → ℕ → ℕ → List Bool
out_of_range combination tn fn direction = not (is_combination combination) ∷ no_tn tn ∷ no_fn fn ∷ no_direction direction ∷ []

abbrev pub map_causes : ℕ → ℕ → ℕ → ℕ → List Cause
map_causes combination tn fn direction = cause 3 (out_of_range combination tn fn direction) ∷ []

-- everything that stands in frame fn
unfoldable pub map_of : ℕ → ℕ → ℕ → ℕ → Outcome (List Standing)
map_of combination tn fn direction = decide (map_causes combination tn fn direction) (standing (rows_of combination tn direction) fn)

-- what the content of a frame says

abbrev pub in_blocks : Kind → ℕ → Blocks → List Standing
in_blocks kind s (One p) = at kind s p.block p.place ∷ []
in_blocks kind s (Two p q) = at kind s p.block p.place ∷ at kind s q.block q.place ∷ []

abbrev pub carried : Content → List Standing
carried Idle = []
carried (Channel b) = in_blocks b.kind b.subchannel b.blocks
