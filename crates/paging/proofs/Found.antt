-- The first frame of a phone's block: the next multiframe is before the turn, or past it. Assumes nothing.
use Prim.Native.Nat.{ℕ, ◌+◌, ◌*◌, ◌≤◌, ◌<◌}
use mathlib.Core.Path.{◌≡◌}
use native.Mathlib.Omega.{arith}
use Rattle.answers.specs.Ranges.{hyperframe}
use Rattle.groups.specs.Helpers.{is_hit}
use Rattle.groups.proofs.FirstHit.{multiframe, Lands, lands_least, hit_next, hit_past}
use Rattle.paging.specs.Helpers.{first_hit}

module _ (p t s fn : ℕ) (ht : t < p) (hs : s < 51) (hf : fn < hyperframe) (hm : t < 53248) where
  found : (f : ℕ) → Lands (is_hit p t s) fn f → first_hit p t s fn ≡ f
  unfolding first_hit
  found f w = lands_least (is_hit p t s) fn f w

  pub before : multiframe p t s fn < 53248 → first_hit p t s fn ≡ multiframe p t s fn * 51 + s
  before h = omega (arith, found _ (hit_next p t s fn ht hs hf hm (omega arith)))

  pub past : 53248 ≤ multiframe p t s fn → first_hit p t s fn ≡ t * 51 + s
  past h = omega (arith, found _ (hit_past p t s fn ht hs hf hm (omega arith)))
