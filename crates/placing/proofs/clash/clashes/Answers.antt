-- `clash::clashes` meets its contract: its tests are the definition's. Assumes nothing.
use mathlib.Core.Path.{refl}
use Rattle.hops.specs.Clash.{clash}
use Rattle.placing.proofs.clash.clashes.Goals as goal

pub returns : goal.returns
unfolding clash
returns c = rw (c.overlap.ensures, c.values_at-line.ensures) refl
