-- Two rows of document 01's drill sheet: "T3 taken for T' where M' isn't below N" and "NBIN one too small when N is a power of two" give other
-- ARFCNs. Assumes nothing.
use mathlib.Core.Path.{◌≡◌, refl}
use mathlib.Core.List.{[], ◌∷◌}
use Rattle.answers.specs.Outcome.{accepted, decide, any_of}
use Rattle.answers.specs.Search.{all_below, any_below, least}
use Rattle.hops.specs.Masks.{ones_below, position_at, one_at_or_above}
use Rattle.hops.specs.Allocation.{is_allocation}
use Rattle.hops.specs.Hopping.{rntable, nbin, S, mai_of, hop_of}

-- "CA is 10, 20, 30, 40. .. Mask 7: .. HSN 1, MAIO 0: .. FN 4: 10. .. Mask 15, HSN 1, MAIO 0, FN 3: 30."
pub drill : (hop_of (10 ∷ 20 ∷ 30 ∷ 40 ∷ []) 7 1 0 4 ≡ accepted (record { arfcn = 10; mai = 0; position = 0 })) × (hop_of (10 ∷ 20 ∷ 30 ∷ 40 ∷ []) 15 1 0 3 ≡ accepted (record { arfcn = 30; mai = 2; position = 2 }))
unfolding decide any_of all_below any_below least ones_below position_at one_at_or_above is_allocation rntable nbin S mai_of hop_of
drill = (refl, refl)
