-- Which transceiver: document 02, No. 2. The statements; proofs/Placed.antt proves them. Assumes nothing.
use Rattle.std.specs.Prelude.{ℕ, ◌≡◌, ◌<◌, List, length, get_or}
use Rattle.answers.specs.Outcome.{accepted}
use Rattle.hops.specs.Masks.{bit, ones, ones_below}
use Rattle.hops.specs.Hopping.{hop_of}
use Rattle.hops.specs.Handset.{AsRead}
use Rattle.hops.specs.declared.Tuning.{Tuning}

-- what a line with this mask is tuned to in a cell with this CA
pub record Placed (ca : List ℕ) (mask : ℕ) (t : Tuning) : Type 0 where
  -- "each transceiver stays on one CA position": the position is one of CA
  pub within : t.position < length ca
  -- "The position is the one whose CA entry is the ARFCN": its entry is, and no other's
  pub entry : get_or ca t.position 0 ≡ t.arfcn
  pub only : (p : ℕ) → p < length ca → get_or ca p 0 ≡ t.arfcn → p ≡ t.position
  -- "and its bit in the mask is one"
  pub one : bit mask t.position ≡ 1
  -- MAI, 0 to N − 1: document 01, "the mask's one bit that has MAI ones below it"
  pub rank : ones_below mask t.position ≡ t.mai
  pub below : t.mai < ones mask
  -- document 02, No. 3: "A cell with ARFCN 0 is compared with 04.08 from then on": MAI in the list that a handset makes of the mask's ARFCNs
  pub read : AsRead ca mask t

-- of every accepted hop
unfoldable pub HopsArePlaced : Type 0
HopsArePlaced = (ca : List ℕ) (m hsn maio fn : ℕ) (t : Tuning) → hop_of ca m hsn maio fn ≡ accepted t → Placed ca m t
