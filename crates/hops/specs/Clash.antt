-- When two lines clash: document 01, refusal 9. Assumes nothing.
use Rattle.std.specs.Prelude.{ℕ, Bool, not, ◌&&◌, eqb}
use Rattle.hops.specs.Masks.{share_one}

-- where a line stands on the air: its timeslot, mobile allocation, HSN and MAIO
pub record Physical : Type 0 where
  pub tn : ℕ
  pub mask : ℕ
  pub hsn : ℕ
  pub maio : ℕ

-- "Two lines clash if TN is equal, the masks share a one, and it isn't so that masks and HSN are equal and MAIO differ"
unfoldable pub clash : Physical → Physical → Bool
clash v w =
    eqb v.tn w.tn && share_one v.mask w.mask
    && not (eqb v.mask w.mask && eqb v.hsn w.hsn && not (eqb v.maio w.maio))
