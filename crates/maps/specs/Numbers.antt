-- The answer of `map` in eight numbers, and these as the eight bytes of one number. Assumes nothing.
use Rattle.std.specs.Prelude.{ℕ, ◌+◌, ◌*◌, ◌/◌, ◌%◌, ◌^◌, cond, List, [], ◌∷◌, eqb}
use Rattle.answers.specs.Outcome.{Outcome, refused, accepted}
use Rattle.maps.specs.Channels.{Standing, kind_number, kind_at, at}

-- `channel` is 0 for idle; as many blocks and places as `blocks` says
pub record Numbers : Type 0 where
  pub refusal : ℕ
  pub channel : ℕ
  pub subchannel : ℕ
  pub blocks : ℕ
  pub block : ℕ
  pub place : ℕ
  pub block2 : ℕ
  pub place2 : ℕ

-- all 0 but the refusal
abbrev pub no_numbers : ℕ → Numbers
no_numbers refusal = record { refusal = refusal; channel = 0; subchannel = 0; blocks = 0; block = 0; place = 0; block2 = 0; place2 = 0 }

-- nothing stands in the frame: idle. One row, or the two of a TCH burst (a third never stands there: `standing_back`)
unfoldable pub standing_numbers : List Standing → Numbers
standing_numbers [] = no_numbers 0
standing_numbers (x ∷ []) = record { refusal = 0; channel = kind_number x.kind; subchannel = x.subchannel; blocks = 1; block = x.block; place = x.place; block2 = 0; place2 = 0 }
standing_numbers (x ∷ y ∷ more) = record { refusal = 0; channel = kind_number x.kind; subchannel = x.subchannel; blocks = 2; block = x.block; place = x.place; block2 = y.block; place2 = y.place }

-- where the call is refused, `refusal` is document 01's number and all else is 0; where it is accepted, `refusal` is 0
unfoldable pub numbers_of : Outcome (List Standing) → Numbers
numbers_of (refused r) = no_numbers r.number
numbers_of (accepted xs) = standing_numbers xs

-- the first is the lowest byte
abbrev pub bytes : Numbers → ℕ
bytes n =
    n.refusal
    + 256 * (n.channel + 256 * (n.subchannel + 256 * (n.blocks + 256 * (n.block + 256 * (n.place + 256 * (n.block2 + 256 * n.place2))))))

-- ---- from the bytes back

abbrev pub byte_at : ℕ → ℕ → ℕ
byte_at x i = x / 2 ^ (8 * i) % 256

abbrev pub numbers_at : ℕ → Numbers
numbers_at x =
    record { refusal = byte_at x 0; channel = byte_at x 1; subchannel = byte_at x 2; blocks = byte_at x 3; block = byte_at x 4; place = byte_at x 5; block2 = byte_at x 6; place2 = byte_at x 7 }

-- what stands in a frame with these numbers
unfoldable pub standing_of : Numbers → List Standing
standing_of n =
    cond (eqb n.channel 0) []
    (at (kind_at n.channel) n.subchannel n.block n.place
    ∷ cond (eqb n.blocks 2) (at (kind_at n.channel) n.subchannel n.block2 n.place2 ∷ []) [])
