-- What text is put into: an `ArrayVec`, or a lent slice from a place on. Assumes nothing.
use Rattle.std.specs.Prelude.{ℕ, ◌≡◌, List}
use Rattle.wording.specs.Print.{written}

-- what stands in it, how many there is room for in all, and the reference by which it is lent (0 where it is not)
pub record Buffer : Type 0 where
  pub items : List ℕ
  pub room : ℕ
  pub lender : ℕ

-- its room and whose it is are what they were
abbrev pub Kept : Buffer → Buffer → Type 0
Kept before after = (after.room ≡ before.room) × (after.lender ≡ before.lender)

-- a text was written behind what stood in it
abbrev pub Put : Buffer → Buffer → List ℕ → Type 0
Put before after text = (after.items ≡ written before.room before.items text) × Kept before after
