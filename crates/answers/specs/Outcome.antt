-- What a call comes to: document 01, "Who causes a refusal". Assumes nothing.
use Rattle.std.specs.Prelude.{ℕ, Bool, true, false, ◌&&◌, ◌||◌, cond, List, [], ◌∷◌, ltb}

-- a refusal by its number. "It comes alone, except 9 and 15": those two carry a value
pub record Refused : Type 0 where
  pub number : ℕ
  pub values : List ℕ

-- a call is refused, or accepted with its answer
pub data Outcome (A : Type 0) : Type 0 where
  refused : Refused → Outcome A
  accepted : A → Outcome A

-- a refusal with the conditions of which one is enough
pub record Cause : Type 0 where
  pub refusal : Refused
  pub conditions : List Bool

-- a refusal that comes alone
abbrev pub alone : ℕ → Refused
alone n = record { number = n; values = [] }

-- the cause of a refusal that comes alone
abbrev pub cause : ℕ → List Bool → Cause
cause n conditions = record { refusal = alone n; conditions = conditions }

-- some condition of the list holds
unfoldable pub any_of : List Bool → Bool
any_of [] = false
any_of (b ∷ bs) = b || any_of bs

-- "The lowest number that applies is given, and only if its condition holds": the causes stand in ascending order (`ascending`, a test
-- that is computed for each call), the first with a condition that holds refuses, and where none has one the call is accepted
unfoldable pub decide : {A : Type 0} → List Cause → A → Outcome A
decide [] answer = accepted answer
decide (c ∷ cs) answer = cond (any_of c.conditions) (refused c.refusal) (decide cs answer)

-- each cause's number is above n and above those before it
unfoldable pub ascending_from : ℕ → List Cause → Bool
ascending_from n [] = true
ascending_from n (c ∷ cs) = ltb n c.refusal.number && ascending_from c.refusal.number cs

-- the causes stand in the order of their numbers
abbrev pub ascending : List Cause → Bool
ascending cs = ascending_from 0 cs
