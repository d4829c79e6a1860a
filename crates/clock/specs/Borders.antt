-- Both sides of each border of the clock, with the exact answers or refusals; proofs/Borders.antt computes them. Assumes nothing.
use Rattle.std.specs.Prelude.{ℕ, ◌≡◌, List, [], ◌∷◌, map}
use Rattle.std.proofs.Math.Option.{Option, none, some}
use Rattle.answers.specs.Outcome.{Outcome, refused, accepted, alone}
use Rattle.clock.specs.declared.Frame.{Frame}
use Rattle.clock.specs.Clock.{prime_of, split_of, join_of}

-- accepted, with T1, T2 and T3
abbrev pub parts : ℕ → ℕ → ℕ → Outcome Frame
parts t1 t2 t3 = accepted (record { t1 = t1; t2 = t2; t3 = t3 })

-- each T3 that has a T3', with the T3 before and after it; then the last T3, and past it
abbrev pub third_counters : List ℕ
third_counters = 0 ∷ 1 ∷ 2 ∷ 10 ∷ 11 ∷ 12 ∷ 20 ∷ 21 ∷ 22 ∷ 30 ∷ 31 ∷ 32 ∷ 40 ∷ 41 ∷ 42 ∷ 50 ∷ 51 ∷ []

abbrev pub primes : List (Option ℕ)
primes =
    none ∷ some 0 ∷ none ∷ none ∷ some 1 ∷ none ∷ none ∷ some 2 ∷ none ∷ none ∷ some 3 ∷ none ∷ none ∷ some 4 ∷ none ∷ none ∷ none ∷ []

pub record Borders : Type 0 where
  -- "FN is 0 to 2,715,647 and returns to 0. T1 = FN div 1326, T2 = FN mod 26, T3 = FN mod 51.": the first FN, the turn of each counter, the last FN
  pub split : map split_of (0 ∷ 25 ∷ 26 ∷ 50 ∷ 51 ∷ 1325 ∷ 1326 ∷ 2715647 ∷ [])
      ≡ parts 0 0 0 ∷ parts 0 25 25 ∷ parts 0 0 26 ∷ parts 0 24 50 ∷ parts 0 25 0 ∷ parts 0 25 50 ∷ parts 1 0 0 ∷ parts 2047 25 50 ∷ []
  -- "3 .. FN .. out of range"
  pub past_split : map split_of (2715648 ∷ 2715649 ∷ []) ≡ refused (alone 3) ∷ refused (alone 3) ∷ []
  -- "T3' = (T3 − 1) div 10, given only where T3 is 1, 11, 21, 31 or 41."
  pub prime : map prime_of third_counters ≡ primes
  -- "Back: FN = 1326 × T1 + 51 × ((T3 − T2) mod 26) + T3, the remainder never negative": T3 less than T2, and each counter's largest value alone
  pub join : join_of 0 0 0 ∷ join_of 0 25 0 ∷ join_of 0 25 25 ∷ join_of 0 25 50 ∷ join_of 2047 0 0 ∷ join_of 0 0 50 ∷ join_of 2047 25 50 ∷ []
      ≡ accepted 0 ∷ accepted 51 ∷ accepted 25 ∷ accepted 1325 ∷ accepted 2714322 ∷ accepted 1274 ∷ accepted 2715647 ∷ []
  -- "14 T1 > 2047, T2 > 25 or T3 > 50"
  pub past_join : join_of 2048 0 0 ∷ join_of 0 26 0 ∷ join_of 0 0 51 ∷ join_of 2048 26 51 ∷ []
      ≡ refused (alone 14) ∷ refused (alone 14) ∷ refused (alone 14) ∷ refused (alone 14) ∷ []
