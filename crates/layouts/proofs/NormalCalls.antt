-- The calls for normal bursts: a TSC above 7 is refused first, and below 8 they are those of the row. Assumes nothing.
use Prim.Native.Nat.{ℕ, ◌<◌}
use mathlib.Core.Path.{◌≡◌, sym, ap, ◌∙◌, subst}
use mathlib.Core.List.{List, []}
use native.Mathlib.Decide.{dec_lt}
use native.Mathlib.Omega.{arith}
use borrow.Author.Tests.{lt-ltb, le-ltb}
use Rattle.answers.specs.Outcome.{Outcome, refused, accepted, alone}
use Rattle.answers.proofs.Decide.{stops, passes, accepts}
use Rattle.layouts.specs.Layouts.{normal}
use Rattle.layouts.specs.Rows.{Row, row_of, built, taken}
use Rattle.layouts.specs.Bursts.{Written, written, no_code, normal_of, build_causes, take_causes, build_of, take_of, build_normal_of, take_normal_of}
use Rattle.layouts.proofs.WellFormed.{turned_away}

module _ (tsc : ℕ) (h : 7 < tsc) where
  pub normal_refuses : refused (alone 3) ≡ normal_of tsc
  normal_refuses = sym (stops (no_code tsc) [] (row_of (normal tsc)) 0 (lt-ltb 7 tsc h))

  pub build_normal_refuses : (payload burst : List ℕ) → turned_away (alone 3) burst ≡ build_normal_of tsc payload burst
  unfolding build_normal_of
  build_normal_refuses payload burst = sym (ap (written burst) (stops _ _ _ 0 (lt-ltb 7 tsc h)))

  pub take_normal_refuses : (burst payload : List ℕ) → turned_away (alone 3) payload ≡ take_normal_of tsc burst payload
  unfolding take_normal_of
  take_normal_refuses burst payload = sym (ap (written payload) (stops _ _ _ 0 (lt-ltb 7 tsc h)))

module _ (tsc : ℕ) (h : tsc < 8) where
  pub normal_accepts : accepted (row_of (normal tsc)) ≡ normal_of tsc
  normal_accepts = sym (passes (no_code tsc) [] (row_of (normal tsc)) (le-ltb 7 tsc (omega arith), tt) ∙ accepts (row_of (normal tsc)))

  pub build_normal_is : (payload burst : List ℕ) → build_normal_of tsc payload burst ≡ build_of (row_of (normal tsc)) payload burst
  unfolding build_normal_of build_of
  build_normal_is payload burst =
      ap (written burst) (passes (no_code tsc) (build_causes (row_of (normal tsc)) payload burst) (built (row_of (normal tsc)) payload) (le-ltb 7 tsc (omega arith), tt))

  pub take_normal_is : (burst payload : List ℕ) → take_normal_of tsc burst payload ≡ take_of (row_of (normal tsc)) burst payload
  unfolding take_normal_of take_of
  take_normal_is burst payload =
      ap (written payload) (passes (no_code tsc) (take_causes (row_of (normal tsc)) burst payload) (taken (row_of (normal tsc)) burst) (le-ltb 7 tsc (omega arith), tt))

-- from these the check finds what the two calls come to, by what the code has for `normal_of`
pub ruleset normal_calls = (normal_refuses, normal_accepts, build_normal_refuses, build_normal_is, take_normal_refuses, take_normal_is)

-- a call is refused as the outcome is, or is that of its row
abbrev pub Follows : (List ℕ → List ℕ → Written) → (Row → List ℕ → List ℕ → Written) → Outcome Row → Type 0
Follows call of_row (refused r) = (read lent : List ℕ) → turned_away r lent ≡ call read lent
Follows call of_row (accepted row) = (read lent : List ℕ) → of_row row read lent ≡ call read lent

-- so it is of the calls for normal bursts and of what the code has for `normal_of`
module _ (tsc : ℕ) (o : Outcome Row) (e : o ≡ normal_of tsc) where
  either : (P : Outcome Row → Type 0) → (7 < tsc → P (refused (alone 3))) → (tsc < 8 → P (accepted (row_of (normal tsc)))) → P o
  either P above below = go (dec_lt tsc 8)
    where
      go : Dec (tsc < 8) → P o
      go (yes h) = subst P (normal_accepts tsc h ∙ sym e) (below h)
      go (no h) = subst P (normal_refuses tsc (omega arith) ∙ sym e) (above (omega arith))

  pub build_follows : Follows (build_normal_of tsc) build_of o
  build_follows = either (Follows (build_normal_of tsc) build_of) (λ h. build_normal_refuses tsc h) (λ h payload burst. sym (build_normal_is tsc h payload burst))

  pub take_follows : Follows (take_normal_of tsc) take_of o
  take_follows = either (Follows (take_normal_of tsc) take_of) (λ h. take_normal_refuses tsc h) (λ h burst payload. sym (take_normal_is tsc h burst payload))
