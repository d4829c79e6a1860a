-- What building and taking apart come to at each return: malformed, a fixed bit that differs, or accepted. Assumes nothing.
use Prim.Native.Nat.{ℕ}
use mathlib.Core.Path.{◌≡◌, sym, ap, ◌∙◌}
use mathlib.Core.Bool.{true, false}
use mathlib.Core.List.{List, [], ◌∷◌}
use lib.ListN.{length}
use Rattle.answers.specs.Outcome.{alone, any_of}
use Rattle.answers.proofs.Decide.{first, rest, holds_none}
use Rattle.answers.proofs.Search.{any_at, any_none, least_at}
use Rattle.answers.proofs.Tests.{or_left}
use Rattle.std.specs.Prelude.{Some, None}
use Rattle.layouts.specs.Rows.{Row, built, taken, differs}
use Rattle.layouts.specs.Bursts.{written, malformed, build_causes, take_causes, build_of, take_of}
use Rattle.layouts.specs.Claims.{done}
use Rattle.layouts.proofs.Accepted.{no_cause_accepts}
use Rattle.layouts.proofs.WellFormed.{WellFormed, well_formed, turned_away}
use Rattle.bursts.specs.Helpers.{FirstWrong}

-- nothing is malformed: the lengths are right
pub fitting : (row : Row) (burst payload read : List ℕ) → any_of (malformed row burst payload read).conditions ≡ false → WellFormed row burst payload read
fitting row burst payload read h = well_formed row burst payload read (holds_none (malformed row burst payload read).conditions h)

module _ (row : Row) (payload burst : List ℕ) where
  pub build_refuses : any_of (malformed row burst payload payload).conditions ≡ true → turned_away (alone 14) burst ≡ build_of row payload burst
  unfolding build_of
  build_refuses h = sym (ap (written burst) (first _ _ _ h))

  pub build_accepts : any_of (malformed row burst payload payload).conditions ≡ false → done (built row payload) ≡ build_of row payload burst
  unfolding build_of
  build_accepts h = sym (no_cause_accepts burst (built row payload) (build_causes row payload burst) (holds_none (malformed row burst payload payload).conditions h, tt))

module _ (row : Row) (burst payload : List ℕ) where
  pub take_refuses : any_of (malformed row burst payload burst).conditions ≡ true → turned_away (alone 14) payload ≡ take_of row burst payload
  unfolding take_of
  take_refuses h = sym (ap (written payload) (first _ _ _ h))

  pub take_tells : any_of (malformed row burst payload burst).conditions ≡ false → (n : ℕ) → FirstWrong row burst (Some n)
      → turned_away (record { number = 15; values = n ∷ [] }) payload ≡ take_of row burst payload
  unfolding take_of any_of
  take_tells h n w =
      sym (ap (written payload) (rest (malformed row burst payload burst) _ (taken row burst) h ∙ first _ [] (taken row burst) (or_left false (any_at (differs row burst) (length row) n w.0 w.1)))
      ∙ ap (λ (m : ℕ). turned_away (record { number = 15; values = m ∷ [] }) payload) (least_at (differs row burst) (length row) 0 n w.0 w.1 w.2))

  pub take_accepts : any_of (malformed row burst payload burst).conditions ≡ false → FirstWrong row burst None → done (taken row burst) ≡ take_of row burst payload
  unfolding take_of
  take_accepts h w =
      sym (no_cause_accepts payload (taken row burst) (take_causes row burst payload)
      (holds_none (malformed row burst payload burst).conditions h, ((any_none (differs row burst) (length row) w, tt), tt)))
