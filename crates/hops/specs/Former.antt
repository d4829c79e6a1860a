-- The order of a cell allocation as it was before document 02, No. 3, and that "all other cells and the drill sheet keep their numbers". The statement; proofs/Former.antt proves it. Assumes nothing.
use Rattle.std.specs.Prelude.{ℕ, ◌-◌, ◌≡◌, Bool, true, false, not, ◌&&◌, ◌||◌, List, [], ◌∷◌, ltb, eqb, length, get_or, map}
use Rattle.answers.specs.Outcome.{Outcome, Cause, cause, decide}
use Rattle.answers.specs.Ranges.{no_arfcn, no_size}
use Rattle.answers.specs.Search.{all_below}
use Rattle.hops.specs.Allocation.{is_allocation, lists}
use Rattle.hops.specs.Hopping.{line_tuning, hopping_causes, hop_of}
use Rattle.hops.specs.declared.Tuning.{Tuning}

-- "strictly ascending", with 0 first
abbrev pub former_in_place : List ℕ → ℕ → Bool
former_in_place ca k = not (no_arfcn (get_or ca k 0)) && (eqb k 0 || ltb (get_or ca (k - 1) 0) (get_or ca k 0))

unfoldable pub former_allocation : List ℕ → Bool
former_allocation ca = not (no_size (length ca)) && all_below (former_in_place ca) (length ca)

abbrev pub former_allocation_cause : List ℕ → Cause
former_allocation_cause ca = cause 1 (not (former_allocation ca) ∷ [])

unfoldable pub former_hop_of : List ℕ → ℕ → ℕ → ℕ → ℕ → Outcome Tuning
former_hop_of ca m hsn maio fn = decide (former_allocation_cause ca ∷ hopping_causes (length ca) m hsn maio fn) (line_tuning ca m hsn maio fn)

-- of every list without ARFCN 0
pub record OthersAsBefore : Type 0 where
  pub allocation : (ca : List ℕ) → lists ca 0 ≡ false → is_allocation ca ≡ former_allocation ca
  pub hop : (ca : List ℕ) (m hsn maio fn : ℕ) → lists ca 0 ≡ false → hop_of ca m hsn maio fn ≡ former_hop_of ca m hsn maio fn
  -- of lists with it [0] alone stays what it was
  pub former : map former_allocation ((0 ∷ []) ∷ (0 ∷ 5 ∷ []) ∷ (5 ∷ 0 ∷ []) ∷ []) ≡ true ∷ true ∷ false ∷ []
  pub now : map is_allocation ((0 ∷ []) ∷ (0 ∷ 5 ∷ []) ∷ (5 ∷ 0 ∷ []) ∷ []) ≡ true ∷ false ∷ true ∷ []
