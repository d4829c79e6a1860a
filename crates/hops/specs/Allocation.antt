-- The cell allocation: document 01, "Hopping (6.2)"; its order: document 02, No. 3. Assumes nothing.
use Rattle.std.specs.Prelude.{ℕ, ◌-◌, Bool, not, ◌&&◌, ◌||◌, List, [], ◌∷◌, ltb, eqb, length, get_or}
use Rattle.answers.specs.Outcome.{Cause, cause}
use Rattle.answers.specs.Ranges.{no_arfcn, no_size}
use Rattle.answers.specs.Search.{all_below, any_below}

-- the order in which the cell allocation lists its ARFCNs: "ARFCN 0 last, after all others in ascending order"
abbrev pub precedes : ℕ → ℕ → Bool
precedes a b = not (eqb a 0) && (eqb b 0 || ltb a b)

-- entry k is an ARFCN and comes after the entry before it
abbrev pub in_place : List ℕ → ℕ → Bool
in_place ca k = not (no_arfcn (get_or ca k 0)) && (eqb k 0 || precedes (get_or ca (k - 1) 0) (get_or ca k 0))

-- "The cell allocation CA is 1 to 64 ARFCNs, strictly ascending", in that order: "CA takes that order"
unfoldable pub is_allocation : List ℕ → Bool
is_allocation ca = not (no_size (length ca)) && all_below (in_place ca) (length ca)

-- "1 CA isn't as above.": "refusal 1 is given by it"
abbrev pub allocation_cause : List ℕ → Cause
allocation_cause ca = cause 1 (not (is_allocation ca) ∷ [])

-- some entry of the list is the ARFCN
abbrev pub lists : List ℕ → ℕ → Bool
lists ca arfcn = any_below (λ k. eqb (get_or ca k 0) arfcn) (length ca)
