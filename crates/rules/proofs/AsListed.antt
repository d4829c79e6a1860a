-- The cell that an accepted call leaves is the one that the history says, if the cell before was. Assumes nothing.
use Prim.Native.Nat.{ℕ, ◌<◌}
use mathlib.Core.Path.{◌≡◌, refl, sym, ap, ◌∙◌}
use mathlib.Core.Bool.{false, ◌&&◌}
use mathlib.Core.List.{List, ◌∷◌}
use mathlib.Core.Option.{Option, some}
use lib.Dec.{eqb}
use lib.ListN.{set}
use Rattle.answers.specs.Ranges.{line_count}
use Rattle.rules.specs.State.{Cell, LineState, Values, tabulate, owner_room, line_with, free, closed_line, line_at}
use Rattle.rules.specs.Calls.{with_line, with_owner}
use Rattle.rules.specs.History.{Call, opens, closes, Made, opens_or_closes, seizes_or_releases, opened_with, since, last_accepted, owner_in, held_by, line_or, cell_from}
use Rattle.rules.proofs.Tabulate.{tabulate_at, tabulate_set}
use Rattle.rules.proofs.History.{was_accepted, was_refused, listed, line_same, listed_same, named_opened, named_held, other_opened, other_held, owner_named, owner_beside, owner_elsewhere, still_opened}

module _ (first : Cell) (past : List Made) where
  abbrev before : Cell
  before = cell_from first past

  -- line n of the cell that the history says
  pub line_listed : (n : ℕ) → n < line_count → line_at before n ≡ listed past n
  unfolding cell_from
  line_listed n h = tabulate_at line_count (listed past) _ n h

  -- a refused call
  pub refused_listed : (x : Call) → before ≡ cell_from first (was_refused x ∷ past)
  unfolding cell_from opened_with held_by since last_accepted
  refused_listed x = refl

  -- a history that differs in line n alone
  one_line : (m : Made) (n : ℕ) (l : LineState) → listed (m ∷ past) n ≡ l → ((k : ℕ) → (k ≡ n → ⊥) → listed past k ≡ listed (m ∷ past) k)
      → with_line before n l ≡ cell_from first (m ∷ past)
  unfolding cell_from
  one_line m n l e d =
      ap (λ (ls : List LineState). record { ca = first.ca; size = first.size; c0 = first.c0; bcc = first.bcc; ag = first.ag; p = first.p; lines = ls })
      (ap (λ (x : LineState). set (tabulate line_count (listed past)) n x) (sym e) ∙ tabulate_set line_count (listed past) (listed (m ∷ past)) n (λ k h q. d k q))

  -- ---- open and close

  module _ (x : Call) (n : ℕ) (names : (k : ℕ) → opens_or_closes k x ≡ eqb n k) (neither : (k s : ℕ) → seizes_or_releases k s x ≡ false) where
    others : (k : ℕ) → (k ≡ n → ⊥) → listed past k ≡ listed (was_accepted x ∷ past) k
    others k d = listed_same past (was_accepted x ∷ past) k (sym (other_opened past x n names k d)) (λ s. sym (other_held past x n names k s d (neither k s)))

  pub opened_listed : (n : ℕ) (v : Values) → with_line before n (line_with v free) ≡ cell_from first (was_accepted (opens n v) ∷ past)
  opened_listed n v =
      one_line (was_accepted (opens n v)) n (line_with v free)
      (ap (λ (o : Option Values). line_or o (held_by (was_accepted (opens n v) ∷ past) n)) (named_opened past (opens n v) n (λ k. refl))
      ∙ line_same v (held_by (was_accepted (opens n v) ∷ past) n) free (λ s h. named_held past (opens n v) n (λ k. refl) s))
      (others (opens n v) n (λ k. refl) (λ k s. refl))

  pub closed_listed : (n : ℕ) → with_line before n closed_line ≡ cell_from first (was_accepted (closes n) ∷ past)
  closed_listed n =
      one_line (was_accepted (closes n)) n closed_line
      (ap (λ (o : Option Values). line_or o (held_by (was_accepted (closes n) ∷ past) n)) (named_opened past (closes n) n (λ k. refl)))
      (others (closes n) n (λ k. refl) (λ k s. refl))

  -- ---- seize and release

  module _ (x : Call) (n s : ℕ) (names : (k t : ℕ) → seizes_or_releases k t x ≡ (eqb n k && eqb s t)) (neither : (k : ℕ) → opens_or_closes k x ≡ false) (v : Values) (h : n < line_count) (e : opened_with past n ≡ some v) where
    pub owner_listed : with_line before n (with_owner (line_at before n) s (owner_in (some x))) ≡ cell_from first (was_accepted x ∷ past)
    owner_listed =
        one_line (was_accepted x) n (with_owner (line_at before n) s (owner_in (some x))) there
        (λ k d. listed_same past (was_accepted x ∷ past) k (sym (still_opened past x n s names neither k)) (λ t. sym (owner_elsewhere past x n s names neither k t d)))
      where
        after : List Made
        after = was_accepted x ∷ past

        line_before : line_at before n ≡ line_with v (held_by past n)
        line_before = line_listed n h ∙ ap (λ (o : Option Values). line_or o (held_by past n)) e

        owners : set (tabulate owner_room (held_by past n)) s (held_by after n s) ≡ tabulate owner_room (held_by after n)
        owners = tabulate_set owner_room (held_by past n) (held_by after n) s (λ t l d. sym (owner_beside past x n s names neither t d))

        with_owners : List ℕ → LineState
        with_owners os = record { mask = v.mask; tn = v.tn; hsn = v.hsn; maio = v.maio; combination = v.combination; tsc = v.tsc; owners = os }

        there : listed after n ≡ with_owner (line_at before n) s (owner_in (some x))
        there =
            ap (λ (o : Option Values). line_or o (held_by after n)) (still_opened past x n s names neither n ∙ e)
            ∙ (ap with_owners (sym owners)
            ∙ (ap (λ (o : ℕ). with_owners (set (tabulate owner_room (held_by past n)) s o)) (owner_named past x n s names neither)
            ∙ ap (λ (l : LineState). with_owner l s (owner_in (some x))) (sym line_before)))
