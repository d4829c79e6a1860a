-- The words that hold a cell: storage that the caller lends, and only the calls look into. Assumes nothing.
use Rattle.std.specs.Prelude.{ℕ, ◌+◌, ◌*◌, ◌^◌, ◌<◌, ◌≡◌, List, length, get_or}
use Rattle.answers.specs.Ranges.{ca_room, line_count}
use Rattle.rules.specs.State.{LineState, Cell, tabulate, owner_room}

abbrev pub word : List ℕ → ℕ → ℕ
word words k = get_or words k 0

-- 64 words of CA and five numbers, and then fifteen words for each line
abbrev pub place_of : ℕ → ℕ
place_of n = 69 + 15 * n

-- line n: its mask in two words, the lower half first, its five numbers, and its owners
unfoldable pub line_in : List ℕ → ℕ → LineState
line_in words n =
    record { mask = at 0 + 2 ^ 32 * at 1; tn = at 2; hsn = at 3; maio = at 4; combination = at 5; tsc = at 6; owners = tabulate owner_room (λ s. at (7 + s)) }
  where
    at : ℕ → ℕ
    at k = word words (place_of n + k)

-- the cell that the words hold
unfoldable pub cell_of : List ℕ → Cell
cell_of words =
    record { ca = tabulate ca_room (word words); size = word words 64; c0 = word words 65; bcc = word words 66; ag = word words 67; p = word words 68; lines = tabulate line_count (line_in words) }

-- the storage of a cell: 1,029 words of 32 bits
pub record Stored (words : List ℕ) : Type 0 where
  pub count : length words ≡ 1029
  pub fit : (k : ℕ) → word words k < 2 ^ 32

-- Storage that holds one cell is the same in every word: where a call leaves the cell as it came, no word has changed. proofs/Storage.antt proves it
unfoldable pub SameWords : Type 0
SameWords = (v w : List ℕ) → Stored v → Stored w → cell_of v ≡ cell_of w → v ≡ w
