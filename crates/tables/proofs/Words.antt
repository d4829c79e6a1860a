-- What the tables' arms are checked by: each computes at its literal key. Assumes nothing.
use Rattle.std.specs.Prelude.{⊤}
use Rattle.std.proofs.Common.{◌≡◌, ℕ, zero, suc, ◌+◌, ◌*◌, ◌/◌, ◌%◌, ◌∙◌, ap, arith}
use Rattle.tables.specs.Helpers.{control_word, code_of}
use Rattle.maps.specs.Rows.{numbered, each, from, standing}
use Rattle.maps.specs.Combinations.{full_rate, half_rate, uncombined, combined, additional, sdcch8, combinations, rows_among, rows_of}
use Rattle.maps.specs.Numbers.{standing_numbers}

-- opens what the rows compute by at a literal frame
unfoldable pub at_a_frame : ⊤
unfolding code_of standing standing_numbers combinations rows_among full_rate half_rate uncombined combined additional sdcch8 numbered each from
at_a_frame = tt

-- the word of a key that is counted up to: it computes at a literal, and stays short at a variable
abbrev pub counted : ℕ → ℕ → ℕ
counted zero key =
    let rows = rows_of (4 + key / 52) 0 (key / 26 % 2) in
    let at = key % 26 * 4 in
    code_of (standing rows (at + 0))
    + 65536 * (code_of (standing rows (at + 1)) + 65536 * (code_of (standing rows (at + 2)) + 65536 * code_of (standing rows (at + 3))))
counted (suc n) key = counted n (suc key)

counts : (n i : ℕ) → control_word (n + i) ≡ counted n i
unfolding control_word
counts zero i = ap control_word (omega arith)
counts (suc n) i = let e : suc n + i ≡ n + suc i = omega arith in ap control_word e ∙ counts n (suc i)

pub word_at : (key : ℕ) → control_word key ≡ counted key 0
word_at key = ap control_word (omega arith) ∙ counts key 0
