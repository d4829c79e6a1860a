-- What stands in the bursts that are built is what is printed: training codes, sequences, mixed bits, tail bits, and the table of clause 5.2.3.
-- Assumes nothing.
use Prim.Native.Nat.{ℕ, zero, suc, ◌%◌, ◌^◌}
use mathlib.Core.Path.{◌≡◌, refl, sym, ap, ◌∙◌}
use native.Mathlib.Nat.{mod-one, mod-eq_of_lt}
use native.Mathlib.Numerals.{one-add}
use native.Mathlib.Omega.{arith}
use lib.ListN.{get_or}
use lib.Pow.{mod-pow-add}
use Rattle.answers.proofs.Tables.{every, at_most}
use Rattle.layouts.specs.Layouts.{bits, training_codes, normal, synchronization, dummy, access}
use Rattle.layouts.specs.Rows.{row_of, built}
use Rattle.layouts.specs.Claims.{value, Printed, Tails, StandardRows}
use Rattle.layouts.proofs.Bits.{length_bits}

-- n bits of a number are worth its remainder by 2 ^ n
pub value_bits : (n word : ℕ) → value (bits n word) ≡ word % 2 ^ n
unfolding bits value
value_bits zero word = sym (mod-one word)
value_bits (suc n) word = rw (length_bits n word, value_bits n word) (sym (ap (λ (k : ℕ). word % 2 ^ k) (sym (one-add n)) ∙ mod-pow-add word 1 n))

-- every code fits 16 bits: one test over the table
code_fits : (tsc : ℕ) → get_or training_codes tsc 0 % 2 ^ 16 ≡ get_or training_codes tsc 0
unfolding every
code_fits tsc = mod-eq_of_lt (let h = at_most 65535 training_codes refl tsc in omega arith)

pub printed : Printed
unfolding row_of built bits normal synchronization dummy access value
printed =
    record {
      training = λ tsc payload. value_bits 16 (get_or training_codes tsc 0) ∙ code_fits tsc;
      repeat = λ tsc payload. refl;
      extended_training = λ payload. refl;
      synch_sequence = λ payload. refl;
      synch_last = λ payload. refl;
      mixed = refl;
      mixed_last = refl;
    }

pub tails : Tails
unfolding row_of built bits normal synchronization dummy access
tails =
    record {
      normal = λ tsc payload. (refl, refl);
      synchronization = λ payload. (refl, refl);
      dummy = (refl, refl);
      access = λ payload. (refl, refl);
    }

pub standard_rows : StandardRows
unfolding bits
standard_rows = record { row_0 = refl; row_1 = refl; row_2 = refl; row_4 = refl; row_5 = refl; row_7 = refl }
