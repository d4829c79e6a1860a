-- `tdma_map` meets its contract: the bytes of `map_bytes`, one by one. Assumes nothing.
use Prim.Native.Nat.{ℕ, ◌%◌}
use mathlib.Core.Path.{◌≡◌, sym, ap, ◌∙◌}
use mathlib.Core.List.{List}
use Rattle.std.proofs.Math.Nat.{div-one}
use lib.ListN.{get_or}
use Rattle.std.proofs.Common.{w64}
use Rattle.std.specs.Int.{to_le_bytes}
use Rattle.maps.specs.Numbers.{byte_at, numbers_at}
use Rattle.maps.proofs.Range.{map_numbers}
use Rattle.c_answers.specs.declared.TdmaMap.{TdmaMap}
use Rattle.c_answers.specs.Numbers.{map_fields}
use Rattle.tdma.proofs.tdma_map.Goals as goal

-- eight bytes, the lowest first
abbrev fields : List ℕ → TdmaMap
fields b =
    record { refusal = get_or b 0 0; channel = get_or b 1 0; subchannel = get_or b 2 0; blocks = get_or b 3 0; block = get_or b 4 0; place = get_or b 5 0; block2 = get_or b 6 0; place2 = get_or b 7 0 }

-- the lowest byte is the remainder itself
same : (n : ℕ) → fields (to_le_bytes w64 n) ≡ map_fields (numbers_at n)
same n =
    ap (λ (k : ℕ). map_fields (record { refusal = k % 256; channel = byte_at n 1; subchannel = byte_at n 2; blocks = byte_at n 3; block = byte_at n 4; place = byte_at n 5; block2 = byte_at n 6; place2 = byte_at n 7 }))
    (sym (div-one n))

pub returns : goal.returns
returns c =
    ap fields c.to_le_bytes.ensures ∙ same c.map_bytes.result ∙ ap (λ (n : ℕ). map_fields (numbers_at n)) c.map_bytes.ensures ∙ ap map_fields (map_numbers _ _ _ _)
