-- What the helpers of the code compute. No part of what is promised to a caller. Assumes nothing.
use Rattle.std.specs.Prelude.{ℕ, ◌+◌, ◌-◌, ◌*◌, ◌/◌, ◌%◌, cond, not, ◌&&◌, List, [], ◌∷◌, eqb}
use Rattle.std.specs.Int.Bits.{bit_and}
use Rattle.maps.specs.Channels.{Standing, kind_number}
use Rattle.maps.specs.Rows.{standing}
use Rattle.maps.specs.Combinations.{rows_of}
use Rattle.maps.specs.Numbers.{standing_numbers, bytes}

-- ---- 4 to 7

-- one row in four hexadecimal digits, the lowest last: 4 * block + place (two digits), subchannel, channel
unfoldable pub code_of : List Standing → ℕ
code_of [] = 0
code_of (x ∷ more) = kind_number x.kind + 16 * (x.subchannel + 16 * (x.place + 4 * x.block))

-- the codes of four frames, the first lowest, in the order of the frames in 4 downlink, 4 uplink, 5 downlink and so on, 26 words each
unfoldable pub control_word : ℕ → ℕ
control_word key = here 0 + 65536 * (here 1 + 65536 * (here 2 + 65536 * here 3))
  where
    here : ℕ → ℕ
    here i = code_of (standing (rows_of (4 + key / 52) 0 (key / 26 % 2)) (key % 26 * 4 + i))

-- a code's digits as bytes
unfoldable pub spread_of : ℕ → ℕ
spread_of code =
    code % 16 * 256 + code / 16 % 16 * 65536 + cond (eqb (code % 16) 0) 0 16777216 + code / 1024 % 64 * 4294967296
    + code / 256 % 4 * 1099511627776

-- ---- 1 and 2

-- the bytes of timeslot 0 in each h of 1, then of 2
unfoldable pub traffic_word : ℕ → ℕ
traffic_word key = bytes (standing_numbers (standing (rows_of (1 + key / 26) 0 0) (key % 26)))

-- the bytes of the frames h = 12 (half 0) and h = 25 (half 1), at full rate (0) or half rate (1)
unfoldable pub sacch_bytes : ℕ → ℕ → ℕ → ℕ → ℕ
sacch_bytes rate tn turn half =
    cond (eqb rate 0 && not (eqb half (tn % 2))) 0
    (16777728 + bit_and half rate * 65536 + (turn + 4 - tn % 8 / 2) % 4 * 1099511627776)
