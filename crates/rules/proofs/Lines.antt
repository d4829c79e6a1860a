-- What the calls' tests show of a line: that it is open or closed, and that a subchannel has room; and what it sends, by its parts. Assumes nothing.
use Prim.Native.Nat.{ℕ, ◌≤◌}
use mathlib.Core.Path.{◌≡◌, sym, ap, ◌∙◌}
use mathlib.Core.Bool.{Bool, true, false, not, ◌&&◌, cond}
use mathlib.Core.List.{List}
use lib.Dec.{eqb, lit≤}
use borrow.Author.Tests.{eq-eqb, ne_eqb}
use Rattle.hops.specs.declared.Tuning.{Tuning}
use Rattle.maps.specs.Channels.{Standing}
use Rattle.rules.specs.Calls.{subchannels}
use Rattle.rules.specs.OnAir.{Slot}

-- a line of combination 0 is closed, any other is open: `is_open` of the combination
pub closed_by_combination : {combination : ℕ} → combination ≡ 0 → not (eqb combination 0) ≡ false
closed_by_combination e = ap not (eq-eqb _ _ e)

pub open_line : {combination : ℕ} → (combination ≡ 0 → ⊥) → not (eqb combination 0) ≡ true
open_line e = ap not (ne_eqb _ _ e)

-- no combination has more subchannels than a line has room for
pub has_room : (combination : ℕ) → subchannels combination ≤ 8
has_room k = go (eqb k 1) (eqb k 2) (eqb k 5) (eqb k 7)
  where
    go : (a b c d : Bool) → cond a 1 (cond b 2 (cond c 4 (cond d 8 0))) ≤ 8
    go true b c d = lit≤ {m = 1} {n = 8} tt
    go false true c d = lit≤ {m = 2} {n = 8} tt
    go false false true d = lit≤ {m = 4} {n = 8} tt
    go false false false true = lit≤ {m = 8} {n = 8} tt
    go false false false false = lit≤ {m = 0} {n = 8} tt

-- a slot by its parts
pub same_slot : {a b : Tuning} {xs ys : List Standing} {o p : ℕ} → a ≡ b → xs ≡ ys → o ≡ p
    → ◌≡◌ {A = Slot} (record { tuning = a; standing = xs; owner = o }) (record { tuning = b; standing = ys; owner = p })
same_slot e f g = cc

-- tests one after the other: the first fails, or the next decides
pub fails : (a y : Bool) → a ≡ false → false ≡ (a && y)
fails a y p = sym (ap (λ (t : Bool). t && y) p)

pub decides : (a x y : Bool) → a ≡ true → x ≡ y → x ≡ (a && y)
decides a x y p e = e ∙ sym (ap (λ (t : Bool). t && y) p)
