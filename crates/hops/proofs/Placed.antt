-- What a line is tuned to is placed: specs/Placed.antt. Assumes nothing.
use Prim.Native.Nat.{ℕ, ◌<◌}
use mathlib.Core.Path.{◌≡◌, refl, subst}
use mathlib.Core.Bool.{true, false}
use mathlib.Core.List.{List}
use native.Mathlib.Omega.{arith}
use lib.ListN.{length}
use borrow.Author.Tests.{not-false}
use Rattle.answers.proofs.Decide.{accepted_has_none}
use Rattle.hops.specs.Masks.{ones, one_at_or_above}
use Rattle.hops.specs.Allocation.{is_allocation}
use Rattle.hops.specs.Hopping.{mai_of, line_position, line_tuning, hop_causes, hop_of}
use Rattle.hops.specs.Placed.{Placed, HopsArePlaced}
use Rattle.hops.proofs.Bits.{OneAt}
use Rattle.hops.proofs.MobileList.{as_read}
use Rattle.hops.proofs.Apart.{entry_apart, line_one, line_within}
use Rattle.hops.proofs.Claims.{within, maio_below}
use Rattle.hops.proofs.Mai.{mai_lt}

-- of a line that fits in CA
pub line_placed : (ca : List ℕ) (m hsn maio fn : ℕ) → is_allocation ca ≡ true → one_at_or_above m (length ca) ≡ false → maio < ones m
    → Placed ca m (line_tuning ca m hsn maio fn)
line_placed ca m hsn maio fn a w h =
    record {
      within = there;
      entry = refl;
      only = λ p l e. entry_apart ca a p (line_position m hsn maio fn) l there e;
      one = o.one;
      rank = o.rank;
      below = mai_lt (ones m) hsn maio fn (omega arith);
      read = as_read ca m a (line_tuning ca m hsn maio fn) w there refl o.one o.rank;
    }
  where
    o : OneAt m (mai_of (ones m) hsn maio fn) (line_position m hsn maio fn)
    o = line_one m hsn maio fn h

    there : line_position m hsn maio fn < length ca
    there = line_within m hsn maio fn h (length ca) w

pub hops_are_placed : HopsArePlaced
unfolding HopsArePlaced hop_of
hops_are_placed ca m hsn maio fn t e =
    let w = accepted_has_none (line_tuning ca m hsn maio fn) (hop_causes ca m hsn maio fn) t e in
    subst (Placed ca m) w.0
    (line_placed ca m hsn maio fn (not-false _ w.1.0.0) (within (length ca) m hsn maio fn w.1.1) (maio_below (length ca) m hsn maio fn w.1.1))
