-- The phone's block: G is I mod n, the TN is twice (I div n) mod K, and the first frame is the one that the code finds. Assumes nothing.
use Prim.Native.Nat.{ℕ, ◌+◌, ◌*◌, ◌/◌, ◌%◌, ◌<◌}
use mathlib.Core.Path.{◌≡◌, ap, ◌∙◌, fun_ext}
use mathlib.Core.Bool.{Bool}
use lib.ListN.{get_or}
use Rattle.answers.specs.Ranges.{hyperframe}
use Rattle.answers.specs.Search.{least}
use Rattle.groups.specs.declared.PagingBlock.{PagingBlock}
use Rattle.groups.specs.Claims.{starts}
use Rattle.groups.specs.Paging.{Common, A, n, r, timeslot, G, block, later, wait, block_for}
use Rattle.groups.proofs.Group.{group, turn}
use Rattle.groups.proofs.PagedFrames.{paged_frames}
use Rattle.paging.specs.Helpers.{first_hit}

-- what the code makes of the phone's group and turn
abbrev made : Common → ℕ → ℕ → ℕ → PagingBlock
made c fn g u = record { tn = 2 * u; block = c.AG + g % A c; frame = first_hit c.P (g / A c) (get_or starts (c.AG + g % A c) 0) fn }

module _ (c : Common) (i fn : ℕ) where
  module _ (hn : 0 < n c) where
    -- what the code computes is the phone's first frame: both tests are the same
    first_frame : later fn (wait c i fn) ≡ first_hit c.P (G c i / A c) (get_or starts (block c i) 0) fn
    unfolding wait first_hit
    first_frame = ap (λ (test : ℕ → Bool). later fn (least (λ d. test (later fn d)) hyperframe 0)) (fun_ext (paged_frames c i hn))

    pub answer : 0 < c.K → block_for c i fn ≡ made c fn (i % n c) (i / n c % c.K)
    unfolding block_for
    answer hk =
        (ap (λ (f : ℕ). record { tn = timeslot c i; block = block c i; frame = f }) first_frame
        ∙ (ap (λ (g : ℕ). made c fn g (r c i / n c)) (group c i hn) ∙ ap (made c fn (i % n c)) (turn c i hn hk)))
