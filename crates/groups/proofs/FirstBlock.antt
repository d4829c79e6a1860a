-- The first frame at or after FN in which a phone's block begins: there is one, none is before it, and past the turn it is in multiframe
-- G div A, whether or not P divides the 53,248 multiframes. Assumes nothing.
use Prim.Native.Nat.{ℕ, ◌+◌, ◌*◌, ◌/◌, ◌≤◌, ◌<◌}
use mathlib.Core.Path.{◌≡◌, sym, ◌∙◌, subst}
use mathlib.Core.Bool.{Bool, true, false, not}
use native.Mathlib.Nat.{div-le_self}
use native.Mathlib.Omega.{arith}
use lib.ListN.{get_or}
use borrow.Author.Tests.{not-true}
use Rattle.answers.specs.Ranges.{hyperframe}
use Rattle.answers.specs.Search.{all_below}
use Rattle.answers.proofs.Search.{all_at, least_at, First, least_first}
use Rattle.answers.proofs.Tests.{not_both}
use Rattle.groups.specs.Claims.{starts}
use Rattle.groups.specs.Helpers.{is_hit}
use Rattle.groups.specs.Paging.{Common, A, n, G, block, is_paged, later, wait}
use Rattle.groups.proofs.BlockFrames.{start_below}
use Rattle.groups.proofs.FirstHit.{Lands, lands_least, multiframe, hit, hit_first}
use Rattle.groups.proofs.Group.{group_multiframe, group_small}
use Rattle.groups.proofs.PagedFrames.{paged_frames}
use Rattle.groups.proofs.Remainders.{next_remainder}

-- a wait is the one in which the block begins at its end and not before
pub given_wait : (c : Common) (i fn d : ℕ) → d < hyperframe → is_paged c i (later fn d) ≡ true
    → all_below (λ (e : ℕ). not (is_paged c i (later fn e))) d ≡ true → wait c i fn ≡ d
unfolding wait
given_wait c i fn d h t a =
    least_at (λ (e : ℕ). is_paged c i (later fn e)) hyperframe 0 d h t
    (λ k l. not-true _ (all_at (λ (e : ℕ). not (is_paged c i (later fn e))) d a k l))

-- the block begins in this frame, and not before it from FN on
pub record FirstBlock (c : Common) (i fn : ℕ) : Type 0 where
  pub begins : is_paged c i (later fn (wait c i fn)) ≡ true
  pub within : wait c i fn < hyperframe
  pub none_before : (d : ℕ) → d < wait c i fn → is_paged c i (later fn d) ≡ false

module _ (c : Common) (i : ℕ) where
  -- the phone's frames: frame s of the multiframes with the remainder t
  abbrev t : ℕ
  t = G c i / A c

  abbrev s : ℕ
  s = get_or starts (block c i) 0

  abbrev hits : ℕ → Bool
  hits = is_hit c.P t s

  -- the next of these multiframes by that frame, were there no turn
  abbrev q : ℕ → ℕ
  q fn = multiframe c.P t s fn

module _ (c : Common) (i fn : ℕ) (hn : 0 < n c) (hi : i < 1000) (hf : fn < hyperframe) where
  as_paged : {f : ℕ} → Lands (hits c i) fn f → Lands (is_paged c i) fn f
  as_paged w =
      record {
        first =
            record {
              place = w.first.place;
              below = w.first.below;
              passes = paged_frames c i hn _ ∙ w.first.passes;
              none = λ k l. paged_frames c i hn (later fn k) ∙ w.first.none k l;
            };
        lands = w.lands;
      }

  -- the first frame is before the turn, or past it
  by_cases : (P : Type 0) → (q c i fn < 53248 → Lands (hits c i) fn (51 * q c i fn + s c i) → P) → (53248 ≤ q c i fn → Lands (hits c i) fn (51 * t c i + s c i) → P)
      → P
  by_cases P =
      hit_first c.P (t c i) (s c i) fn (group_multiframe c i hn) (start_below (block c i)) hf
      (omega (arith, div-le_self (G c i) (A c), group_small c i hn)) P

  pub first : FirstBlock c i fn
  unfolding wait
  first = by_cases (FirstBlock c i fn) (λ h w. found (as_paged w).first) (λ h w. found (as_paged w).first)
    where
      test : ℕ → Bool
      test d = is_paged c i (later fn d)

      found : First test hyperframe → FirstBlock c i fn
      found w =
          let e : w.place ≡ wait c i fn = sym (least_first test hyperframe 0 w) in
          record {
            begins = subst (λ (d : ℕ). test d ≡ true) e w.passes;
            within = subst (λ (d : ℕ). d < hyperframe) e w.below;
            none_before = subst (λ (m : ℕ). (d : ℕ) → d < m → test d ≡ false) e w.none;
          }

  -- where no frame up to the turn is the phone's, its first one is that of multiframe G div A
  pub past_turn : ((f : ℕ) → fn ≤ f → f < hyperframe → is_paged c i f ≡ false) → later fn (wait c i fn) ≡ 51 * (G c i / A c) + get_or starts (block c i) 0
  unfolding wait
  past_turn none = by_cases _ before (λ h w. lands_least (is_paged c i) fn _ (as_paged w))
    where
      before : q c i fn < 53248 → Lands (hits c i) fn (51 * q c i fn + s c i) → later fn (wait c i fn) ≡ 51 * t c i + s c i
      before h w =
          let l = start_below (block c i) in
          let m = group_multiframe c i hn in
          not_both (paged_frames c i hn (51 * q c i fn + s c i) ∙ hit c.P (t c i) (s c i) fn m l (q c i fn) (next_remainder _ (t c i) c.P m))
          (none (51 * q c i fn + s c i) (omega arith) (omega arith))
