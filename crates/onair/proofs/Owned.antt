-- The owner of what stands in a frame: a burst's kind and subchannel decide, in one block or in two. Assumes nothing.
use Prim.Native.Nat.{ℕ}
use mathlib.Core.Path.{◌≡◌, refl, sym, ap, ◌∙◌}
use mathlib.Core.Bool.{true, false, cond}
use Rattle.maps.specs.declared.Kind.{Kind}
use Rattle.maps.specs.declared.Burst.{Burst}
use Rattle.maps.specs.declared.Blocks.{Blocks}
use Rattle.maps.specs.declared.Blocks.TheVariants.{One, Two}
use Rattle.maps.specs.declared.Content.{Content}
use Rattle.maps.specs.declared.Content.TheVariants.{Channel, Idle}
use Rattle.maps.specs.Channels.{is_common}
use Rattle.maps.specs.Map.{carried, in_blocks}
use Rattle.rules.specs.OnAir.{owner_of}

decides : (owners : ℕ → ℕ) (k : Kind) (s : ℕ) (b : Blocks) → cond (is_common k) 0 (owners s) ≡ owner_of owners (in_blocks k s b)
unfolding owner_of
decides owners k s (One p) = refl
decides owners k s (Two p q) = refl

module _ (owners : ℕ → ℕ) (c : Content) where
  pub owner_common : (b : Burst) → c ≡ Channel b → is_common b.kind ≡ true → 0 ≡ owner_of owners (carried c)
  owner_common b e h = sym (ap (λ t. cond t 0 (owners b.subchannel)) h) ∙ decides owners b.kind b.subchannel b.blocks ∙ ap (λ x. owner_of owners (carried x)) (sym e)

  pub owner_held : (b : Burst) → c ≡ Channel b → is_common b.kind ≡ false → owners b.subchannel ≡ owner_of owners (carried c)
  owner_held b e h = sym (ap (λ t. cond t 0 (owners b.subchannel)) h) ∙ decides owners b.kind b.subchannel b.blocks ∙ ap (λ x. owner_of owners (carried x)) (sym e)

  pub owner_idle : c ≡ Idle → 0 ≡ owner_of owners (carried c)
  unfolding owner_of
  owner_idle e = ap (λ x. owner_of owners (carried x)) (sym e)
