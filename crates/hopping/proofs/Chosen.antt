-- From MAI, or its refusal, to the position that it selects: where MAI is given, the mask has a one with so many below it. Assumes nothing.
use Prim.Native.Nat.{ℕ}
use mathlib.Core.Path.{◌≡◌, sym, ap, ◌∙◌}
use mathlib.Core.Bool.{Bool, cond}
use native.Mathlib.Omega.{arith}
use borrow.Author.Tests.{lt-ltb}
use Rattle.answers.specs.Outcome.{Refused, refused, accepted, decide}
use Rattle.answers.specs.Claims.{NoCause}
use Rattle.answers.proofs.Decide.{answered, decide_answered, accepted_has_none}
use Rattle.hops.specs.Masks.{ones}
use Rattle.hops.specs.Hopping.{mai_of, line_position, line_selection, hopping_causes}
use Rattle.hops.proofs.Claims.{maio_below}
use Rattle.hops.proofs.Mai.{mai_lt}
use Rattle.select.specs.Helpers.{select_of}

module _ (size m hsn maio fn : ℕ) where
  -- what is answered hangs on the causes alone, whatever the answer is
  of_mai : decide (hopping_causes size m hsn maio fn) (line_selection m hsn maio fn)
      ≡ answered (λ (k : ℕ). line_selection m hsn maio fn) (decide (hopping_causes size m hsn maio fn) (mai_of (ones m) hsn maio fn))
  of_mai = decide_answered (λ (k : ℕ). line_selection m hsn maio fn) (hopping_causes size m hsn maio fn) (mai_of (ones m) hsn maio fn)

  pub refused_alike : (r : Refused) → refused r ≡ decide (hopping_causes size m hsn maio fn) (mai_of (ones m) hsn maio fn)
      → refused r ≡ decide (hopping_causes size m hsn maio fn) (line_selection m hsn maio fn)
  refused_alike r e = ap (answered (λ (k : ℕ). line_selection m hsn maio fn)) e ∙ sym of_mai

  pub selected : (mai : ℕ) → accepted mai ≡ decide (hopping_causes size m hsn maio fn) (mai_of (ones m) hsn maio fn)
      → accepted (record { mai = mai; position = select_of m mai }) ≡ decide (hopping_causes size m hsn maio fn) (line_selection m hsn maio fn)
  selected mai e =
      ap (λ (k : ℕ). accepted (record { mai = k; position = select_of m k })) (sym w.0)
      ∙ (ap (λ (p : ℕ). accepted (record { mai = mai_of (ones m) hsn maio fn; position = p })) there
      ∙ (ap (answered (λ (k : ℕ). line_selection m hsn maio fn)) e ∙ sym of_mai))
    where
      w : (mai_of (ones m) hsn maio fn ≡ mai) × NoCause (hopping_causes size m hsn maio fn)
      w = accepted_has_none (mai_of (ones m) hsn maio fn) (hopping_causes size m hsn maio fn) mai (sym e)

      there : select_of m (mai_of (ones m) hsn maio fn) ≡ line_position m hsn maio fn
      there =
          let l = maio_below size m hsn maio fn w.1 in
          ap (λ (t : Bool). cond t (line_position m hsn maio fn) 63) (lt-ltb _ _ (mai_lt (ones m) hsn maio fn (omega arith)))
