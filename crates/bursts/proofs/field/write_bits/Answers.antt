-- `field::write_bits` meets its contract: the bytes from k on are the word's last bits, and `rest` is the word without them.
-- Assumes nothing.
use Prim.Native.Nat.{ℕ, suc, ◌-◌, ◌/◌, ◌%◌, ◌^◌, ◌≤◌, ◌<◌}
use mathlib.Core.Path.{◌≡◌, sym, ap, ◌∙◌}
use mathlib.Core.List.{List}
use native.Mathlib.Nat.{div-one}
use native.Mathlib.Omega.{arith}
use lib.ListN.{length, drop, get_or, set, length-set, drop_of_length-le}
use lib.Pow.{shr-shr}
use lib.Seq.{drop-cons, drop-set-lt, get_or-set_same}
use borrow.Author.Rules.{rules}
use Rattle.layouts.specs.Layouts.{bits}
use Rattle.layouts.proofs.Bits.{length_bits, bit_at}
use Rattle.bursts.proofs.field.write_bits.Invariants.{without}
use Rattle.bursts.proofs.field.write_bits.Goals as goal

-- a list whose end is another's has one element more of it, once that is stored before
end_more : (l t : List ℕ) (k m v : ℕ) → m ≡ suc k → k < length l → k < length t → drop m l ≡ drop m t → v ≡ get_or t k 0 → drop k (set l k v) ≡ drop k t
end_more l t k m v next hl ht e ev =
    let e' : drop (suc k) l ≡ drop (suc k) t = rw next at e in
    drop-cons (set l k v) k 0 (simp length-set hl)
    ∙ rw (get_or-set_same l k v 0 hl, drop-set-lt (suc k) l k v (omega arith), e', ev) (sym (drop-cons t k 0 ht))

module _ (n word : ℕ) where
  without_none : word ≡ without n word n
  without_none = let z : n - n ≡ 0 = omega arith in sym (ap (λ (m : ℕ). word / 2 ^ m) z ∙ div-one word)

  without_more : (k : ℕ) → 0 < k → k ≤ n → without n word k / 2 ≡ without n word (k - 1)
  without_more k h l = shr-shr word (n - k) 1 ∙ ap (λ (m : ℕ). word / 2 ^ m) (omega arith)

  last_bit : (k : ℕ) → 0 < k → k ≤ n → without n word k % 2 ≡ get_or (bits n word) (k - 1) 0
  last_bit k h l = sym (bit_at n word (k - 1) (omega arith) ∙ ap (λ (m : ℕ). word / 2 ^ m % 2) (omega arith))

pub loop-k-init : goal.loop-k-init
loop-k-init c =
    let n = length c.args.to.now in
    let word = c.args.word in
    (without_none n word, drop_of_length-le c.args.to.now {i = n} (search rules) ∙ sym (drop_of_length-le (bits n word) {i = n} (omega (arith, length_bits n word))))

pub loop-k-preserved : goal.loop-k-preserved
loop-k-preserved c =
    let n = length c.args.to.now in
    let word = c.args.word in
    let turn = c.loop-k in
    let long = turn.auto.to in (
      ap (λ (m : ℕ). m / 2) turn.invariant.0 ∙ without_more n word turn.k (search rules) (search rules),
      end_more turn.to (bits n word) (turn.k - 1) turn.k _ (search rules) (omega (arith, long)) (omega (arith, length_bits n word)) turn.invariant.1
          (ap (λ (m : ℕ). m % 2) turn.invariant.0 ∙ last_bit n word turn.k (search rules) (search rules)),
    )
