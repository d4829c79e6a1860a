-- How large the numbers of the hopping sequence become: document 02, No. 4. The statements; proofs/Sums.antt proves them. Assumes nothing.
use Rattle.std.specs.Prelude.{ℕ, ◌+◌, ◌^◌, ◌≡◌, ◌<◌, ◌≤◌, List, [], ◌∷◌}
use Rattle.answers.specs.Outcome.{accepted}
use Rattle.clock.specs.Clock.{parts_of}
use Rattle.hops.specs.Masks.{ones}
use Rattle.hops.specs.Hopping.{M, M', T', S, hop_of}
use Rattle.hops.specs.Borders.{arfcns, all_ones, on}
use Rattle.hops.specs.declared.Tuning.{Tuning}

-- an accepted hop with HSN above 0: of these alone M and the others are computed
pub record RandomHop : Type 0 where
  pub ca : List ℕ
  pub mask : ℕ
  pub hsn : ℕ
  pub maio : ℕ
  pub fn : ℕ
  pub tuning : Tuning
  pub answer : hop_of ca mask hsn maio fn ≡ accepted tuning
  pub random : 0 < hsn

-- N, M, M', T', M' + T' and S
pub record Numbers : Type 0 where
  pub n : ℕ
  pub m : ℕ
  pub m' : ℕ
  pub t' : ℕ
  pub sum : ℕ
  pub s : ℕ

-- those of a mask and an HSN in a frame, as document 01 has them
abbrev pub numbers : ℕ → ℕ → ℕ → Numbers
numbers mask hsn fn =
    record {
      n = ones mask;
      m = M hsn (parts_of fn);
      m' = M' (ones mask) hsn (parts_of fn);
      t' = T' (ones mask) (parts_of fn);
      sum = M' (ones mask) hsn (parts_of fn) + T' (ones mask) (parts_of fn);
      s = S (ones mask) hsn (parts_of fn);
    }

abbrev pub numbers_of : RandomHop → Numbers
numbers_of h = numbers h.mask h.hsn h.fn

-- "Show that M never passes 152 and M' + T' never 177, and that both are reached"
pub record Sums : Type 0 where
  pub m_at_most : (h : RandomHop) → (numbers_of h).m ≤ 152
  pub sum_at_most : (h : RandomHop) → (numbers_of h).sum ≤ 177
  pub m_reached : (h : RandomHop) × ((numbers_of h).m ≡ 152)
  -- by a hop whose S is made of the sum, since M' is not below N
  pub sum_reached : (h : RandomHop) × ((numbers_of h).n ≤ (numbers_of h).m') × ((numbers_of h).sum ≡ 177)
  -- with N = 64 alone
  pub sum_of_64 : (h : RandomHop) → (numbers_of h).sum ≡ 177 → (numbers_of h).n ≡ 64
  -- "M, M', T', M' + T' and S become bytes": each fits in one
  pub bytes : (h : RandomHop)
      → ((numbers_of h).m < 2 ^ 8) × ((numbers_of h).m' < 2 ^ 8) × ((numbers_of h).t' < 2 ^ 8) × ((numbers_of h).sum < 2 ^ 8) × ((numbers_of h).s < 2 ^ 8)
  -- all of them of HSN 7 in FN 25 and of HSN 57 in FN 152, with the mask of 64 ones, and what hop answers
  pub in_numbers : numbers all_ones 7 25 ∷ numbers all_ones 57 152 ∷ []
      ≡ record { n = 64; m = 152; m' = 24; t' = 25; sum = 49; s = 24 } ∷ record { n = 64; m = 127; m' = 127; t' = 50; sum = 177; s = 49 } ∷ []
  pub answered : hop_of (arfcns 64) all_ones 7 0 25 ∷ hop_of (arfcns 64) all_ones 57 0 152 ∷ [] ≡ on 25 24 24 ∷ on 50 49 49 ∷ []
