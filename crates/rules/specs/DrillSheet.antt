-- Document 01's drill sheet as a single fact over the definitions: all its rows, in its order, and the same rows asked of a cell. Each ARFCN comes
-- with MAI and the CA position (document 02, No. 2). Assumes nothing.
use Rattle.std.specs.Prelude.{ℕ, ◌≤◌, ◌≡◌, false, List, [], ◌∷◌}
use Rattle.std.proofs.Math.Option.{none, some}
use Rattle.answers.specs.Outcome.{accepted}
use Rattle.clock.specs.Clock.{split_of, join_of}
use Rattle.hops.specs.Hopping.{hop_of}
use Rattle.hops.specs.declared.Tuning.{Tuning}
use Rattle.maps.specs.declared.Kind.TheVariants.{Tch, Sacch, Sdcch, Ccch, Rach}
use Rattle.maps.specs.Channels.{at}
use Rattle.maps.specs.Map.{map_of}
use Rattle.groups.specs.Paging.{paging_of}
use Rattle.rules.specs.State.{Cell}
use Rattle.rules.specs.Calls.{start_of}
use Rattle.rules.specs.OnAir.{Slot, line_of}
use Rattle.rules.specs.Paging.{page_of}
use Rattle.rules.specs.Who.{who_of}
use Rattle.rules.specs.History.{Call, opens, seizes}
use Rattle.rules.specs.CollisionFree.{run, begin}
use Rattle.rules.specs.ExampleRun.{refusals, values, sent}

-- "CA is 10, 20, 30, 40"
abbrev pub ca : List ℕ
ca = 10 ∷ 20 ∷ 30 ∷ 40 ∷ []

-- "I = 123"
abbrev pub imsi : List ℕ
imsi = 1 ∷ 2 ∷ 3 ∷ []

-- an ARFCN, with MAI and the position
abbrev pub tuning : ℕ → ℕ → ℕ → Tuning
tuning arfcn mai ca_position = record { arfcn = arfcn; mai = mai; position = ca_position }

-- the rows asked of a cell: C0 10, BCC 0, AG 1, P 5, as in the last row
abbrev pub empty : Cell
empty = (start_of ca 10 0 1 5).cell

-- its lines have the masks, HSNs, MAIOs and combinations that the rows name, and subchannel 5 of the SDCCH/8 has an owner
abbrev pub calls : List Call
calls =
    opens 0 (values 0 1 0 0 4 0)
    ∷ opens 1 (values 1 7 0 2 1 3)
    ∷ opens 2 (values 1 8 0 0 2 3)
    ∷ opens 3 (values 2 7 1 0 1 3)
    ∷ opens 4 (values 2 7 1 1 1 3)
    ∷ opens 5 (values 3 15 1 0 7 3)
    ∷ seizes 5 5 77
    ∷ []

abbrev pub traffic : Cell
traffic = (run (begin empty) calls).cell

-- a cell whose common line is a 5, for the rows on it
abbrev pub combined_calls : List Call
combined_calls = opens 0 (values 0 1 0 0 5 0) ∷ seizes 0 3 78 ∷ []

abbrev pub combined : Cell
combined = (run (begin empty) combined_calls).cell

-- what line 1 of `traffic` has in frame 5
abbrev pub cyclic_slot : Slot
cyclic_slot = sent 20 1 1 (at Tch 0 1 1 ∷ at Tch 0 0 5 ∷ []) 0

pub record DrillSheet : Type 0 where
  -- "FN 2,715,647 is (2047, 25, 50); (0, 25, 0) is FN 51"
  pub last_frame : split_of 2715647 ≡ accepted (record { t1 = 2047; t2 = 25; t3 = 50 })
  pub frame_51 : join_of 0 25 0 ≡ accepted 51
  -- "Mask 7: HSN 0, MAIO 2, FN 5: 20"
  pub cyclic : hop_of ca 7 0 2 5 ≡ accepted (tuning 20 1 1)
  -- "HSN 1, MAIO 0: FN 0: 30, FN 2: 30, FN 4: 10. HSN 1, MAIO 1, FN 0: 10"
  pub mask_7_fn_0 : hop_of ca 7 1 0 0 ≡ accepted (tuning 30 2 2)
  pub mask_7_fn_2 : hop_of ca 7 1 0 2 ≡ accepted (tuning 30 2 2)
  pub mask_7_fn_4 : hop_of ca 7 1 0 4 ≡ accepted (tuning 10 0 0)
  pub mask_7_maio_1 : hop_of ca 7 1 1 0 ≡ accepted (tuning 10 0 0)
  -- "Mask 15, HSN 1, MAIO 0, FN 3: 30"
  pub mask_15 : hop_of ca 15 1 0 3 ≡ accepted (tuning 30 2 2)
  -- "Combination 1, TN 1: FN 25 SACCH place 0, FN 12 idle"
  pub full_rate_sacch : (d : ℕ) → d ≤ 1 → map_of 1 1 25 d ≡ accepted (at Sacch 0 0 0 ∷ [])
  pub full_rate_idle : (d : ℕ) → d ≤ 1 → map_of 1 1 12 d ≡ accepted []
  -- "Combination 2, TN 1, FN 12: SACCH s = 0 place 0"
  pub half_rate_sacch : (d : ℕ) → d ≤ 1 → map_of 2 1 12 d ≡ accepted (at Sacch 0 0 0 ∷ [])
  -- "Combination 7, U, FN 102: SACCH s = 5 place 0"
  pub sdcch8_sacch : (tn : ℕ) → tn ≤ 7 → map_of 7 tn 102 1 ≡ accepted (at Sacch 5 0 0 ∷ [])
  -- "Combination 5, U: FN 13 SACCH s = 3 place 3; FN 14 RACH block 2; FN 64 SACCH s = 1 place 3"
  pub combined_fn_13 : (tn : ℕ) → tn ≤ 7 → map_of 5 tn 13 1 ≡ accepted (at Sacch 3 0 3 ∷ [])
  pub combined_fn_14 : (tn : ℕ) → tn ≤ 7 → map_of 5 tn 14 1 ≡ accepted (at Rach 0 2 0 ∷ [])
  pub combined_fn_64 : (tn : ℕ) → tn ≤ 7 → map_of 5 tn 64 1 ≡ accepted (at Sacch 1 0 3 ∷ [])
  -- "I = 123, K = 1, a line of combination 4, AG 1, P 5, FN 0: TN 0, block 4, frame 26"
  pub paged : paging_of (record { K = 1; combined = false; AG = 1; P = 5 }) imsi 0 ≡ accepted (record { tn = 0; block = 4; frame = 26 })
  -- the same, asked of a cell
  pub accepted_start : (start_of ca 10 0 1 5).refusal ≡ none
  pub accepted_calls : refusals empty calls ≡ none ∷ none ∷ none ∷ none ∷ none ∷ none ∷ none ∷ []
  pub accepted_combined : refusals empty combined_calls ≡ none ∷ none ∷ []
  pub line_cyclic : line_of traffic 1 5 0 ≡ accepted cyclic_slot
  pub line_mask_7_fn_0 : line_of traffic 3 0 0 ≡ accepted (sent 30 2 2 (at Tch 0 0 0 ∷ at Tch 0 5 4 ∷ []) 0)
  pub line_mask_7_fn_2 : line_of traffic 3 2 0 ≡ accepted (sent 30 2 2 (at Tch 0 0 2 ∷ at Tch 0 5 6 ∷ []) 0)
  pub line_mask_7_fn_4 : line_of traffic 3 4 0 ≡ accepted (sent 10 0 0 (at Tch 0 1 0 ∷ at Tch 0 0 4 ∷ []) 0)
  pub line_mask_7_maio_1 : line_of traffic 4 0 0 ≡ accepted (sent 10 0 0 (at Tch 0 0 0 ∷ at Tch 0 5 4 ∷ []) 0)
  pub line_mask_15 : line_of traffic 5 3 0 ≡ accepted (sent 30 2 2 (at Sdcch 0 0 3 ∷ []) 0)
  pub line_full_rate_sacch : line_of traffic 1 25 0 ≡ accepted (sent 10 0 0 (at Sacch 0 0 0 ∷ []) 0)
  pub line_full_rate_idle : line_of traffic 1 12 0 ≡ accepted (sent 30 2 2 [] 0)
  pub line_half_rate_sacch : line_of traffic 2 12 0 ≡ accepted (sent 40 0 3 (at Sacch 0 0 0 ∷ []) 0)
  pub line_sdcch8_sacch : line_of traffic 5 102 1 ≡ accepted (sent 30 2 2 (at Sacch 5 0 0 ∷ []) 77)
  pub line_combined_fn_13 : line_of combined 0 13 1 ≡ accepted (sent 10 0 0 (at Sacch 3 0 3 ∷ []) 78)
  pub line_combined_fn_14 : line_of combined 0 14 1 ≡ accepted (sent 10 0 0 (at Rach 0 2 0 ∷ []) 0)
  pub line_combined_fn_64 : line_of combined 0 64 1 ≡ accepted (sent 10 0 0 (at Sacch 1 0 3 ∷ []) 0)
  pub page_asked : page_of traffic imsi 0 ≡ accepted (record { tn = 0; block = 4; frame = 26 })
  -- that block on the air
  pub line_paged : line_of traffic 0 26 0 ≡ accepted (sent 10 0 0 (at Ccch 0 4 0 ∷ []) 0)
  -- not of the sheet: who sends what `line_cyclic` has, and an ARFCN that nobody has in that frame
  pub who_cyclic : who_of traffic 1 20 5 0 ≡ accepted (some (record { line = 1; slot = cyclic_slot }))
  pub who_nobody : who_of traffic 1 10 5 0 ≡ accepted none
