-- Some answers in plain numbers, computed: proofs/Examples.antt. Assumes nothing.
use Rattle.std.specs.Prelude.{◌≡◌}
use Rattle.std.proofs.Math.Option.{none, some}
use Rattle.answers.specs.Outcome.{refused, accepted, alone}
use Rattle.answers.specs.Refusals.{refusal_of}
use Rattle.answers.specs.declared.Refusal.TheVariants.{OutOfRange, Clash, FixedBit}
use Rattle.clock.specs.Clock.{split_of, join_of}
use Rattle.hops.specs.declared.Tuning.{Tuning}
use Rattle.maps.specs.declared.Kind.TheVariants.{Sacch}
use Rattle.maps.specs.declared.Blocks.TheVariants.{One}
use Rattle.maps.specs.declared.Content.TheVariants.{Channel, Idle}
use Rattle.c_answers.specs.Numbers.{answer_numbers, split_numbers, join_numbers, position_numbers, hop_numbers, told_line, told_who}

-- tuned to the last entry of the longest CA, by the third one of a mask
abbrev pub last_entry : Tuning
last_entry = record { arfcn = 1023; mai = 2; position = 63 }

pub record Examples : Type 0 where
  -- "It comes alone, except 9 and 15": with the line in the way, and with the bit
  pub clash_with_line_1 : answer_numbers (some (refusal_of (Clash 1))) ≡ record { refusal = 9; value = 1 }
  pub bit_61_differs : answer_numbers (some (refusal_of (FixedBit 61))) ≡ record { refusal = 15; value = 61 }
  pub out_of_range : answer_numbers (some (refusal_of OutOfRange)) ≡ record { refusal = 3; value = 0 }
  pub no_refusal : answer_numbers none ≡ record { refusal = 0; value = 0 }
  -- T3' is given at T3 = 11 and not at T3 = 12
  pub frame_11 : split_numbers (split_of 11) ≡ record { refusal = 0; t1 = 0; t2 = 11; t3 = 11; given = 1; prime = 1 }
  pub frame_12 : split_numbers (split_of 12) ≡ record { refusal = 0; t1 = 0; t2 = 12; t3 = 12; given = 0; prime = 0 }
  -- a frame past the last, and a T1 past the last: every number but the refusal is 0
  pub past_the_last : split_numbers (split_of 2715648) ≡ record { refusal = 3; t1 = 0; t2 = 0; t3 = 0; given = 0; prime = 0 }
  pub frame_51 : join_numbers (join_of 0 25 0) ≡ record { refusal = 0; frame = 51 }
  pub t1_2048 : join_numbers (join_of 2048 0 0) ≡ record { refusal = 14; frame = 0 }
  -- MAI and a position, with an ARFCN, and none of them
  pub position_63 : position_numbers (accepted (record { mai = 2; position = 63 })) ≡ record { refusal = 0; position = 63; mai = 2 }
  pub no_position : position_numbers (refused (alone 5)) ≡ record { refusal = 5; position = 0; mai = 0 }
  pub arfcn_1023 : hop_numbers (accepted last_entry) ≡ record { refusal = 0; arfcn = 1023; mai = 2; position = 63 }
  pub no_arfcn : hop_numbers (refused (alone 1)) ≡ record { refusal = 1; arfcn = 0; mai = 0; position = 0 }
  -- what a line sends, and one that is idle: MAI and the position too; refused, and for nobody, every number but the refusal is 0
  pub full_rate : told_line (accepted (record { tuning = last_entry; content = Channel (record { kind = Sacch; subchannel = 1; blocks = One (record { block = 0; place = 3 }) }); owner = 77 }))
      ≡ record { refusal = 0; arfcn = 1023; owner = 77; channel = 2; subchannel = 1; blocks = 1; block = 0; place = 3; block2 = 0; place2 = 0; mai = 2; position = 63 }
  pub idle : told_line (accepted (record { tuning = last_entry; content = Idle; owner = 0 }))
      ≡ record { refusal = 0; arfcn = 1023; owner = 0; channel = 0; subchannel = 0; blocks = 0; block = 0; place = 0; block2 = 0; place2 = 0; mai = 2; position = 63 }
  pub closed : told_line (refused (alone 7))
      ≡ record { refusal = 7; arfcn = 0; owner = 0; channel = 0; subchannel = 0; blocks = 0; block = 0; place = 0; block2 = 0; place2 = 0; mai = 0; position = 0 }
  pub tn_8 : told_who (refused (alone 3))
      ≡ record { refusal = 3; found = 0; line = 0; answer = record { refusal = 0; arfcn = 0; owner = 0; channel = 0; subchannel = 0; blocks = 0; block = 0; place = 0; block2 = 0; place2 = 0; mai = 0; position = 0 } }
  pub no_line : told_who (accepted none)
      ≡ record { refusal = 0; found = 0; line = 0; answer = record { refusal = 0; arfcn = 0; owner = 0; channel = 0; subchannel = 0; blocks = 0; block = 0; place = 0; block2 = 0; place2 = 0; mai = 0; position = 0 } }
