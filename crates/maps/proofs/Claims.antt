-- specs/Claims.antt, from the laws of the other files. Assumes nothing.
use Rattle.answers.proofs.Decide.{fair_answer}
use Rattle.maps.specs.Combinations.{combinations, rows_among}
use Rattle.maps.specs.Map.{map_causes, map_of}
use Rattle.maps.specs.Claims.{FairCall, OneChannel, HeldWhole, AsWorded}
use Rattle.maps.proofs.Causes.{map_ascends}
use Rattle.maps.proofs.OneChannel as channels
use Rattle.maps.proofs.Unpacked as unpacked
use Rattle.maps.proofs.Words as words

pub fair_call : FairCall
unfolding FairCall map_of
fair_call combination tn fn direction = fair_answer _ (map_causes combination tn fn direction) (map_ascends combination tn fn direction)

pub one_channel_each_frame : OneChannel
one_channel_each_frame =
    record {
      bursts = λ n tn d fn ht hd. channels.one_channel_each_frame tn ht d hd fn n;
      rows = λ n tn d fn ht hd. channels.rows_one_channel tn ht d hd fn n;
      common_subchannel = λ n tn d fn ht hd. channels.common_subchannel tn ht d hd fn n;
    }

pub held_whole : HeldWhole
held_whole =
    record {
      numbers_back = λ n tn d fn ht hd. unpacked.numbers_back tn ht d hd fn n;
      standing_back = λ n tn d fn ht hd. unpacked.standing_back tn ht d hd fn n;
    }

pub as_worded : AsWorded
unfolding combinations rows_among
as_worded =
    record {
      combination_1 = λ tn d fn h. words.full_rate_as_worded tn h fn;
      combination_2 = λ tn d fn h. words.half_rate_as_worded tn h fn;
      combination_4_down = λ tn. words.uncombined_down;
      combination_4_up = λ tn. words.uncombined_rach;
      combination_5_down = λ tn. words.combined_down;
      combination_5_up = λ tn. words.combined_later;
      combination_5_rach = λ tn. words.combined_rach;
      combination_6 = λ tn d fn h. words.additional_without d h fn;
      combination_7_down = λ tn. words.sdcch8_down;
      combination_7_up = λ tn. words.sdcch8_later;
    }
