-- specs/Examples.antt computed. Assumes nothing.
use mathlib.Core.Path.{refl}
use lib.Dec.{lit≤}
use Rattle.answers.specs.Outcome.{any_of}
use Rattle.clock.specs.Clock.{prime_of}
use Rattle.wording.specs.Words.{until, from, past, in_word, joined, words_of, first_word, after_words, first_line, same_text}
use Rattle.wording.specs.Numbers.{is_number, value_from, within, number_of, numbers_after, list_after}
use Rattle.wording.specs.Print.{decimal_within, spaced, written}
use Rattle.wording.specs.Names.{named, command_of, burst_of}
use Rattle.wording.specs.Examples.{WordExamples, NumberExamples, PrintExamples, NameExamples, ReplyExamples, TableExamples}

pub words : WordExamples
unfolding until from past in_word joined words_of first_word after_words first_line same_text
words =
    record {
      bytes = refl;
      words = refl;
      tab = refl;
      spaces = refl;
      up_to = refl;
      up_to_end = refl;
      repeated = refl;
      only_spaces = refl;
      behind_spaces = refl;
      whole_word = refl;
      no_word = refl;
      after_none = refl;
      after_two = refl;
      after_four = refl;
      line = refl;
      empty_line = refl;
      no_line = refl;
      same = refl;
      longer = refl;
      shorter = refl;
      other = refl;
    }

pub numbers : NumberExamples
unfolding until from in_word joined words_of first_word after_words is_number value_from within number_of numbers_after list_after
numbers =
    record {
      largest = refl;
      too_large = refl;
      zeros = refl;
      before_0 = refl;
      after_9 = refl;
      no_character = refl;
      two_numbers = refl;
      two_in_line = refl;
      all_in_line = refl;
      none_in_line = refl;
      few_in_line = refl;
      only_two = refl;
      few = refl;
      many = refl;
      no_number = refl;
      large = refl;
      whole_list = refl;
      short_list = refl;
      full_list = refl;
      no_list = refl;
      filled = refl;
      filled_before = refl;
      filled_to_its_room = refl;
      not_filled = refl;
      parameters = refl;
      figures = refl;
    }

pub print : PrintExamples
unfolding decimal_within spaced written
print =
    record {
      digit = refl;
      last_digit = refl;
      two_digits = refl;
      twenty_digits = refl;
      on_right = refl;
      on_left = refl;
      too_narrow = refl;
      in_a_row = refl;
      bits = refl;
      fills = refl;
      cuts = refl;
      filled = record { same_length = refl; inside = lit≤ {m = 3} {n = 3} tt; written = refl };
      cut = record { same_length = refl; inside = lit≤ {m = 3} {n = 3} tt; written = refl };
    }

pub names : NameExamples
unfolding same_text named command_of burst_of
names = record { commands = refl; later_commands = refl; bursts = refl; no_command = refl; no_burst = refl }

pub replies : ReplyExamples
unfolding decimal_within spaced any_of prime_of
replies =
    record {
      done = refl;
      number = refl;
      hop = refl;
      hop_refused = refl;
      page = refl;
      clash = refl;
      alone_8 = refl;
      alone_10 = refl;
      alone_16 = refl;
      split_with = refl;
      split_without = refl;
      split_refused = refl;
      map_two = refl;
      map_idle = refl;
      map_refused = refl;
      tch = refl;
      sacch = refl;
      sdcch = refl;
      fcch = refl;
      sch = refl;
      bcch = refl;
      ccch = refl;
      rach = refl;
      line_common = refl;
      line_two = refl;
      line_idle = refl;
      line_closed = refl;
      who_found = refl;
      who_nobody = refl;
      who_refused = refl;
      bits = refl;
      bit = refl;
      alone_14 = refl;
      unknown_command = refl;
      unknown_burst = refl;
      few = refl;
      many = refl;
      no_number = refl;
      large = refl;
      large_count = refl;
      long_line = refl;
      first_channels = refl;
      last_channels = refl;
      first_reasons = refl;
      last_reasons = refl;
      no_reason = refl;
    }

pub table : TableExamples
unfolding decimal_within
table =
    record {
      downlink = refl;
      uplink = refl;
      title = refl;
      idle = refl;
      part = refl;
      frame_9 = refl;
      frame_12 = refl;
      sdcch = refl;
      fcch = refl;
      last_frame = refl;
    }
