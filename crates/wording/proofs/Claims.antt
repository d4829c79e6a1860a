-- The claims of specs/Claims.antt. Assumes nothing.
use Rattle.wording.specs.Claims.{PartedWhole, FirstWord, FirstLine, NumbersOfLine, ListFilled, ReadsBack, WrittenWhole}
use Rattle.wording.proofs.Numbers.{in_line, not_in_line, filled_whole}
use Rattle.wording.proofs.ReadBack.{reads_back}
use Rattle.wording.proofs.Words.{until_from, run_past, word_words, no_word_words, word_whole, word_shorter, words_end, line_until, no_line_until, line_whole, line_shorter}
use Rattle.wording.proofs.Written.{written-written, written_whole, appended_as_written, written_as_appended, appended_whole, appended_in_turn}

pub parted_whole : PartedWhole
parted_whole = record { at_a_byte = until_from; behind_a_run = run_past }

pub first_words : FirstWord
first_words = record { word = word_words; no_word = no_word_words; whole = word_whole; shorter = word_shorter }

pub first_lines : FirstLine
first_lines = record { line = line_until; no_line = no_line_until; whole = line_whole; shorter = line_shorter }

pub numbers_of_line : NumbersOfLine
numbers_of_line = record { numbers = in_line; reason = not_in_line; an_end = words_end }

pub list_filled_whole : ListFilled
list_filled_whole = record { whole = filled_whole }

pub reads_back_whole : ReadsBack
reads_back_whole = record { number = reads_back }

pub all_written : WrittenWhole
all_written = record {
  in_buffer = written_whole;
  one_text = written-written;
  up_to_a_place = λ before after text at end. (λ p. (p.same_length, p.inside, appended_as_written p), λ p. written_as_appended p.0 p.1 p.2);
  whole = λ before after text at end. appended_whole;
  one_after_the_other = λ first second third t u at middle end p q. appended_in_turn p q;
}
