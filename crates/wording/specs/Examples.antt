-- Sample lines with their exact words, and both sides of each border, so that a reader sees what the definitions come to. proofs/Examples.antt
-- computes them. Assumes nothing.
use Rattle.std.specs.Prelude.{ℕ, ◌≡◌, true, false, Some, None, Result, Ok, Err, [], ◌∷◌, ◌++◌, map}
use Rattle.answers.specs.declared.Refusal.{Refusal}
use Rattle.answers.specs.declared.Refusal.TheVariants.{OutOfRange, Maio, LineClosed, CommonChannel, Clash, NoSubchannel, Malformed, FixedBit, NoCommonLine}
use Rattle.maps.specs.declared.Blocks.TheVariants.{One, Two}
use Rattle.maps.specs.declared.Content.{Content}
use Rattle.maps.specs.declared.Content.TheVariants.{Idle, Channel}
use Rattle.maps.specs.declared.Kind.{Kind}
use Rattle.maps.specs.declared.Kind.TheVariants.{Tch, Sacch, Sdcch, Fcch, Sch, Bcch, Ccch, Rach}
use Rattle.maps.specs.declared.Place.{Place}
use Rattle.slots.specs.declared.OnAir.{OnAir}
use Rattle.wording.specs.declared.Reason.TheVariants.{UnknownCommand, UnknownBurst, TooFewWords, TooManyWords, NotANumber, NumberTooLarge, CountTooLarge, LineTooLong}
use Rattle.wording.specs.declared.Command.TheVariants.{Split, Join, Hop, Map, Start, Open, Close, Seize, Release, Line, Who, Page, Build, Take, Table}
use Rattle.wording.specs.declared.BurstName.TheVariants.{Normal, Synchronization, Access, FrequencyCorrection, Dummy}
use Rattle.wording.specs.Words.{ascii, parted, past, words_of, first_word, after_words, first_line, same_text}
use Rattle.wording.specs.Numbers.{number_of, numbers_of, numbers_in, only_of, list_of, list_filled, parameter, figure}
use Rattle.wording.specs.Print.{decimal_of, right, left, spaced, bit_character, written, Appended}
use Rattle.wording.specs.Names.{command_of, burst_of}
use Rattle.wording.specs.Replies.{done_text, number_text, hop_text, page_text, split_text, map_text, line_text, who_text, bits_text, numbered_channel_text, numbered_reason_text, error_with, error_text}
use Rattle.wording.specs.Table.{head_text, title_text, frame_text, cell_text}

-- ---- a line's words

pub record WordExamples : Type 0 where
  pub bytes : ascii "a0 \n" ≡ 97 ∷ 48 ∷ 32 ∷ 10 ∷ []
  -- spaces before, between and after; a tab is part of a word
  pub words : words_of (ascii " seize 1  0 4711 ") ≡ ascii "seize" ∷ ascii "1" ∷ ascii "0" ∷ ascii "4711" ∷ []
  pub tab : words_of (97 ∷ 9 ∷ 98 ∷ []) ≡ (97 ∷ 9 ∷ 98 ∷ []) ∷ []
  pub spaces : words_of (ascii "  ") ≡ []
  -- up to a byte and from it on, up to the end where it does not occur, and past a byte that repeats
  pub up_to : parted 32 (ascii "line 0 1") ≡ (ascii "line", ascii " 0 1")
  pub up_to_end : parted 32 (ascii "line") ≡ (ascii "line", [])
  pub repeated : past 32 (ascii "  line  0") ≡ ascii "line  0"
  pub only_spaces : past 32 (ascii "  ") ≡ []
  -- the first word, and each byte that follows it; a line of spaces has none
  pub behind_spaces : first_word (ascii "  line  0 1 ") ≡ Some (ascii "line", ascii "  0 1 ")
  pub whole_word : first_word (ascii "line") ≡ Some (ascii "line", [])
  pub no_word : first_word (ascii "  ") ≡ None
  -- what follows no word, two, and more than there are
  pub after_none : after_words 0 (ascii " 1 20  300 ") ≡ ascii " 1 20  300 "
  pub after_two : after_words 2 (ascii " 1 20  300 ") ≡ ascii "  300 "
  pub after_four : after_words 4 (ascii " 1 20  300 ") ≡ []
  -- a line ends at its newline, an empty one too; the end of a text ends none
  pub line : first_line (ascii "line 0\n\nopen") ≡ Some (ascii "line 0", ascii "\nopen")
  pub empty_line : first_line (ascii "\nopen") ≡ Some ([], ascii "open")
  pub no_line : first_line (ascii "open") ≡ None
  -- a word that is longer or shorter, or has another byte, is another
  pub same : same_text (ascii "line") (ascii "line") ≡ true
  pub longer : same_text (ascii "lines") (ascii "line") ≡ false
  pub shorter : same_text (ascii "lin") (ascii "line") ≡ false
  pub other : same_text (ascii "lime") (ascii "line") ≡ false

-- ---- the numbers among them

pub record NumberExamples : Type 0 where
  -- "0 to 2^64 − 1 (a larger one is an `error`)"
  pub largest : number_of (ascii "18446744073709551615") ≡ Ok 18446744073709551615
  pub too_large : number_of (ascii "18446744073709551616") ≡ Err NumberTooLarge
  pub zeros : number_of (ascii "0070") ≡ Ok 70
  -- the characters beside 0 and 9 are no digits, and no character is no number
  pub before_0 : number_of (ascii "1/") ≡ Err NotANumber
  pub after_9 : number_of (ascii "1:") ≡ Err NotANumber
  pub no_character : number_of [] ≡ Err NotANumber
  -- two numbers of three words, and with no further word
  pub two_numbers : numbers_of 2 (ascii "10" ∷ ascii "20" ∷ ascii "x" ∷ []) ≡ Ok (10 ∷ 20 ∷ [], ascii "x" ∷ [])
  -- and of a line: what follows them begins right behind the second word
  pub two_in_line : numbers_in 2 (ascii " 10 20  x ") ≡ Ok (10 ∷ 20 ∷ [], ascii "  x ")
  pub all_in_line : numbers_in 2 (ascii "10 20") ≡ Ok (10 ∷ 20 ∷ [], [])
  pub none_in_line : numbers_in 2 (ascii "10 x 20") ≡ Err NotANumber
  pub few_in_line : numbers_in 2 (ascii "10 ") ≡ Err TooFewWords
  pub only_two : only_of 2 (ascii "10" ∷ ascii "20" ∷ []) ≡ Ok (10 ∷ 20 ∷ [])
  -- "too few words", "too many words", "not a number", "number too large"; of two mistakes the first is told
  pub few : only_of 2 (ascii "10" ∷ []) ≡ Err TooFewWords
  pub many : only_of 2 (ascii "10" ∷ ascii "20" ∷ ascii "30" ∷ []) ≡ Err TooManyWords
  pub no_number : only_of 2 (ascii "x" ∷ []) ≡ Err NotANumber
  pub large : only_of 1 (ascii "18446744073709551616" ∷ ascii "20" ∷ []) ≡ Err NumberTooLarge
  -- a list with room for three; a number too large for 16 bits is the largest of them
  pub whole_list : list_of 3 (ascii "65534" ∷ ascii "65535" ∷ ascii "65536" ∷ []) ≡ Ok (65534 ∷ 65535 ∷ 65535 ∷ [])
  pub short_list : list_of 3 [] ≡ Ok []
  pub full_list : list_of 1 (ascii "10" ∷ ascii "20" ∷ []) ≡ Err TooManyWords
  pub no_list : list_of 3 (ascii "10" ∷ ascii "1x" ∷ []) ≡ Err NotANumber
  -- the lent list has these numbers; on an error those of the words before the one at fault, and no more than have room
  pub filled : list_filled 3 (ascii "10" ∷ ascii "65536" ∷ ascii "30" ∷ []) ≡ (Ok tt, 10 ∷ 65535 ∷ 30 ∷ [])
  pub filled_before : list_filled 3 (ascii "10" ∷ ascii "1x" ∷ ascii "30" ∷ []) ≡ (Err NotANumber, 10 ∷ [])
  pub filled_to_its_room : list_filled 1 (ascii "10" ∷ ascii "20" ∷ []) ≡ (Err TooManyWords, 10 ∷ [])
  pub not_filled : list_filled 3 (ascii "18446744073709551616" ∷ ascii "20" ∷ []) ≡ (Err NumberTooLarge, [])
  -- a parameter's largest value, and one above it
  pub parameters : map parameter (4294967294 ∷ 4294967295 ∷ 4294967296 ∷ []) ≡ 4294967294 ∷ 4294967295 ∷ 4294967295 ∷ []
  -- "a character that is no digit goes in as a byte above 9"
  pub figures : map figure (ascii "09/:") ≡ 0 ∷ 9 ∷ 255 ∷ 255 ∷ []

-- ---- what is written

pub record PrintExamples : Type 0 where
  pub digit : decimal_of 0 ≡ ascii "0"
  pub last_digit : decimal_of 9 ≡ ascii "9"
  pub two_digits : decimal_of 10 ≡ ascii "10"
  pub twenty_digits : decimal_of 18446744073709551615 ≡ ascii "18446744073709551615"
  -- a column of five, and one that is too narrow
  pub on_right : right 5 (decimal_of 4711) ≡ ascii " 4711"
  pub on_left : left 5 (decimal_of 4711) ≡ ascii "4711 "
  pub too_narrow : right 3 (decimal_of 4711) ≡ ascii "4711"
  pub in_a_row : spaced (0 ∷ 4 ∷ 26 ∷ []) ≡ ascii " 0 4 26"
  pub bits : map bit_character (0 ∷ 1 ∷ []) ≡ ascii "01"
  -- behind one byte of three: two bytes fill the buffer, of three the last is left out
  pub fills : written 3 (ascii "a") (ascii "ok") ≡ ascii "aok"
  pub cuts : written 3 (ascii "a") (ascii "ok\n") ≡ ascii "aok"
  -- the same of a list with a place in it
  pub filled : Appended (ascii "abc") 1 (ascii "aok") 3 (ascii "ok")
  pub cut : Appended (ascii "abc") 1 (ascii "aok") 3 (ascii "ok\n")

-- ---- the names, in the order of the format's table

pub record NameExamples : Type 0 where
  pub commands :
      map command_of (ascii "split" ∷ ascii "join" ∷ ascii "hop" ∷ ascii "map" ∷ ascii "start" ∷ ascii "open" ∷ ascii "close" ∷ ascii "seize" ∷ [])
      ≡ Some Split ∷ Some Join ∷ Some Hop ∷ Some Map ∷ Some Start ∷ Some Open ∷ Some Close ∷ Some Seize ∷ []
  pub later_commands :
      map command_of (ascii "release" ∷ ascii "line" ∷ ascii "who" ∷ ascii "page" ∷ ascii "build" ∷ ascii "take" ∷ ascii "table" ∷ [])
      ≡ Some Release ∷ Some Line ∷ Some Who ∷ Some Page ∷ Some Build ∷ Some Take ∷ Some Table ∷ []
  pub bursts :
      map burst_of (ascii "normal" ∷ ascii "sync" ∷ ascii "access" ∷ ascii "frequency" ∷ ascii "dummy" ∷ [])
      ≡ Some Normal ∷ Some Synchronization ∷ Some Access ∷ Some FrequencyCorrection ∷ Some Dummy ∷ []
  pub no_command : map command_of (ascii "Split" ∷ ascii "tables" ∷ [] ∷ []) ≡ None ∷ None ∷ None ∷ []
  pub no_burst : map burst_of (ascii "syn" ∷ ascii "split" ∷ []) ≡ None ∷ None ∷ []

-- ---- the answers

-- a block, and a place in it
abbrev pub place_in : ℕ → ℕ → Place
place_in block n = record { block = block; place = n }

-- a channel in subchannel 0 that has one block, or two
abbrev pub with_one : Kind → Place → Content
with_one kind p = Channel (record { kind = kind; subchannel = 0; blocks = One p })

abbrev pub with_two : Place → Place → Content
with_two p q = Channel (record { kind = Tch; subchannel = 0; blocks = Two p q })

-- what a line sends: its ARFCN, MAI and position, the owner, and the channel
abbrev pub sent : ℕ → ℕ → ℕ → ℕ → Content → OnAir
sent arfcn mai ca_position owner content = record { tuning = record { arfcn = arfcn; mai = mai; position = ca_position }; content = content; owner = owner }

-- line 2 of the timetable in frame 9, and with another ARFCN and nobody that holds it; and in frame 12, where the channel has number 2
abbrev pub traffic : Content
traffic = with_two (place_in 2 1) (place_in 1 5)

abbrev pub later : Kind → Content
later kind = with_one kind (place_in 0 3)

-- a common part, and a line that has nothing to send
abbrev pub common : OnAir
common = sent 10 0 1 0 (with_one Ccch (place_in 4 0))

abbrev pub silent : OnAir
silent = sent 10 0 1 0 Idle

-- where a channel stands, as `map` answers
abbrev pub mapped : Kind → Result Content Refusal
mapped kind = Ok (with_one kind (place_in 4 3))

pub record ReplyExamples : Type 0 where
  pub done : done_text (Ok tt) ≡ ascii "ok\n"
  pub number : number_text (Ok 20) ≡ ascii "ok 20\n"
  pub hop : hop_text (Ok (record { arfcn = 30; mai = 1; position = 2 })) ≡ ascii "ok 30 1 2\n"
  pub hop_refused : hop_text (Err Maio) ≡ ascii "refused 5\n"
  pub page : page_text (Ok (record { tn = 0; block = 4; frame = 26 })) ≡ ascii "ok 0 4 26\n"
  -- 9 and 15 come with a value, and those beside them alone
  pub clash : done_text (Err (Clash 0)) ≡ ascii "refused 9 0\n"
  pub alone_8 : done_text (Err CommonChannel) ≡ ascii "refused 8\n"
  pub alone_10 : number_text (Err NoSubchannel) ≡ ascii "refused 10\n"
  pub alone_16 : page_text (Err NoCommonLine) ≡ ascii "refused 16\n"
  -- frames 11 and 26, and one past the last
  pub split_with : split_text (Ok (record { t1 = 0; t2 = 11; t3 = 11 })) ≡ ascii "ok 0 11 11 1\n"
  pub split_without : split_text (Ok (record { t1 = 0; t2 = 0; t3 = 26 })) ≡ ascii "ok 0 0 26 -\n"
  pub split_refused : split_text (Err OutOfRange) ≡ ascii "refused 3\n"
  pub map_two : map_text (Ok traffic) ≡ ascii "ok TCH 0 2 1 1 5\n"
  pub map_idle : map_text (Ok Idle) ≡ ascii "ok idle\n"
  pub map_refused : map_text (Err OutOfRange) ≡ ascii "refused 3\n"
  -- each channel
  pub tch : map_text (mapped Tch) ≡ ascii "ok TCH 0 4 3\n"
  pub sacch : map_text (mapped Sacch) ≡ ascii "ok SACCH 0 4 3\n"
  pub sdcch : map_text (mapped Sdcch) ≡ ascii "ok SDCCH 0 4 3\n"
  pub fcch : map_text (mapped Fcch) ≡ ascii "ok FCCH 0 4 3\n"
  pub sch : map_text (mapped Sch) ≡ ascii "ok SCH 0 4 3\n"
  pub bcch : map_text (mapped Bcch) ≡ ascii "ok BCCH 0 4 3\n"
  pub ccch : map_text (mapped Ccch) ≡ ascii "ok CCCH 0 4 3\n"
  pub rach : map_text (mapped Rach) ≡ ascii "ok RACH 0 4 3\n"
  pub line_common : line_text (Ok common) ≡ ascii "ok 10 0 1 CCCH 0 0 4 0\n"
  pub line_two : line_text (Ok (sent 30 1 2 4714 traffic)) ≡ ascii "ok 30 1 2 TCH 0 4714 2 1 1 5\n"
  pub line_idle : line_text (Ok silent) ≡ ascii "ok 10 0 1 idle\n"
  pub line_closed : line_text (Err LineClosed) ≡ ascii "refused 7\n"
  pub who_found : who_text (Ok (Some (record { line = 2; on_air = sent 50 3 4 4714 traffic }))) ≡ ascii "ok 2 50 3 4 TCH 0 4714 2 1 1 5\n"
  pub who_nobody : who_text (Ok None) ≡ ascii "ok nobody\n"
  pub who_refused : who_text (Err OutOfRange) ≡ ascii "refused 3\n"
  pub bits : bits_text (Ok tt) (0 ∷ 1 ∷ 1 ∷ []) ≡ ascii "ok 011\n"
  pub bit : bits_text (Err (FixedBit 61)) [] ≡ ascii "refused 15 61\n"
  pub alone_14 : bits_text (Err Malformed) (0 ∷ []) ≡ ascii "refused 14\n"
  -- each reason
  pub unknown_command : error_text 12 UnknownCommand ≡ ascii "error 12 unknown command\n"
  pub unknown_burst : error_text 12 UnknownBurst ≡ ascii "error 12 unknown burst\n"
  pub few : error_text 12 TooFewWords ≡ ascii "error 12 too few words\n"
  pub many : error_text 12 TooManyWords ≡ ascii "error 12 too many words\n"
  pub no_number : error_text 12 NotANumber ≡ ascii "error 12 not a number\n"
  pub large : error_text 12 NumberTooLarge ≡ ascii "error 12 number too large\n"
  pub large_count : error_text 12 CountTooLarge ≡ ascii "error 12 count too large\n"
  pub long_line : error_text 12 LineTooLong ≡ ascii "error 12 line too long\n"
  -- a channel by its number: 1 to 8
  pub first_channels : map numbered_channel_text (0 ∷ 1 ∷ 2 ∷ 3 ∷ 4 ∷ []) ≡ [] ∷ ascii "TCH" ∷ ascii "SACCH" ∷ ascii "SDCCH" ∷ ascii "FCCH" ∷ []
  pub last_channels : map numbered_channel_text (5 ∷ 6 ∷ 7 ∷ 8 ∷ 9 ∷ []) ≡ ascii "SCH" ∷ ascii "BCCH" ∷ ascii "CCCH" ∷ ascii "RACH" ∷ [] ∷ []
  -- a reason by its number: 1 to 8
  pub first_reasons : map numbered_reason_text (0 ∷ 1 ∷ 2 ∷ 3 ∷ 4 ∷ []) ≡ [] ∷ ascii "unknown command" ∷ ascii "unknown burst" ∷ ascii "too few words" ∷ ascii "too many words" ∷ []
  pub last_reasons : map numbered_reason_text (5 ∷ 6 ∷ 7 ∷ 8 ∷ 9 ∷ []) ≡ ascii "not a number" ∷ ascii "number too large" ∷ ascii "count too large" ∷ ascii "line too long" ∷ [] ∷ []
  pub no_reason : error_with 12 (numbered_reason_text 9) ≡ ascii "error 12 \n"

-- ---- a timetable

pub record TableExamples : Type 0 where
  pub downlink : head_text 2 0 52 0 ≡ ascii "timeslot 2 downlink, 52 frames from 0, open lines:"
  pub uplink : head_text 0 1 7 2715647 ≡ ascii "timeslot 0 uplink, 7 frames from 2715647, open lines:"
  -- the column's title stands over its rows
  pub title : title_text 2 ≡ ascii " line 2                        |"
  pub idle : cell_text silent ≡ ascii "    10 idle                    |"
  pub part : cell_text common ≡ ascii "    10 CCCH  -     -  4.0      |"
  pub frame_9 : frame_text 9 (record { t1 = 0; t2 = 9; t3 = 9 }) ++ cell_text (sent 30 1 2 4714 traffic) ++ cell_text (sent 40 2 3 0 traffic)
      ≡ ascii "      9    0  9  9 |    30 TCH   0  4714  2.1  1.5 |    40 TCH   0  free  2.1  1.5 |"
  pub frame_12 : frame_text 12 (record { t1 = 0; t2 = 12; t3 = 12 }) ++ cell_text (sent 20 0 1 4714 (later Sacch)) ++ cell_text (sent 30 1 2 0 (later Sacch))
      ≡ ascii "     12    0 12 12 |    20 SACCH 0  4714  0.3      |    30 SACCH 0  free  0.3      |"
  -- an SDCCH belongs to a subchannel, and an FCCH is a common part
  pub sdcch : cell_text (sent 20 0 1 4714 (later Sdcch)) ≡ ascii "    20 SDCCH 0  4714  0.3      |"
  pub fcch : cell_text (sent 20 0 1 4714 (later Fcch)) ≡ ascii "    20 FCCH  -     -  0.3      |"
  pub last_frame : frame_text 2715647 (record { t1 = 2047; t2 = 25; t3 = 50 }) ≡ ascii "2715647 2047 25 50 |"
