-- What each answer reads like, in the words of the format's table. Assumes nothing.
use Rattle.std.specs.Prelude.{ℕ, Some, None, Result, Ok, Err, List, [], ◌∷◌, ◌++◌, map, get_or}
use Rattle.std.specs.Prelude.{Option as MayBe}
use Rattle.std.proofs.Math.Option.{Option, none, some}
use Rattle.answers.specs.declared.Refusal.{Refusal}
use Rattle.answers.specs.Refusals.{refusal_of}
use Rattle.clock.specs.declared.Frame.{Frame}
use Rattle.clock.specs.Clock.{prime_of}
use Rattle.groups.specs.declared.PagingBlock.{PagingBlock}
use Rattle.hops.specs.declared.Tuning.{Tuning}
use Rattle.maps.specs.declared.Blocks.{Blocks}
use Rattle.maps.specs.declared.Blocks.TheVariants.{One, Two}
use Rattle.maps.specs.declared.Content.{Content}
use Rattle.maps.specs.declared.Content.TheVariants.{Idle, Channel}
use Rattle.maps.specs.declared.Kind.{Kind}
use Rattle.maps.specs.declared.Kind.TheVariants.{Tch, Sacch, Sdcch, Fcch, Sch, Bcch, Ccch, Rach}
use Rattle.maps.specs.declared.Place.{Place}
use Rattle.slots.specs.declared.Found.{Found}
use Rattle.slots.specs.declared.OnAir.{OnAir}
use Rattle.wording.specs.Words.{ascii}
use Rattle.wording.specs.Print.{decimal_of, spaced, bit_character}
use Rattle.wording.specs.declared.Reason.{Reason}
use Rattle.wording.specs.declared.Reason.TheVariants.{UnknownCommand, UnknownBurst, TooFewWords, TooManyWords, NotANumber, NumberTooLarge, CountTooLarge, LineTooLong}

-- "A refusal is `refused N`", "`refused 9 LINE` and `refused 15 BIT` where document 01 gives a value with it"
abbrev pub refused_text : Refusal → List ℕ
refused_text refusal = ascii "refused" ++ spaced ((refusal_of refusal).number ∷ (refusal_of refusal).values) ++ ascii "\n"

-- "ok" and what the text says of what an accepted call gives, or the refusal
abbrev pub answered : {A : Type 0} → Result A Refusal → (A → List ℕ) → List ℕ
answered (Ok a) text = ascii "ok" ++ text a ++ ascii "\n"
answered (Err refusal) text = refused_text refusal

-- "ok"
abbrev pub done_text : Result Unit Refusal → List ℕ
done_text r = answered r (λ u. [])

-- "ok FN"
abbrev pub number_text : Result ℕ Refusal → List ℕ
number_text r = answered r (λ n. spaced (n ∷ []))

-- "ok ARFCN MAI POSITION"
abbrev pub tuning_text : Tuning → List ℕ
tuning_text t = spaced (t.arfcn ∷ t.mai ∷ t.position ∷ [])

abbrev pub hop_text : Result Tuning Refusal → List ℕ
hop_text r = answered r tuning_text

-- "ok TN BLOCK FRAME"
abbrev pub paging_text : PagingBlock → List ℕ
paging_text b = spaced (b.tn ∷ b.block ∷ b.frame ∷ [])

abbrev pub page_text : Result PagingBlock Refusal → List ℕ
page_text r = answered r paging_text

-- T3' where it is given
abbrev pub prime_text : Option ℕ → List ℕ
prime_text (some k) = spaced (k ∷ [])
prime_text none = ascii " -"

abbrev pub parts_text : Frame → List ℕ
parts_text f = spaced (f.t1 ∷ f.t2 ∷ f.t3 ∷ []) ++ prime_text (prime_of f.t3)

-- "ok T1 T2 T3 T3', with `-` where T3' isn't given"
abbrev pub split_text : Result Frame Refusal → List ℕ
split_text r = answered r parts_text

-- "CHANNEL is `TCH`, `SACCH`, `SDCCH`, `FCCH`, `SCH`, `BCCH`, `CCCH` or `RACH`"
abbrev pub channel_text : Kind → List ℕ
channel_text Tch = ascii "TCH"
channel_text Sacch = ascii "SACCH"
channel_text Sdcch = ascii "SDCCH"
channel_text Fcch = ascii "FCCH"
channel_text Sch = ascii "SCH"
channel_text Bcch = ascii "BCCH"
channel_text Ccch = ascii "CCCH"
channel_text Rach = ascii "RACH"

-- the channels, numbered from 1 on; another number has no name
abbrev pub channels : List Kind
channels = Tch ∷ Sacch ∷ Sdcch ∷ Fcch ∷ Sch ∷ Bcch ∷ Ccch ∷ Rach ∷ []

abbrev pub numbered_channel_text : ℕ → List ℕ
numbered_channel_text n = get_or ([] ∷ map channel_text channels) n []

abbrev pub place_text : Place → List ℕ
place_text p = spaced (p.block ∷ p.place ∷ [])

-- "with a second BLOCK PLACE where a burst belongs to two blocks"
abbrev pub blocks_text : Blocks → List ℕ
blocks_text (One p) = place_text p
blocks_text (Two p q) = place_text p ++ place_text q

-- "OWNER", which `line` and `who` tell
abbrev pub owner_text : MayBe ℕ → List ℕ
owner_text (Some owner) = spaced (owner ∷ [])
owner_text None = []

-- "idle, or CHANNEL", its subchannel, the owner where it is told, and the blocks
abbrev pub content_text : Content → MayBe ℕ → List ℕ
content_text Idle owner = ascii " idle"
content_text (Channel b) owner = ascii " " ++ channel_text b.kind ++ spaced (b.subchannel ∷ []) ++ owner_text owner ++ blocks_text b.blocks

-- "ok idle, or ok CHANNEL S BLOCK PLACE"
abbrev pub map_text : Result Content Refusal → List ℕ
map_text r = answered r (λ c. content_text c None)

-- "ARFCN MAI POSITION idle, or ARFCN MAI POSITION CHANNEL S OWNER BLOCK PLACE [BLOCK PLACE]"
abbrev pub slot_text : OnAir → List ℕ
slot_text a = tuning_text a.tuning ++ content_text a.content (Some a.owner)

abbrev pub line_text : Result OnAir Refusal → List ℕ
line_text r = answered r slot_text

-- "ok nobody, or ok LINE and then as `line` from ARFCN on"
abbrev pub found_text : MayBe Found → List ℕ
found_text None = ascii " nobody"
found_text (Some f) = spaced (f.line ∷ []) ++ slot_text f.on_air

abbrev pub who_text : Result (MayBe Found) Refusal → List ℕ
who_text r = answered r found_text

-- "ok BITS"
abbrev pub bits_text : Result Unit Refusal → List ℕ → List ℕ
bits_text r bits = answered r (λ u. ascii " " ++ map bit_character bits)

-- "a short reason in plain words"
abbrev pub reason_text : Reason → List ℕ
reason_text UnknownCommand = ascii "unknown command"
reason_text UnknownBurst = ascii "unknown burst"
reason_text TooFewWords = ascii "too few words"
reason_text TooManyWords = ascii "too many words"
reason_text NotANumber = ascii "not a number"
reason_text NumberTooLarge = ascii "number too large"
reason_text CountTooLarge = ascii "count too large"
reason_text LineTooLong = ascii "line too long"

-- the reasons, numbered from 1 on; another number has no words
abbrev pub reasons : List Reason
reasons = UnknownCommand ∷ UnknownBurst ∷ TooFewWords ∷ TooManyWords ∷ NotANumber ∷ NumberTooLarge ∷ CountTooLarge ∷ LineTooLong ∷ []

abbrev pub numbered_reason_text : ℕ → List ℕ
numbered_reason_text n = get_or ([] ∷ map reason_text reasons) n []

-- "`error LINENUMBER REASON`"
abbrev pub error_with : ℕ → List ℕ → List ℕ
error_with number words = ascii "error " ++ decimal_of number ++ ascii " " ++ words ++ ascii "\n"

abbrev pub error_text : ℕ → Reason → List ℕ
error_text number reason = error_with number (reason_text reason)
