-- What each answer of the C interface has: the outcome of the call in plain numbers. Where it is refused, `refusal` is document 01's number
-- and all else is 0, but for the value that comes with 9 and 15; where it is accepted, `refusal` is 0. Assumes nothing.
use Rattle.std.specs.Prelude.{ℕ, List, [], ◌∷◌}
use Rattle.std.proofs.Math.Option.{Option, none, some}
use Rattle.answers.specs.Outcome.{Refused, Outcome, refused, accepted}
use Rattle.clock.specs.declared.Frame.{Frame}
use Rattle.clock.specs.Clock.{prime_of}
use Rattle.maps.specs.Channels.{Standing}
use Rattle.groups.specs.declared.PagingBlock.{PagingBlock}
use Rattle.hops.specs.Hopping.{no_tuning}
use Rattle.hops.specs.declared.Selection.{Selection}
use Rattle.hops.specs.declared.Tuning.{Tuning}
use Rattle.slots.specs.declared.Found.{Found}
use Rattle.slots.specs.declared.OnAir.{OnAir}
use Rattle.maps.specs.Map.{carried}
use Rattle.maps.specs.Numbers.{Numbers, no_numbers, standing_numbers, numbers_of}
use Rattle.c_answers.specs.declared.TdmaAnswer.{TdmaAnswer}
use Rattle.c_answers.specs.declared.TdmaSplit.{TdmaSplit}
use Rattle.c_answers.specs.declared.TdmaJoin.{TdmaJoin}
use Rattle.c_answers.specs.declared.TdmaPosition.{TdmaPosition}
use Rattle.c_answers.specs.declared.TdmaHop.{TdmaHop}
use Rattle.c_answers.specs.declared.TdmaMap.{TdmaMap}
use Rattle.c_answers.specs.declared.TdmaLine.{TdmaLine}
use Rattle.c_answers.specs.declared.TdmaWho.{TdmaWho}
use Rattle.c_answers.specs.declared.TdmaPage.{TdmaPage}

-- the first entry, 0 where there is none
abbrev pub first_of : List ℕ → ℕ
first_of [] = 0
first_of (x ∷ xs) = x

-- the value that comes with 9 (the line in the way) and 15 (the bit); 0 for a refusal that comes alone
abbrev pub value_of : Refused → ℕ
value_of r = first_of r.values

abbrev pub refusal_number : Option Refused → ℕ
refusal_number none = 0
refusal_number (some r) = r.number

abbrev pub refusal_value : Option Refused → ℕ
refusal_value none = 0
refusal_value (some r) = value_of r

-- a call whose result is in the lent words or bytes: the refusal, 0 where it is accepted, and the value that comes with it
abbrev pub answer_numbers : Option Refused → TdmaAnswer
answer_numbers r = record { refusal = refusal_number r; value = refusal_value r }

-- T3' where it is given: `given` is 1
abbrev pub with_prime : Frame → Option ℕ → TdmaSplit
with_prime f none = record { refusal = 0; t1 = f.t1; t2 = f.t2; t3 = f.t3; given = 0; prime = 0 }
with_prime f (some k) = record { refusal = 0; t1 = f.t1; t2 = f.t2; t3 = f.t3; given = 1; prime = k }

abbrev pub split_numbers : Outcome Frame → TdmaSplit
split_numbers (refused r) = record { refusal = r.number; t1 = 0; t2 = 0; t3 = 0; given = 0; prime = 0 }
split_numbers (accepted f) = with_prime f (prime_of f.t3)

abbrev pub join_numbers : Outcome ℕ → TdmaJoin
join_numbers (refused r) = record { refusal = r.number; frame = 0 }
join_numbers (accepted fn) = record { refusal = 0; frame = fn }

abbrev pub position_numbers : Outcome Selection → TdmaPosition
position_numbers (refused r) = record { refusal = r.number; position = 0; mai = 0 }
position_numbers (accepted s) = record { refusal = 0; position = s.position; mai = s.mai }

abbrev pub hop_fields : ℕ → Tuning → TdmaHop
hop_fields refusal t = record { refusal = refusal; arfcn = t.arfcn; mai = t.mai; position = t.position }

abbrev pub hop_numbers : Outcome Tuning → TdmaHop
hop_numbers (refused r) = hop_fields r.number no_tuning
hop_numbers (accepted t) = hop_fields 0 t

abbrev pub map_fields : Numbers → TdmaMap
map_fields n =
    record { refusal = n.refusal; channel = n.channel; subchannel = n.subchannel; blocks = n.blocks; block = n.block; place = n.place; block2 = n.block2; place2 = n.place2 }

abbrev pub map_numbers : Outcome (List Standing) → TdmaMap
map_numbers m = map_fields (numbers_of m)

abbrev pub line_fields : Tuning → ℕ → Numbers → TdmaLine
line_fields t owner n =
    record { refusal = n.refusal; arfcn = t.arfcn; owner = owner; channel = n.channel; subchannel = n.subchannel; blocks = n.blocks; block = n.block; place = n.place; block2 = n.block2; place2 = n.place2; mai = t.mai; position = t.position }

-- what a line sends
abbrev pub on_air_numbers : OnAir → TdmaLine
on_air_numbers a = line_fields a.tuning a.owner (standing_numbers (carried a.content))

abbrev pub told_line : Outcome OnAir → TdmaLine
told_line (refused r) = line_fields no_tuning 0 (no_numbers r.number)
told_line (accepted a) = on_air_numbers a

-- nobody, or a refusal: every other number is 0
abbrev pub nobody : ℕ → TdmaWho
nobody refusal = record { refusal = refusal; found = 0; line = 0; answer = line_fields no_tuning 0 (no_numbers 0) }

abbrev pub told_who : Outcome (Option Found) → TdmaWho
told_who (refused r) = nobody r.number
told_who (accepted none) = nobody 0
told_who (accepted (some f)) = record { refusal = 0; found = 1; line = f.line; answer = on_air_numbers f.on_air }

abbrev pub page_numbers : Outcome PagingBlock → TdmaPage
page_numbers (refused r) = record { refusal = r.number; tn = 0; block = 0; frame = 0 }
page_numbers (accepted b) = record { refusal = 0; tn = b.tn; block = b.block; frame = b.frame }
