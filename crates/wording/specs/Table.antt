-- The parts of a timetable: "aligned text with a head line". Assumes nothing.
use Rattle.std.specs.Prelude.{ℕ, cond, List, ◌++◌, eqb}
use Rattle.clock.specs.declared.Frame.{Frame}
use Rattle.maps.specs.Channels.{is_common}
use Rattle.maps.specs.declared.Blocks.{Blocks}
use Rattle.maps.specs.declared.Blocks.TheVariants.{One, Two}
use Rattle.maps.specs.declared.Burst.{Burst}
use Rattle.maps.specs.declared.Content.{Content}
use Rattle.maps.specs.declared.Content.TheVariants.{Idle, Channel}
use Rattle.maps.specs.declared.Place.{Place}
use Rattle.slots.specs.declared.OnAir.{OnAir}
use Rattle.wording.specs.Words.{ascii}
use Rattle.wording.specs.Print.{decimal_of, right, left}
use Rattle.wording.specs.Replies.{channel_text}

abbrev pub direction_text : ℕ → List ℕ
direction_text direction = cond (eqb direction 0) (ascii " downlink, ") (ascii " uplink, ")

-- what is shown; the numbers of the open lines follow
abbrev pub head_text : ℕ → ℕ → ℕ → ℕ → List ℕ
head_text tn direction frames number = ascii "timeslot " ++ decimal_of tn ++ direction_text direction ++ decimal_of frames ++ ascii " frames from " ++ decimal_of number ++ ascii ", open lines:"

-- the title of a line's column
abbrev pub title_text : ℕ → List ℕ
title_text line = ascii " line " ++ left 24 (decimal_of line) ++ ascii " |"

-- a frame by its number, also as T1, T2, T3
abbrev pub frame_text : ℕ → Frame → List ℕ
frame_text number f = right 7 (decimal_of number) ++ right 5 (decimal_of f.t1) ++ right 3 (decimal_of f.t2) ++ right 3 (decimal_of f.t3) ++ ascii " |"

-- the owner of a subchannel; a free one has none
abbrev pub owner_text : ℕ → List ℕ
owner_text owner = cond (eqb owner 0) (ascii "  free") (ascii " " ++ right 5 (decimal_of owner))

-- the subchannel and its owner; a common part has neither
abbrev pub holder_text : Burst → ℕ → List ℕ
holder_text b owner = cond (is_common b.kind) (ascii "-     -") (decimal_of b.subchannel ++ owner_text owner)

-- a block and a place of it
abbrev pub block_text : Place → List ℕ
block_text p = right 3 (decimal_of p.block) ++ ascii "." ++ decimal_of p.place

-- the second block and place where there are two, up to the cell's edge
abbrev pub columns_text : Blocks → List ℕ
columns_text (One p) = block_text p ++ ascii "      |"
columns_text (Two p q) = block_text p ++ block_text q ++ ascii " |"

-- idle, or a channel: its name, the subchannel and its owner, block and place
abbrev pub shown_text : Content → ℕ → List ℕ
shown_text Idle owner = ascii "idle                    |"
shown_text (Channel b) owner = left 5 (channel_text b.kind) ++ ascii " " ++ holder_text b owner ++ columns_text b.blocks

-- what a line has in a frame: its ARFCN, and idle or the channel
abbrev pub cell_text : OnAir → List ℕ
cell_text a = right 6 (decimal_of a.tuning.arfcn) ++ ascii " " ++ shown_text a.content a.owner
