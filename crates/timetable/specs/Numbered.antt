-- What a line has in a frame, of the numbers that C gets for it, whatever they are. Assumes nothing.
use Rattle.std.specs.Prelude.{ℕ, cond, List, ◌++◌, eqb, ltb}
use Rattle.c_answers.specs.declared.TdmaLine.{TdmaLine}
use Rattle.wording.specs.Words.{ascii}
use Rattle.wording.specs.Print.{decimal_of, right, left}
use Rattle.wording.specs.Replies.{numbered_channel_text}
use Rattle.wording.specs.Table.{owner_text, block_text}

-- the subchannel and its owner; a common part has neither, nor has a number that no channel has
abbrev pub numbered_holder_text : TdmaLine → List ℕ
numbered_holder_text a = cond (ltb 3 a.channel) (ascii "-     -") (decimal_of a.subchannel ++ owner_text a.owner)

-- the second block and place where there are two, up to the cell's edge
abbrev pub numbered_columns_text : TdmaLine → List ℕ
numbered_columns_text a =
    cond (eqb a.blocks 2) (block_text (record { block = a.block; place = a.place }) ++ block_text (record { block = a.block2; place = a.place2 }) ++ ascii " |")
    (block_text (record { block = a.block; place = a.place }) ++ ascii "      |")

-- idle, or a channel: its name, the subchannel and its owner, block and place
abbrev pub numbered_shown_text : TdmaLine → List ℕ
numbered_shown_text a = cond (eqb a.channel 0) (ascii "idle                    |") (left 5 (numbered_channel_text a.channel) ++ ascii " " ++ numbered_holder_text a ++ numbered_columns_text a)

-- what a line has in a frame: its ARFCN, and idle or the channel
abbrev pub numbered_cell_text : TdmaLine → List ℕ
numbered_cell_text a = right 6 (decimal_of a.arfcn) ++ ascii " " ++ numbered_shown_text a
