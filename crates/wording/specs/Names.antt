-- Which command, and which burst, a word names. Assumes nothing.
use Rattle.std.specs.Prelude.{ℕ, cond, List, [], ◌∷◌, Option, Some, None}
use Rattle.wording.specs.Words.{ascii, same_text}
use Rattle.wording.specs.declared.Command.{Command}
use Rattle.wording.specs.declared.Command.TheVariants.{Split, Join, Hop, Map, Start, Open, Close, Seize, Release, Line, Who, Page, Build, Take, Table}
use Rattle.wording.specs.declared.BurstName.{BurstName}
use Rattle.wording.specs.declared.BurstName.TheVariants.{Normal, Synchronization, Access, FrequencyCorrection, Dummy}

-- what a word names, of names with what each stands for
unfoldable pub named : {A : Type 0} → List ℕ → List (List ℕ × A) → Option A
named w [] = None
named w (n ∷ ns) = cond (same_text w n.0) (Some n.1) (named w ns)

-- the commands, in the order of the format's table
abbrev pub commands : List (List ℕ × Command)
commands =
    (ascii "split", Split)
    ∷ (ascii "join", Join)
    ∷ (ascii "hop", Hop)
    ∷ (ascii "map", Map)
    ∷ (ascii "start", Start)
    ∷ (ascii "open", Open)
    ∷ (ascii "close", Close)
    ∷ (ascii "seize", Seize)
    ∷ (ascii "release", Release)
    ∷ (ascii "line", Line)
    ∷ (ascii "who", Who)
    ∷ (ascii "page", Page)
    ∷ (ascii "build", Build)
    ∷ (ascii "take", Take)
    ∷ (ascii "table", Table)
    ∷ []

unfoldable pub command_of : List ℕ → Option Command
command_of w = named w commands

-- the bursts that can be built; the first three can be taken apart
abbrev pub bursts : List (List ℕ × BurstName)
bursts = (ascii "normal", Normal) ∷ (ascii "sync", Synchronization) ∷ (ascii "access", Access) ∷ (ascii "frequency", FrequencyCorrection) ∷ (ascii "dummy", Dummy) ∷ []

unfoldable pub burst_of : List ℕ → Option BurstName
burst_of w = named w bursts
