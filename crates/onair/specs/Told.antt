-- What the code's answers say. Assumes nothing.
use Rattle.std.specs.Prelude.{Result}
use Rattle.std.specs.Prelude.{Option as MayBe}
use Rattle.std.proofs.Math.Option.{Option}
use Rattle.answers.specs.Outcome.{Outcome}
use Rattle.answers.specs.Refusals.{outcome_by, option_by}
use Rattle.answers.specs.declared.Refusal.{Refusal}
use Rattle.maps.specs.Map.{carried}
use Rattle.slots.specs.declared.OnAir.{OnAir}
use Rattle.slots.specs.declared.Found.{Found}
use Rattle.rules.specs.OnAir.{Slot}
use Rattle.rules.specs.Who.{Match}

-- what the code's answer says
abbrev pub slot_in : OnAir → Slot
slot_in a = record { tuning = a.tuning; standing = carried a.content; owner = a.owner }

-- the line that is named, and what it sends
abbrev pub match_in : Found → Match
match_in f = record { line = f.line; slot = slot_in f.on_air }

abbrev pub sought : Result (MayBe Found) Refusal → Outcome (Option Match)
sought = outcome_by (option_by match_in)
