-- The claims of specs/Claims.antt: by what a frame carries, and computed. Assumes nothing.
use Rattle.std.proofs.Common.{◌≡◌, ℕ, refl}
use Rattle.maps.specs.declared.Blocks.{Blocks}
use Rattle.maps.specs.declared.Blocks.TheVariants.{One, Two}
use Rattle.maps.specs.declared.Content.{Content}
use Rattle.maps.specs.declared.Content.TheVariants.{Idle, Channel}
use Rattle.maps.specs.declared.Kind.{Kind}
use Rattle.maps.specs.declared.Kind.TheVariants.{Tch, Sacch, Sdcch, Fcch, Sch, Bcch, Ccch, Rach}
use Rattle.maps.specs.Numbers.{standing_numbers}
use Rattle.hops.specs.declared.Tuning.{Tuning}
use Rattle.slots.specs.declared.OnAir.{OnAir}
use Rattle.c_answers.specs.Numbers.{on_air_numbers}
use Rattle.wording.specs.Print.{decimal_within}
use Rattle.wording.specs.Table.{cell_text}
use Rattle.timetable.specs.Numbered.{numbered_cell_text}
use Rattle.timetable.specs.Claims.{ShownAlike, OddNumbers}

abbrev sent : Tuning → ℕ → Kind → ℕ → Blocks → OnAir
sent t owner kind s blocks = record { tuning = t; content = Channel (record { kind = kind; subchannel = s; blocks = blocks }); owner = owner }

of_kind : (t : Tuning) (owner : ℕ) (kind : Kind) (s : ℕ) (blocks : Blocks) → numbered_cell_text (on_air_numbers (sent t owner kind s blocks)) ≡ cell_text (sent t owner kind s blocks)
unfolding standing_numbers
of_kind t owner Tch s (One p) = refl
of_kind t owner Tch s (Two p q) = refl
of_kind t owner Sacch s (One p) = refl
of_kind t owner Sacch s (Two p q) = refl
of_kind t owner Sdcch s (One p) = refl
of_kind t owner Sdcch s (Two p q) = refl
of_kind t owner Fcch s (One p) = refl
of_kind t owner Fcch s (Two p q) = refl
of_kind t owner Sch s (One p) = refl
of_kind t owner Sch s (Two p q) = refl
of_kind t owner Bcch s (One p) = refl
of_kind t owner Bcch s (Two p q) = refl
of_kind t owner Ccch s (One p) = refl
of_kind t owner Ccch s (Two p q) = refl
of_kind t owner Rach s (One p) = refl
of_kind t owner Rach s (Two p q) = refl

of_content : (t : Tuning) (owner : ℕ) (c : Content) → numbered_cell_text (on_air_numbers (record { tuning = t; content = c; owner = owner })) ≡ cell_text (record { tuning = t; content = c; owner = owner })
unfolding standing_numbers
of_content t owner Idle = refl
of_content t owner (Channel b) = of_kind t owner b.kind b.subchannel b.blocks

pub shown_alike : ShownAlike
shown_alike = record { same = λ a. of_content a.tuning a.owner a.content }

pub odd_numbers : OddNumbers
unfolding decimal_within
odd_numbers = record { no_channel = refl; last_channel = refl; last_with_owner = refl; common_with_owner = refl; three_blocks = refl; idle = refl }
