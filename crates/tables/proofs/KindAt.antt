-- The kind of a channel number, by the conversion. Assumes nothing.
use Prim.Native.Nat.{ℕ}
use mathlib.Core.Path.{◌≡◌, refl, sym, ap, ◌∙◌}
use Rattle.std.specs.Prelude.{Result, Ok, Err}
use Rattle.std.specs.Result.{result_unwrap_or}
use borrow.Author.Tests.{ne_eqb}
use Rattle.answers.specs.declared.Refusal.{Refusal}
use Rattle.maps.specs.declared.Kind.{Kind}
use Rattle.maps.specs.declared.Kind.TheVariants.{Tch, Sacch, Sdcch, Fcch, Sch, Bcch, Ccch, Rach}
use Rattle.maps.specs.Channels.{kind_number, kind_at, IsKindOf}

back : (kind : Kind) → kind ≡ kind_at (kind_number kind)
unfolding kind_at
back Tch = refl
back Sacch = refl
back Sdcch = refl
back Fcch = refl
back Sch = refl
back Bcch = refl
back Ccch = refl
back Rach = refl

-- a number that no kind has is taken for RACH's
pub kind_or_rach : (n : ℕ) (r : Result Kind Refusal) → IsKindOf n r → result_unwrap_or r Rach ≡ kind_at n
unfolding kind_at
kind_or_rach n (Ok kind) h = back kind ∙ ap kind_at h
kind_or_rach n (Err e) h = sym (rw (ne_eqb n 1 (λ q. h.1 Tch (sym q)), ne_eqb n 2 (λ q. h.1 Sacch (sym q)), ne_eqb n 3 (λ q. h.1 Sdcch (sym q)), ne_eqb n 4 (λ q. h.1 Fcch (sym q)), ne_eqb n 5 (λ q. h.1 Sch (sym q)), ne_eqb n 6 (λ q. h.1 Bcch (sym q)), ne_eqb n 7 (λ q. h.1 Ccch (sym q))) refl)
