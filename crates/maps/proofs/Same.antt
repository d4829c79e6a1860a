-- Tests of equality on kinds and on what stands in a frame. Assumes nothing.
use Prim.Native.Nat.{ℕ}
use mathlib.Core.Path.{◌≡◌, refl, sym, ap, ◌∙◌}
use mathlib.Core.Bool.{Bool, true, false, ◌&&◌}
use mathlib.Core.List.{List, [], ◌∷◌}
use lib.Dec.{eqb}
use borrow.Author.Tests.{eqb-true}
use Rattle.answers.proofs.Tests.{and_left, and_right, not_both}
use Rattle.maps.specs.declared.Kind.{Kind}
use Rattle.maps.specs.declared.Kind.TheVariants.{Tch, Sacch, Sdcch, Fcch, Sch, Bcch, Ccch, Rach}
use Rattle.maps.specs.Channels.{Standing, kind_number, kind_at, at}

-- kinds with one number are one kind
pub kind_back : (k : Kind) → kind_at (kind_number k) ≡ k
unfolding kind_at
kind_back Tch = refl
kind_back Sacch = refl
kind_back Sdcch = refl
kind_back Fcch = refl
kind_back Sch = refl
kind_back Bcch = refl
kind_back Ccch = refl
kind_back Rach = refl

pub kind_same : (j k : Kind) → eqb (kind_number j) (kind_number k) ≡ true → j ≡ k
kind_same j k e = sym (kind_back j) ∙ (ap kind_at (eqb-true _ _ e) ∙ kind_back k)

-- one channel: kind and subchannel agree
abbrev pub same_channel : Standing → Standing → Bool
same_channel x y = eqb (kind_number x.kind) (kind_number y.kind) && eqb x.subchannel y.subchannel

abbrev pub same_standing : Standing → Standing → Bool
same_standing x y = same_channel x y && (eqb x.block y.block && eqb x.place y.place)

unfoldable pub same_all : List Standing → List Standing → Bool
same_all [] [] = true
same_all [] (y ∷ ys) = false
same_all (x ∷ xs) [] = false
same_all (x ∷ xs) (y ∷ ys) = same_standing x y && same_all xs ys

pub channel_same : (x y : Standing) → same_channel x y ≡ true → (x.kind ≡ y.kind) × (x.subchannel ≡ y.subchannel)
channel_same x y e = (kind_same _ _ (and_left _ _ e), eqb-true _ _ (and_right (eqb (kind_number x.kind) (kind_number y.kind)) _ e))

at_same : {j k : Kind} {s t a b p q : ℕ} → j ≡ k → s ≡ t → a ≡ b → p ≡ q → at j s a p ≡ at k t b q
at_same {j} {k} {s} {t} {a} {b} {p} {q} ek es eb ep = rw (ek, es, eb, ep)

pub standing_same : (x y : Standing) → same_standing x y ≡ true → x ≡ y
standing_same x y e =
    let c = channel_same x y (and_left (same_channel x y) _ e) in
    let p = and_right (same_channel x y) (eqb x.block y.block && eqb x.place y.place) e in
    at_same c.0 c.1 (eqb-true _ _ (and_left (eqb x.block y.block) _ p))
    (eqb-true _ _ (and_right (eqb x.block y.block) _ p))

pub all_same : (xs ys : List Standing) → same_all xs ys ≡ true → xs ≡ ys
unfolding same_all
all_same [] [] e = refl
all_same [] (y ∷ ys) e = not_both e refl
all_same (x ∷ xs) [] e = not_both e refl
all_same (x ∷ xs) (y ∷ ys) e =
    let h : x ≡ y = standing_same x y (and_left (same_standing x y) _ e) in
    let t : xs ≡ ys = all_same xs ys (and_right (same_standing x y) _ e) in
    cc
