-- A frame map repeats: what stands in FN is what stands in FN modulo any number that all its rows' periods divide. Assumes nothing.
use Prim.Native.Nat.{ℕ, ◌%◌}
use mathlib.Core.Path.{◌≡◌, refl, sym, ap, ◌∙◌}
use mathlib.Core.Bool.{Bool, true, ◌&&◌}
use mathlib.Core.List.{List, [], ◌∷◌}
use lib.Dec.{eqb, ltb}
use borrow.Author.Tests.{eqb-true, ltb-true}
use native.Mathlib.Nat.{mod-mod_of_dvd, dvd_of_mod-eq-zero, mod-lt}
use Rattle.answers.specs.Search.{all_below}
use Rattle.answers.proofs.Search.{all_at}
use Rattle.answers.proofs.Tests.{and_left, and_right}
use Rattle.maps.specs.Channels.{Standing}
use Rattle.maps.proofs.Same.{same_all, all_same}
use Rattle.maps.specs.Rows.{Row, stands, told, put, standing}

-- every row's period divides p
unfoldable pub repeats : ℕ → List Row → Bool
repeats p [] = true
repeats p (r ∷ rs) = eqb (p % r.period) 0 && repeats p rs

pub standing_mod : (p : ℕ) (rows : List Row) → repeats p rows ≡ true → (fn : ℕ) → standing rows (fn % p) ≡ standing rows fn
unfolding repeats standing
standing_mod p [] e fn = refl
standing_mod p (r ∷ rs) e fn =
    let m : (fn % p) % r.period ≡ fn % r.period =
    mod-mod_of_dvd _ fn (dvd_of_mod-eq-zero _ (eqb-true _ _ (and_left (eqb (p % r.period) 0) _ e))) in
    ap (λ (n : ℕ). put (eqb n r.frame) (told r) (standing rs (fn % p))) m
    ∙ ap (put (stands r fn) (told r)) (standing_mod p rs (and_right (eqb (p % r.period) 0) _ e) fn)

-- a test of what stands in a frame, passed in each of the p frames that repeat ..
unfoldable pub all_frames : (List Standing → Bool) → ℕ → List Row → Bool
all_frames test p rows = ltb 0 p && (repeats p rows && all_below (λ (f : ℕ). test (standing rows f)) p)

-- .. is passed in every frame
pub every_frame : (test : List Standing → Bool) (p : ℕ) (rows : List Row) → all_frames test p rows ≡ true → (fn : ℕ) → test (standing rows fn) ≡ true
unfolding all_frames
every_frame test p rows e fn =
    let w = and_right (ltb 0 p) (repeats p rows && all_below (λ (f : ℕ). test (standing rows f)) p) e in
    ap test (sym (standing_mod p rows (and_left (repeats p rows) _ w) fn))
    ∙ all_at (λ (f : ℕ). test (standing rows f)) p (and_right (repeats p rows) _ w) (fn % p) (mod-lt fn (ltb-true _ _ (and_left (ltb 0 p) _ e)))

-- two accounts of what stands in a frame that repeat after p frames and agree in each of them ..
abbrev pub all_agree : (ℕ → List Standing) → (ℕ → List Standing) → ℕ → Bool
all_agree these those p = ltb 0 p && all_below (λ (f : ℕ). same_all (these f) (those f)) p

-- .. agree in every frame
pub every_agree : (these those : ℕ → List Standing) (p : ℕ) → all_agree these those p ≡ true
    → (fn : ℕ) → these (fn % p) ≡ these fn → those (fn % p) ≡ those fn → these fn ≡ those fn
every_agree these those p e fn a b =
    sym a
    ∙ (all_same _ _ (all_at (λ (f : ℕ). same_all (these f) (those f)) p (and_right (ltb 0 p) _ e) (fn % p)
    (mod-lt fn (ltb-true _ _ (and_left (ltb 0 p) _ e))))
    ∙ b)
