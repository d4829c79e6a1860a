-- What `standing` holds: exactly the rows that stand in the frame. Assumes nothing.
use Prim.Native.Nat.{ℕ}
use mathlib.Core.Path.{◌≡◌, refl, sym, ap, ◌∙◌, subst}
use mathlib.Core.Bool.{Bool, true, false}
use mathlib.Core.List.Memᴰ
use mathlib.Core.List.{List, [], ◌∷◌, Memᴰ}
use mathlib.Core.Logic.{⊎_elim}
use Rattle.answers.proofs.Tables.{every}
use Rattle.answers.proofs.Tests.{and_left, and_right}
use Rattle.maps.specs.Channels.{Standing}
use Rattle.maps.specs.Rows.{Row, stands, told, put, standing}

-- a test that every entry passes, at one of them
pub every_member : {A : Type 0} (test : A → Bool) (xs : List A) → every test xs ≡ true → (x : A) → Memᴰ x xs → test x ≡ true
unfolding every
every_member test [] e x m = absurd (Memᴰ.not-nil m)
every_member test (y ∷ ys) e x m =
    ⊎_elim (λ q. ap test q ∙ and_left (test y) _ e) (λ w. every_member test ys (and_right (test y) _ e) x w) (Memᴰ.cases_cons m)

-- a row that stands in the frame is told
pub stood : (rows : List Row) (fn : ℕ) (r : Row) → Memᴰ r rows → stands r fn ≡ true → Memᴰ (told r) (standing rows fn)
unfolding standing
stood [] fn r m e = absurd (Memᴰ.not-nil m)
stood (q ∷ qs) fn r m e =
    ⊎_elim (λ w. here w) (λ w. more (stands q fn) (stood qs fn r w e)) (Memᴰ.cases_cons m)
  where
    here : r ≡ q → Memᴰ (told r) (standing (q ∷ qs) fn)
    here w =
        subst (λ (b : Bool). Memᴰ (told r) (put b (told q) (standing qs fn))) (sym (ap (λ (x : Row). stands x fn) (sym w) ∙ e))
        (Memᴰ.head (ap told w))

    more : (b : Bool) → Memᴰ (told r) (standing qs fn) → Memᴰ (told r) (put b (told q) (standing qs fn))
    more true w = Memᴰ.tail w
    more false w = w

-- a row of the list that stands in the frame, and is x
pub record Stood (rows : List Row) (fn : ℕ) (x : Standing) : Type 0 where
  pub by : Row
  pub member : Memᴰ by rows
  pub stands : stands by fn ≡ true
  pub tells : told by ≡ x

-- what is told is a row that stands in the frame
pub standing_stood : (rows : List Row) (fn : ℕ) (x : Standing) → Memᴰ x (standing rows fn) → Stood rows fn x
unfolding standing
standing_stood [] fn x m = absurd (Memᴰ.not-nil m)
standing_stood (q ∷ qs) fn x m = go (stands q fn) refl m (standing_stood qs fn x)
  where
    more : Stood qs fn x → Stood (q ∷ qs) fn x
    more w = record { by = w.by; member = Memᴰ.tail w.member; stands = w.stands; tells = w.tells }

    go : (b : Bool) → stands q fn ≡ b → Memᴰ x (put b (told q) (standing qs fn)) → (Memᴰ x (standing qs fn) → Stood qs fn x) → Stood (q ∷ qs) fn x
    go true e m rest =
        ⊎_elim (λ w. record { by = q; member = Memᴰ.head refl; stands = e; tells = sym w }) (λ w. more (rest w)) (Memᴰ.cases_cons m)
    go false e m rest = more (rest m)
