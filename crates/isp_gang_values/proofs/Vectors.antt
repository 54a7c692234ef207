-- Vectors that grow.
use Rattle.std.proofs.Common.{◌≡◌, refl, sym, ap, ◌∙◌, ℕ, zero, suc, ◌+◌, ◌<◌, ◌≤◌, Bool, false, List, [], ◌∷◌, ◌++◌, arith, length, get_or, nat_eq, replicate}
use Rattle.std.specs.Prelude.{slice_set, if◌then◌else◌}
use Rattle.std.proofs.Math.Path.{fun_ext}
use Rattle.std.proofs.Math.Dec.{eqb-suc-zero, eqb-zero-suc, eqb-suc-suc}
use Rattle.isp_base.specs.Maps.{put, lane_of}
use Rattle.isp_base.specs.Types.{widest}
use Rattle.isp_gang_values.specs.Growing.{at_each}
use Rattle.isp_gang_values.proofs.Made.{repeated}

other : {B : Type 0} (x y : B) (b : Bool) → b ≡ false → y ≡ (if b then x else y)
other x y b e = sym (ap (λ t. if t then x else y) e)

module _ {A B : Type 0} (see : A → B) (none : B) where
  pub at_past : (xs : List A) (p : ℕ) → length xs ≤ p → at_each see none xs p ≡ none
  at_past [] p h = refl
  at_past (x ∷ xs) zero h = absurd (omega (arith, h))
  at_past (x ∷ xs) (suc p) h = at_past xs p (omega (arith, h))

  pub at_there : (xs : List A) (p : ℕ) (d : A) → p < length xs → at_each see none xs p ≡ see (get_or xs p d)
  at_there [] p d h = absurd (omega (arith, h))
  at_there (x ∷ xs) zero d h = refl
  at_there (x ∷ xs) (suc p) d h = at_there xs p d (omega (arith, h))

  -- one more that is seen as nothing
  pub padded : (xs : List A) (x : A) (p : ℕ) → see x ≡ none → at_each see none (xs ++ x ∷ []) p ≡ at_each see none xs p
  padded [] x zero e = e
  padded [] x (suc p) e = refl
  padded (y ∷ xs) x zero e = refl
  padded (y ∷ xs) x (suc p) e = padded xs x p e

  pub padded_all : (xs : List A) (x : A) → see x ≡ none → at_each see none (xs ++ x ∷ []) ≡ at_each see none xs
  padded_all xs x e = fun_ext (λ p. padded xs x p e)

  pub pushed : (xs : List A) (x : A) (n : ℕ) → length xs ≡ n → at_each see none (xs ++ x ∷ []) ≡ put (at_each see none xs) n (see x)
  pushed xs x n long = fun_ext (λ p. by xs p n long)
    where
      by : (xs : List A) (p n : ℕ) → length xs ≡ n → at_each see none (xs ++ x ∷ []) p ≡ (if nat_eq p n then see x else at_each see none xs p)
      by [] zero zero e = refl
      by [] zero (suc n) e = absurd (omega (arith, e))
      by [] (suc p) zero e = other (see x) none (nat_eq (suc p) 0) (eqb-suc-zero p)
      by [] (suc p) (suc n) e = absurd (omega (arith, e))
      by (y ∷ ys) zero zero e = absurd (omega (arith, e))
      by (y ∷ ys) zero (suc n) e = other (see x) (see y) (nat_eq 0 (suc n)) (eqb-zero-suc n)
      by (y ∷ ys) (suc p) zero e = absurd (omega (arith, e))
      by (y ∷ ys) (suc p) (suc n) e = by ys p n (omega (arith, e)) ∙ ap (λ b. if b then see x else at_each see none ys p) (sym (eqb-suc-suc p n))

  pub written : (xs : List A) (x : A) (n : ℕ) → n < length xs → at_each see none (slice_set xs n x) ≡ put (at_each see none xs) n (see x)
  written xs x n h = fun_ext (λ p. by xs p n h)
    where
      by : (xs : List A) (p n : ℕ) → n < length xs → at_each see none (slice_set xs n x) p ≡ (if nat_eq p n then see x else at_each see none xs p)
      by [] p n h = absurd (omega (arith, h))
      by (y ∷ ys) zero zero h = refl
      by (y ∷ ys) (suc p) zero h = other (see x) (at_each see none ys p) (nat_eq (suc p) 0) (eqb-suc-zero p)
      by (y ∷ ys) zero (suc n) h = other (see x) (see y) (nat_eq 0 (suc n)) (eqb-zero-suc n)
      by (y ∷ ys) (suc p) (suc n) h = by ys p n (omega (arith, h)) ∙ ap (λ b. if b then see x else at_each see none ys p) (sym (eqb-suc-suc p n))

pub longer : {A : Type 0} (xs : List A) (x : A) (n : ℕ) → length xs ≡ n → length (xs ++ x ∷ []) ≡ n + 1
longer [] x n e = omega (arith, e)
longer (y ∷ xs) x zero e = absurd (omega (arith, e))
longer (y ∷ xs) x (suc n) e = let h = longer xs x n (omega (arith, e)) in omega (arith, h)

pub zeros : lane_of (replicate widest 0) ≡ (λ p. 0)
zeros = fun_ext (λ p. repeated widest p 0)
