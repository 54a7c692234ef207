-- Lists that are made place by place: as long as the widest gang, up to place i as a function says, and the default from there on.
use Rattle.std.proofs.Common.{◌≡◌, refl, sym, ◌∙◌, subst, ⊎_elim, ℕ, zero, suc, ◌+◌, ◌<◌, ◌≤◌, List, [], ◌∷◌, arith, length, get_or, replicate}
use Rattle.std.specs.Prelude.{slice_set}
use Rattle.std.proofs.Math.Path.{fun_ext}
use Rattle.std.proofs.Math.ListN.{length-set}
use Rattle.std.proofs.lemmas.Bool.{cases_eq, cases_lt}
use Rattle.std.proofs.lemmas.List.{get_or-set_other, get_or-set_same}
use Rattle.isp_base.specs.Types.{widest}

pub past : {A : Type 0} (xs : List A) (p : ℕ) (d : A) → length xs ≤ p → get_or xs p d ≡ d
past [] p d h = refl
past (x ∷ xs) zero d h = absurd (omega (arith, h))
past (x ∷ xs) (suc p) d h = past xs p d (omega (arith, h))

pub repeated : {A : Type 0} (n p : ℕ) (d : A) → get_or (replicate n d) p d ≡ d
repeated zero p d = refl
repeated (suc n) zero d = refl
repeated (suc n) (suc p) d = repeated n p d

pub record Made {A : Type 0} (d : A) (f : ℕ → A) (xs : List A) (i : ℕ) : Type 0 where
  pub long : length xs ≡ widest
  pub done : (p : ℕ) → p < i → get_or xs p d ≡ f p
  pub off : (p : ℕ) → i ≤ p → get_or xs p d ≡ d

module _ {A : Type 0} (d : A) (f : ℕ → A) where
  pub begins : (xs : List A) → length xs ≡ widest → ((p : ℕ) → get_or xs p d ≡ d) → Made d f xs 0
  begins xs long off = record { long = long; done = λ p h. absurd (omega (arith, h)); off = λ p h. off p }

  pub next : (xs : List A) (i : ℕ) (v : A) → Made d f xs i → i < widest → v ≡ f i → Made d f (slice_set xs i v) (i + 1)
  next xs i v m lt is =
      record {
        long = length-set xs i v ∙ m.long;
        done = λ p h. ⊎_elim (λ (e : p ≡ i). subst (λ q. get_or (slice_set xs i v) q d ≡ f q) (sym e)
            (get_or-set_same xs i v d (omega (arith, m.long, lt)) ∙ is)) (λ ne. get_or-set_other xs i p v d ne ∙ m.done p (omega (arith, ne, h)))
            (cases_eq p i);
        off = λ p h. ⊎_elim (λ (e : p ≡ i). absurd (omega (arith, e, h))) (λ ne. get_or-set_other xs i p v d ne ∙ m.off p (omega (arith, h))) (cases_eq p i);
      }

  pub skip : (xs : List A) (i : ℕ) → Made d f xs i → d ≡ f i → Made d f xs (i + 1)
  skip xs i m is =
      record {
        long = m.long;
        done = λ p h. ⊎_elim (λ (e : p ≡ i). subst (λ q. get_or xs q d ≡ f q) (sym e) (m.off i (omega arith) ∙ is)) (λ ne. m.done p (omega (arith, ne, h))) (cases_eq p i);
        off = λ p h. m.off p (omega (arith, h));
      }

  pub made : (xs : List A) (n : ℕ) → Made d f xs n → ((p : ℕ) → n ≤ p → f p ≡ d) → (λ p. get_or xs p d) ≡ f
  made xs n m outside = fun_ext (λ p. ⊎_elim (λ (h : p < n). m.done p h) (λ h. m.off p h ∙ sym (outside p h)) (cases_lt p n))
