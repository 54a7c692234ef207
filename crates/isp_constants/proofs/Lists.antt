-- Lists that have an element, and functions that are changed at one place.
use Rattle.std.proofs.Common.{◌≡◌, ℕ, zero, suc, ◌<◌, List, [], ◌∷◌, length, Bool, true, false, inl, inr, refl, sym, ap, ◌∙◌, arith, Contains}
use Rattle.std.specs.Prelude.{slice_index_or, nat_eq}
use Rattle.std.specs.List.{list_any, list_all}
use Rattle.std.proofs.lemmas.Bool.{and_parts, or_cases}
use Rattle.isp_base.specs.Maps.{put}

module _ {X : Type 0} where
  has_more : (x y : X) (xs : List X) → Contains xs y → Contains (x ∷ xs) y
  has_more x y xs h = (suc h.0, omega (arith, h.1), h.2)

  pub all_has : (p : X → Bool) (xs : List X) (x : X) → list_all p xs ≡ true → Contains xs x → p x ≡ true
  all_has p xs x e h = at xs h.0 e h.1 h.2
    where
      at : (ys : List X) (k : ℕ) → list_all p ys ≡ true → k < length ys → slice_index_or ys k x ≡ x → p x ≡ true
      at [] k e l same = absurd (omega arith)
      at (y ∷ ys) zero e l same = ap p (sym same) ∙ (and_parts (p y) (list_all p ys) e).0
      at (y ∷ ys) (suc k) e l same = at ys k (and_parts (p y) (list_all p ys) e).1 (omega arith) same

  -- the first one that a test finds
  pub any_has : (p : X → Bool) (xs : List X) → list_any p xs ≡ true → (x : X) × Contains xs x × (p x ≡ true)
  any_has p [] e = absurd cc
  any_has p (y ∷ ys) e =
      elim (or_cases (p y) (list_any p ys) e) [
        | inl h ↦ (y, (0, omega arith, refl), h)
        | inr h ↦ more (any_has p ys h)
      ]
    where
      more : (x : X) × Contains ys x × (p x ≡ true) → (x : X) × Contains (y ∷ ys) x × (p x ≡ true)
      more h = (h.0, has_more y h.0 ys h.1, h.2)

module _ {A : Type 0} (f : ℕ → A) (d : ℕ) (x : A) (r : ℕ) where
  pub put_here : nat_eq r d ≡ true → put f d x r ≡ x
  put_here e = rw e refl

  pub put_kept : nat_eq r d ≡ false → put f d x r ≡ f r
  put_kept e = rw e refl
