-- Maps and stores that are the same where the lanes of a mask are, and maps that have a value just there.
use Rattle.std.proofs.Common.{◌≡◌, ℕ, Option, Some, None, Bool, true, false, refl, sym, ap, ◌∙◌}
use Rattle.std.specs.Prelude.{if◌then◌else◌, nat_eq}
use Rattle.isp_base.specs.Maps.{Lanes, Map, on, over, or_old, each1, each2, map1, map2, holds}
use Rattle.isp_base.specs.Sets.{Mask}
use Rattle.isp_base.specs.Stores.{own_put}

-- two vectors have the same in the lanes of a mask
abbrev pub SameOn : Mask → Lanes → Lanes → Type 0
SameOn a x y = (p : ℕ) → a p ≡ true → x p ≡ y p

pub on_same : (a : Mask) (x y : Lanes) → SameOn a x y → on a x ≡ on a y
on_same a x y same = λ i p. at p i
  where
    by : (p : ℕ) (b : Bool) → a p ≡ b → (if b then Some (x p) else None) ≡ (if b then Some (y p) else None)
    by p true e = ap (λ v. let o : Option ℕ = Some v in o) (same p e)
    by p false e = refl

    at : (p : ℕ) → on a x p ≡ on a y p
    at p = by p (a p) refl

-- what lanes store into their own arrays
pub own_same : (g : ℕ → ℕ) (a : Mask) (j x y : Lanes) (f : ℕ → Lanes) → SameOn a x y → own_put (map1 g (on a j)) x f ≡ own_put (map1 g (on a j)) y f
own_same g a j x y f same = λ i e p. at e p i
  where
    by : (e p : ℕ) (b : Bool) → a p ≡ b
        → (if holds (λ i. nat_eq i e) (each1 g (if b then Some (j p) else None)) then x p else f e p) ≡ (if holds (λ i. nat_eq i e) (each1 g (if b then Some (j p) else None)) then y p else f e p)
    by e p true h = ap (λ v. if nat_eq (g (j p)) e then v else f e p) (same p h)
    by e p false h = refl

    at : (e p : ℕ) → own_put (map1 g (on a j)) x f e p ≡ own_put (map1 g (on a j)) y f e p
    at e p = by e p (a p) refl

-- a map has a value in the lanes of a mask, and nowhere else
pub record HasJust (a : Mask) (x : Map) : Type 0 where
  pub some : (p : ℕ) → a p ≡ true → (v : ℕ) × (x p ≡ Some v)
  pub none : (p : ℕ) → a p ≡ false → x p ≡ None

pub just_on : (a : Mask) (f : Lanes) → HasJust a (on a f)
just_on a f = record { some = λ p e. (f p, ap (λ b. let o : Option ℕ = if b then Some (f p) else None in o) e); none = λ p e. ap (λ b. let o : Option ℕ = if b then Some (f p) else None in o) e }

pub just_each : (a : Mask) (g : ℕ → ℕ → ℕ) (x : Map) → HasJust a x → HasJust a (λ p. each1 (g p) (x p))
just_each a g x just = record { some = λ p e. let s = just.some p e in (g p s.0, ap (each1 (g p)) s.1); none = λ p e. ap (each1 (g p)) (just.none p e) }

pub just_map1 : (a : Mask) (g : ℕ → ℕ) (x : Map) → HasJust a x → HasJust a (map1 g x)
just_map1 a g x just = just_each a (λ p. g) x just

pub just_map2 : (a : Mask) (g : ℕ → ℕ → ℕ) (x y : Map) → HasJust a x → HasJust a y → HasJust a (map2 g x y)
just_map2 a g x y f e =
    record {
      some = λ p h. let s = f.some p h in let t = e.some p h in (g s.0 t.0, ap (λ o. each2 g o (y p)) s.1 ∙ ap (each2 g (Some s.0)) t.1);
      none = λ p h. ap (λ o. each2 g o (y p)) (f.none p h);
    }

-- written over two vectors, it makes them the same there, and keeps each elsewhere
pub over_some : (a : Mask) (x : Map) → HasJust a x → (p : ℕ) → a p ≡ true → (y z : Lanes) → over x y p ≡ over x z p
over_some a x just p e y z = let s = just.some p e in ap (λ o. or_old o (y p)) s.1 ∙ sym (ap (λ o. or_old o (z p)) s.1)

pub over_none : (a : Mask) (x : Map) → HasJust a x → (p : ℕ) → a p ≡ false → (y : Lanes) → over x y p ≡ y p
over_none a x just p e y = ap (λ o. or_old o (y p)) (just.none p e)
