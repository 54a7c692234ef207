-- Each place that a function has is in the list, so its local has its type.
use Rattle.std.proofs.Common.{◌≡◌, ℕ, zero, suc, ◌+◌, ◌<◌, ◌⊎◌, inl, inr, List, [], ◌∷◌, ◌++◌, length, map, Some, refl, ap, ◌∙◌, subst, arith}
use Rattle.std.specs.Prelude.{slice_get, slice_index_or}
use Rattle.std.proofs.lemmas.Bool.{cases_eq}
use Rattle.isp_base.specs.declared.types.Elem.{Elem}
use Rattle.isp_base.specs.declared.types.Elem.TheVariants.{Bool as Truth}
use Rattle.isp_code.specs.Registers.{class_of, same_class, if_class, param_elems}
use Rattle.isp_code.specs.declared.function.Param.{Param}
use Rattle.isp_code.specs.declared.function.ParamKind.{ParamKind}
use Rattle.isp_code.specs.declared.function.ParamKind.TheVariants as kind
use Rattle.isp_code.specs.declared.register.Class.TheVariants as class
use Rattle.isp_wasm_meaning.specs.Module.{ValueType}
use Rattle.isp_wasm.specs.Places.{Place, Scalar, Vector, Mask, Base, Count, shape_of, parts_for}
use Rattle.isp_wasm.specs.Locals.{row, passing, params_from, taking, taken_from, vector_places, mask_places, array_places, name_of, position, local_at}
use Rattle.isp_wasm.proofs.Numbers.{here, further, name_apart}

-- a place stands in a list
abbrev pub Has : List Place → Place → Type 0
Has qs p = (k : ℕ) × (slice_get qs k ≡ Some p)

pub has_next : (q : Place) (qs : List Place) (p : Place) → Has qs p → Has (q ∷ qs) p
has_next q qs p h = (suc h.0, h.1)

pub has_left : (qs rs : List Place) (p : Place) → Has qs p → Has (qs ++ rs) p
has_left [] rs p h = absurd cc
has_left (q ∷ qs) rs p (zero, e) = (zero, e)
has_left (q ∷ qs) rs p (suc k, e) = has_next q (qs ++ rs) p (has_left qs rs p (k, e))

pub has_right : (qs rs : List Place) (p : Place) → Has rs p → Has (qs ++ rs) p
has_right [] rs p h = h
has_right (q ∷ qs) rs p h = has_next q (qs ++ rs) p (has_right qs rs p h)

-- ---- its local

type_at : (f : Place → ValueType) (qs : List Place) (p : Place) (k : ℕ) → slice_get qs k ≡ Some p → slice_get (map f qs) (position (map name_of qs) (name_of p)) ≡ Some (f p)
type_at f [] p k e = absurd cc
type_at f (q ∷ qs) p k e = by (cases_eq (name_of q) (name_of p)) k e (type_at f qs p)
  where
    by : (name_of q ≡ name_of p) ⊎ (name_of q ≡ name_of p → ⊥) → (k : ℕ) → slice_get (q ∷ qs) k ≡ Some p
        → ((k : ℕ) → slice_get qs k ≡ Some p → slice_get (map f qs) (position (map name_of qs) (name_of p)) ≡ Some (f p))
        → slice_get (map f (q ∷ qs)) (position (map name_of (q ∷ qs)) (name_of p)) ≡ Some (f p)
    by (inl same) k e more =
        ap (λ n. slice_get (f q ∷ map f qs) (position (n ∷ map name_of qs) (name_of p))) same ∙ ap (slice_get (f q ∷ map f qs)) (here (name_of p) (map name_of qs)) ∙ ap (λ z. Some (f z)) (name_apart q p same)
    by (inr ne) zero e more = absurd (let same : q ≡ p = cc in ne (ap name_of same))
    by (inr ne) (suc k) e more = ap (slice_get (f q ∷ map f qs)) (further (name_of q) (name_of p) (map name_of qs) ne) ∙ more k e

map_both : (f : Place → ValueType) (qs rs : List Place) → (map f qs ++ map f rs) ≡ map f (qs ++ rs)
map_both f [] rs = refl
map_both f (q ∷ qs) rs = ap (λ l. f q ∷ l) (map_both f qs rs)

pub local_type : (f : Place → ValueType) (qs rs : List Place) (p : Place) → Has (qs ++ rs) p → slice_get (map f qs ++ map f rs) (local_at (qs ++ rs) p) ≡ Some (f p)
local_type f qs rs p has = ap (λ l. slice_get l (local_at (qs ++ rs) p)) (map_both f qs rs) ∙ type_at f (qs ++ rs) p has.0 has.1

-- ---- which there are

pub row_has : (n : ℕ) (place : ℕ → Place) (j : ℕ) → j < n → Has (row n place) (place j)
row_has zero place j h = absurd (omega (arith, h))
row_has (suc n) place zero h = (zero, refl)
row_has (suc n) place (suc j) h = has_next (place 0) (row n (λ j. place (suc j))) (place (suc j)) (row_has n (λ j. place (suc j)) j (omega (arith, h)))

param_scalar : (k : ParamKind) (t : Elem) (ts : List Elem) (more : ℕ → ℕ → List Place) (r a i : ℕ)
    → ((r a i : ℕ) → i < length ts → Has (more r a) (Scalar (r + i))) → i < length (if_class (same_class (class_of k) class.Scalar) t ts) → Has (passing k more r a) (Scalar (r + i))
param_scalar kind.Vector t ts more r a i all h = all r a i h
param_scalar kind.Array t ts more r a i all h = has_next (Base a) (Count a ∷ more r (suc a)) (Scalar (r + i)) (has_next (Count a) (more r (suc a)) (Scalar (r + i)) (all r (suc a) i h))
param_scalar kind.Scalar t ts more r a zero all h = (zero, ap (λ n. Some (Scalar n)) (let same : r ≡ r + 0 = omega arith in same))
param_scalar kind.Scalar t ts more r a (suc i) all h =
    has_next (Scalar r) (more (suc r) a) (Scalar (r + suc i)) (subst (λ n. Has (more (suc r) a) (Scalar n)) (let same : suc r + i ≡ r + suc i = omega arith in same) (all (suc r) a i (omega (arith, h))))

pub has_scalar : (ps : List Param) (r a i : ℕ) → i < length (param_elems class.Scalar ps) → Has (params_from ps r a) (Scalar (r + i))
has_scalar [] r a i h = absurd (omega (arith, h))
has_scalar (p ∷ ps) r a i h = param_scalar p.kind p.elem (param_elems class.Scalar ps) (params_from ps) r a i (has_scalar ps) h

param_array : (k : ParamKind) (t : Elem) (ts : List Elem) (more : ℕ → ℕ → List Place) (r a i : ℕ)
    → ((r a i : ℕ) → i < length ts → Has (more r a) (Base (a + i)) × Has (more r a) (Count (a + i))) → i < length (if_class (same_class (class_of k) class.Array) t ts)
    → Has (passing k more r a) (Base (a + i)) × Has (passing k more r a) (Count (a + i))
param_array kind.Vector t ts more r a i all h = all r a i h
param_array kind.Scalar t ts more r a i all h = let both = all (suc r) a i h in (has_next (Scalar r) (more (suc r) a) (Base (a + i)) both.0, has_next (Scalar r) (more (suc r) a) (Count (a + i)) both.1)
param_array kind.Array t ts more r a zero all h =
    let same : a ≡ a + 0 = omega arith in ((zero, ap (λ n. Some (Base n)) same), (suc zero, ap (λ n. Some (Count n)) same))
param_array kind.Array t ts more r a (suc i) all h =
    let same : suc a + i ≡ a + suc i = omega arith in
    let both = all r (suc a) i (omega (arith, h)) in (
      has_next (Base a) (Count a ∷ more r (suc a)) (Base (a + suc i)) (has_next (Count a) (more r (suc a)) (Base (a + suc i)) (subst (λ n. Has (more r (suc a)) (Base n)) same both.0)),
      has_next (Base a) (Count a ∷ more r (suc a)) (Count (a + suc i)) (has_next (Count a) (more r (suc a)) (Count (a + suc i)) (subst (λ n. Has (more r (suc a)) (Count n)) same both.1)),
    )

pub has_array : (ps : List Param) (r a i : ℕ) → i < length (param_elems class.Array ps) → Has (params_from ps r a) (Base (a + i)) × Has (params_from ps r a) (Count (a + i))
has_array [] r a i h = absurd (omega (arith, h))
has_array (p ∷ ps) r a i h = param_array p.kind p.elem (param_elems class.Array ps) (params_from ps) r a i (has_array ps) h

pub has_vector : (lanes : ℕ) (ts : List Elem) (r i j : ℕ) → i < length ts → j < parts_for lanes (shape_of (slice_index_or ts i Truth)) → Has (vector_places lanes ts r) (Vector (r + i) j)
has_vector lanes [] r i j h l = absurd (omega (arith, h))
has_vector lanes (t ∷ ts) r zero j h l =
    has_left (row (parts_for lanes (shape_of t)) (Vector r)) (vector_places lanes ts (suc r)) (Vector (r + 0) j)
    (subst (λ n. Has (row (parts_for lanes (shape_of t)) (Vector r)) (Vector n j)) (let same : r ≡ r + 0 = omega arith in same) (row_has (parts_for lanes (shape_of t)) (Vector r) j l))
has_vector lanes (t ∷ ts) r (suc i) j h l =
    has_right (row (parts_for lanes (shape_of t)) (Vector r)) (vector_places lanes ts (suc r)) (Vector (r + suc i) j)
    (subst (λ n. Has (vector_places lanes ts (suc r)) (Vector n j)) (let same : suc r + i ≡ r + suc i = omega arith in same) (has_vector lanes ts (suc r) i j (omega (arith, h)) l))

pub has_mask : (n r i j : ℕ) → i < n → j < 2 → Has (mask_places n r) (Mask (r + i) j)
has_mask zero r i j h l = absurd (omega (arith, h))
has_mask (suc n) r zero zero h l = (zero, ap (λ n. Some (Mask n 0)) (let same : r ≡ r + 0 = omega arith in same))
has_mask (suc n) r zero (suc zero) h l = (suc zero, ap (λ n. Some (Mask n 1)) (let same : r ≡ r + 0 = omega arith in same))
has_mask (suc n) r zero (suc (suc j)) h l = absurd (omega (arith, l))
has_mask (suc n) r (suc i) j h l =
    has_next (Mask r 0) (Mask r 1 ∷ mask_places n (suc r)) (Mask (r + suc i) j) (has_next (Mask r 1) (mask_places n (suc r)) (Mask (r + suc i) j)
    (subst (λ n'. Has (mask_places n (suc r)) (Mask n' j)) (let same : suc r + i ≡ r + suc i = omega arith in same) (has_mask n (suc r) i j (omega (arith, h)) l)))

pub has_own : (n a i : ℕ) → i < n → Has (array_places n a) (Base (a + i)) × Has (array_places n a) (Count (a + i))
has_own zero a i h = absurd (omega (arith, h))
has_own (suc n) a zero h = let same : a ≡ a + 0 = omega arith in ((zero, ap (λ k. Some (Base k)) same), (suc zero, ap (λ k. Some (Count k)) same))
has_own (suc n) a (suc i) h =
    let more = has_own n (suc a) i (omega (arith, h)) in
    let same : suc a + i ≡ a + suc i = omega arith in (
      has_next (Base a) (Count a ∷ array_places n (suc a)) (Base (a + suc i)) (has_next (Count a) (array_places n (suc a)) (Base (a + suc i)) (subst (λ k. Has (array_places n (suc a)) (Base k)) same more.0)),
      has_next (Base a) (Count a ∷ array_places n (suc a)) (Count (a + suc i)) (has_next (Count a) (array_places n (suc a)) (Count (a + suc i)) (subst (λ k. Has (array_places n (suc a)) (Count k)) same more.1)),
    )

-- ---- of a function that another one calls

taken_scalar : (lanes : ℕ) (k : ParamKind) (t : Elem) (ts : List Elem) (more : ℕ → ℕ → ℕ → List Place) (r v a i : ℕ)
    → ((r v a i : ℕ) → i < length ts → Has (more r v a) (Scalar (r + i))) → i < length (if_class (same_class (class_of k) class.Scalar) t ts) → Has (taking lanes k t more r v a) (Scalar (r + i))
taken_scalar lanes kind.Vector t ts more r v a i all h = has_right (row (parts_for lanes (shape_of t)) (Vector v)) (more r (suc v) a) (Scalar (r + i)) (all r (suc v) a i h)
taken_scalar lanes kind.Array t ts more r v a i all h = has_next (Base a) (Count a ∷ more r v (suc a)) (Scalar (r + i)) (has_next (Count a) (more r v (suc a)) (Scalar (r + i)) (all r v (suc a) i h))
taken_scalar lanes kind.Scalar t ts more r v a zero all h = (zero, ap (λ n. Some (Scalar n)) (let same : r ≡ r + 0 = omega arith in same))
taken_scalar lanes kind.Scalar t ts more r v a (suc i) all h =
    has_next (Scalar r) (more (suc r) v a) (Scalar (r + suc i)) (subst (λ n. Has (more (suc r) v a) (Scalar n)) (let same : suc r + i ≡ r + suc i = omega arith in same) (all (suc r) v a i (omega (arith, h))))

pub has_taken_scalar : (lanes : ℕ) (ps : List Param) (r v a i : ℕ) → i < length (param_elems class.Scalar ps) → Has (taken_from lanes ps r v a) (Scalar (r + i))
has_taken_scalar lanes [] r v a i h = absurd (omega (arith, h))
has_taken_scalar lanes (p ∷ ps) r v a i h = taken_scalar lanes p.kind p.elem (param_elems class.Scalar ps) (taken_from lanes ps) r v a i (has_taken_scalar lanes ps) h

abbrev HasBoth : List Place → ℕ → Type 0
HasBoth qs a = Has qs (Base a) × Has qs (Count a)

taken_array : (lanes : ℕ) (k : ParamKind) (t : Elem) (ts : List Elem) (more : ℕ → ℕ → ℕ → List Place) (r v a i : ℕ)
    → ((r v a i : ℕ) → i < length ts → HasBoth (more r v a) (a + i)) → i < length (if_class (same_class (class_of k) class.Array) t ts) → HasBoth (taking lanes k t more r v a) (a + i)
taken_array lanes kind.Vector t ts more r v a i all h =
    let both = all r (suc v) a i h in
    let qs = row (parts_for lanes (shape_of t)) (Vector v) in (has_right qs (more r (suc v) a) (Base (a + i)) both.0, has_right qs (more r (suc v) a) (Count (a + i)) both.1)
taken_array lanes kind.Scalar t ts more r v a i all h = let both = all (suc r) v a i h in (has_next (Scalar r) (more (suc r) v a) (Base (a + i)) both.0, has_next (Scalar r) (more (suc r) v a) (Count (a + i)) both.1)
taken_array lanes kind.Array t ts more r v a zero all h =
    let same : a ≡ a + 0 = omega arith in ((zero, ap (λ n. Some (Base n)) same), (suc zero, ap (λ n. Some (Count n)) same))
taken_array lanes kind.Array t ts more r v a (suc i) all h =
    let same : suc a + i ≡ a + suc i = omega arith in
    let both = all r v (suc a) i (omega (arith, h)) in (
      has_next (Base a) (Count a ∷ more r v (suc a)) (Base (a + suc i)) (has_next (Count a) (more r v (suc a)) (Base (a + suc i)) (subst (λ n. Has (more r v (suc a)) (Base n)) same both.0)),
      has_next (Base a) (Count a ∷ more r v (suc a)) (Count (a + suc i)) (has_next (Count a) (more r v (suc a)) (Count (a + suc i)) (subst (λ n. Has (more r v (suc a)) (Count n)) same both.1)),
    )

pub has_taken_array : (lanes : ℕ) (ps : List Param) (r v a i : ℕ) → i < length (param_elems class.Array ps) → HasBoth (taken_from lanes ps r v a) (a + i)
has_taken_array lanes [] r v a i h = absurd (omega (arith, h))
has_taken_array lanes (p ∷ ps) r v a i h = taken_array lanes p.kind p.elem (param_elems class.Array ps) (taken_from lanes ps) r v a i (has_taken_array lanes ps) h
