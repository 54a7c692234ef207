-- Where the rows of a function's arrays come first, in the order of its variables, its arrays stand as an entry's do.
use Rattle.std.proofs.Common.{◌≡◌, ◌≢◌, ℕ, zero, suc, ◌+◌, ◌≤◌, List, [], ◌∷◌, ◌++◌, length, map, take, drop, Some, None, true, refl, sym, ap, ◌∙◌, subst, arith, eq-eqb}
use Rattle.std.specs.Prelude.{slice_get, if◌then◌else◌}
use Rattle.std.specs.List.{All}
use Rattle.std.proofs.lemmas.Bool.{ne_eqb}
use Rattle.std.proofs.lemmas.Option.{same_Some, get_or_from_slice_get, slice_get_within}
use Rattle.isp_base.specs.declared.signature.Parameter.{Parameter}
use Rattle.isp_base.specs.declared.types.Elem.{Elem}
use Rattle.isp_base.specs.declared.types.Rate.{Rate}
use Rattle.isp_base.specs.declared.types.Ty.{Ty}
use Rattle.isp_code.specs.Entries.{is_array, parameter_of, parameters_of}
use Rattle.isp_code.specs.Listing.{Routine}
use Rattle.isp_code.specs.Registers.{class_of, same_class, if_class, param_elems, passed}
use Rattle.isp_code.specs.declared.function.Param.{Param}
use Rattle.isp_code.specs.declared.function.ParamKind.{ParamKind}
use Rattle.isp_code.specs.declared.function.ParamKind.TheVariants as kind
use Rattle.isp_code.specs.declared.register.Class.TheVariants as class
use Rattle.isp_typed.specs.Fine.{IsParam, AreParams, IsDeclared, IsSized, FineFunction}
use Rattle.isp_typed.specs.Typed.{TFunction}
use Rattle.isp_typed.specs.declared.variable.Holds.{Holds}
use Rattle.isp_typed.specs.declared.variable.Holds.TheVariants as holds
use Rattle.isp_typed.specs.declared.variable.Variable.{Variable as Declared}
use Rattle.isp_lower_code.specs.FirstRows.{Begins, row_at, array_row, array_rows}
use Rattle.isp_lower_code.specs.Rows.{Variable, Row, Rows, name_number, number_in, layout_of}
use Rattle.isp_lower_code.specs.Header.{locals_of}
use Rattle.isp_masks_code.specs.Arrays.{array_then, array_count, count_then, local_count, ArraysStand}

-- ---- how many are passed

passed_count : (ps : List Param) → length (param_elems class.Array ps) ≡ array_count (map parameter_of ps)
passed_count [] = refl
passed_count (p ∷ ps) = go p.kind (passed_count ps)
  where
    go : (k : ParamKind) → length (param_elems class.Array ps) ≡ array_count (map parameter_of ps)
        → length (if_class (same_class (class_of k) class.Array) p.elem (param_elems class.Array ps))
        ≡ array_then (is_array k) (array_count (map parameter_of ps))
    go kind.Scalar e = e
    go kind.Vector e = e
    go kind.Array e = ap suc e

-- ---- numbers of rows

own_row : (k y : ℕ) (t : Elem) (rows : List Row) → y ≡ k → number_in (row_at k t ∷ rows) (Variable y) ≡ 0
own_row k y t rows e =
    let same : name_number (Variable k) ≡ name_number (Variable y) = omega (arith, e) in
    ap (λ z. if z then 0 else 1 + number_in rows (Variable y)) (eq-eqb (name_number (Variable k)) (name_number (Variable y)) same)

other_row : (k y n : ℕ) (t : Elem) (rows : List Row) → y ≢ k → number_in rows (Variable y) ≡ n → number_in (row_at k t ∷ rows) (Variable y) ≡ suc n
other_row k y n t rows ne e =
    let other : name_number (Variable k) ≢ name_number (Variable y) = λ same. ne (omega (arith, same)) in
    let step : 1 + n ≡ suc n = omega arith in
    ap (λ z. if z then 0 else 1 + number_in rows (Variable y)) (ne_eqb (name_number (Variable k)) (name_number (Variable y)) other) ∙ ap (λ z. 1 + z) e ∙ step

-- ---- what a function declares

declared_at : (vs : List Declared) (v : ℕ) (x : Declared) → All IsDeclared vs → slice_get vs v ≡ Some x → IsDeclared x
declared_at vs v x all e = subst IsDeclared (get_or_from_slice_get vs v x x e) (all v x (slice_get_within vs v x e))

no_given : (x : Declared) (t : Elem) → x.holds ≡ holds.Given t → IsDeclared x → ⊥
no_given x t e d =
    let is : x ≡ record { holds = holds.Given t; constant = x.constant } = ap (λ z. record { holds = z; constant = x.constant }) e in
    subst IsDeclared is d

sized : (x : Declared) (t : Ty) (m : ℕ) → x.holds ≡ holds.Local t m → IsDeclared x → IsSized m
sized x t m e d =
    let is : x ≡ record { holds = holds.Local t m; constant = x.constant } = ap (λ z. record { holds = z; constant = x.constant }) e in
    subst IsDeclared is d

-- among what is declared only local arrays have rows
declared_number : (vs : List Declared) (more : List Row) (k v y : ℕ) (x : Declared) (t : Ty) (m : ℕ) → y ≡ k + v → All IsDeclared vs → slice_get vs v ≡ Some x → x.holds ≡ holds.Local t m
    → number_in (array_rows k vs ++ more) (Variable y) ≡ local_count (take v vs)
declared_number [] more k v y x t m ey d e h = absurd (cc)
declared_number (w ∷ vs) more k zero y x t m ey d e h =
    let is : w.holds ≡ holds.Local t m = ap (λ (z : Declared). z.holds) (same_Some w x e) ∙ h in
    ap (λ z. number_in (array_row z k (array_rows (suc k) vs) ++ more) (Variable y)) is ∙ own_row k y t.elem (array_rows (suc k) vs ++ more) (omega (arith, ey))
declared_number (w ∷ vs) more k (suc v) y x t m ey d e h =
    go w.holds refl (declared_number vs more (suc k) v y x t m (omega (arith, ey)) (λ j q lt. d (suc j) q (omega (arith, lt))) e h)
  where
    go : (z : Holds) → w.holds ≡ z → number_in (array_rows (suc k) vs ++ more) (Variable y) ≡ local_count (take v vs) → number_in (array_row z k (array_rows (suc k) vs) ++ more) (Variable y) ≡ count_then z (local_count (take v vs))
    go (holds.Value u) ez ih = ih
    go (holds.Given u) ez ih = absurd (no_given w u ez (d 0 w (omega arith)))
    go (holds.Local u j) ez ih = other_row k y (local_count (take v vs)) u.elem (array_rows (suc k) vs ++ more) (omega (arith, ey)) ih

-- ---- the arrays of a function whose first n variables are its parameters

abbrev GivenAt : List Parameter → List Declared → List Row → ℕ → ℕ → ℕ → Type 0
GivenAt ps vs more k v y = (p : Parameter) × (slice_get ps v ≡ Some p) × (p.is_array ≡ true) × (number_in (array_rows k vs ++ more) (Variable y) ≡ array_count (take v ps))

given_at : (n : ℕ) (ps : List Parameter) (vs : List Declared) (more : List Row) (k v y : ℕ) (x : Declared) (t : Elem) → y ≡ k + v → AreParams ps (take n vs) → All IsDeclared (drop n vs) → slice_get vs v ≡ Some x → x.holds ≡ holds.Given t
    → GivenAt ps vs more k v y
given_at zero ps vs more k v y x t ey a d e h = absurd (no_given x t h (declared_at vs v x d e))
given_at (suc n) ps [] more k v y x t ey a d e h = absurd (cc)
given_at (suc n) [] (w ∷ vs) more k v y x t ey a d e h = absurd a
given_at (suc n) (p ∷ ps) (w ∷ vs) more k zero y x t ey a d e h =
    let is : w.holds ≡ holds.Given t = ap (λ (z : Declared). z.holds) (same_Some w x e) ∙ h in
    let i : IsParam p (holds.Given t) = subst (IsParam p) is a.0 in
    (p, refl, i.0, ap (λ z. number_in (array_row z k (array_rows (suc k) vs) ++ more) (Variable y)) is ∙ own_row k y t (array_rows (suc k) vs ++ more) (omega (arith, ey)))
given_at (suc n) (p ∷ ps) (w ∷ vs) more k (suc v) y x t ey a d e h =
    let ih = given_at n ps vs more (suc k) v y x t (omega (arith, ey)) a.1 d e h in
    (ih.0, ih.1, ih.2, go w.holds a.0 ih.3)
  where
    go : (z : Holds) → IsParam p z → number_in (array_rows (suc k) vs ++ more) (Variable y) ≡ array_count (take v ps) → number_in (array_row z k (array_rows (suc k) vs) ++ more) (Variable y) ≡ array_then p.is_array (array_count (take v ps))
    go (holds.Value u) i ih = ih ∙ ap (λ z. array_then z (array_count (take v ps))) (sym i.0)
    go (holds.Given u) i ih = other_row k y (array_count (take v ps)) u (array_rows (suc k) vs ++ more) (omega (arith, ey)) ih ∙ ap (λ z. array_then z (array_count (take v ps))) (sym i.0)
    go (holds.Local u j) i ih = absurd i

abbrev LocalAt : List Parameter → List Declared → List Row → ℕ → ℕ → ℕ → ℕ → Type 0
LocalAt ps vs more k v y m = (slice_get ps v ≡ None) × (number_in (array_rows k vs ++ more) (Variable y) ≡ array_count ps + local_count (take v vs)) × (m ≤ 65536)

no_more : (ps : List Parameter) (vs : List Declared) → AreParams ps (take 0 vs) → ps ≡ []
no_more [] vs a = refl
no_more (p ∷ ps) vs a = absurd a

local_at : (n : ℕ) (ps : List Parameter) (vs : List Declared) (more : List Row) (k v y : ℕ) (x : Declared) (t : Ty) (m : ℕ) → y ≡ k + v → AreParams ps (take n vs) → All IsDeclared (drop n vs) → slice_get vs v ≡ Some x → x.holds ≡ holds.Local t m
    → LocalAt ps vs more k v y m
local_at zero ps vs more k v y x t m ey a d e h =
    let none = no_more ps vs a in
    subst (λ z. LocalAt z vs more k v y m) (sym none) (refl, (let e0 : local_count (take v vs) ≡ 0 + local_count (take v vs) = omega arith in declared_number vs more k v y x t m ey d e h ∙ e0), (sized x t m h (declared_at vs v x d e)).few)
local_at (suc n) ps [] more k v y x t m ey a d e h = absurd (cc)
local_at (suc n) [] (w ∷ vs) more k v y x t m ey a d e h = absurd a
local_at (suc n) (p ∷ ps) (w ∷ vs) more k zero y x t m ey a d e h =
    let is : w.holds ≡ holds.Local t m = ap (λ (z : Declared). z.holds) (same_Some w x e) ∙ h in
    absurd (subst (IsParam p) is a.0)
local_at (suc n) (p ∷ ps) (w ∷ vs) more k (suc v) y x t m ey a d e h =
    let ih = local_at n ps vs more (suc k) v y x t m (omega (arith, ey)) a.1 d e h in
    (ih.0, go w.holds a.0 ih.1, ih.2)
  where
    go : (z : Holds) → IsParam p z → number_in (array_rows (suc k) vs ++ more) (Variable y) ≡ array_count ps + local_count (take v vs)
        → number_in (array_row z k (array_rows (suc k) vs) ++ more) (Variable y) ≡ array_then p.is_array (array_count ps) + count_then z (local_count (take v vs))
    go (holds.Value u) i ih = ih ∙ ap (λ z. array_then z (array_count ps) + local_count (take v vs)) (sym i.0)
    go (holds.Given u) i ih =
        let step : suc (array_count ps + local_count (take v vs)) ≡ suc (array_count ps) + local_count (take v vs) = omega arith in
        other_row k y (array_count ps + local_count (take v vs)) u (array_rows (suc k) vs ++ more) (omega (arith, ey)) ih ∙ step ∙ ap (λ z. array_then z (array_count ps) + local_count (take v vs)) (sym i.0)
    go (holds.Local u j) i ih = absurd i

pub arrays_stand : (fs : List TFunction) (h : TFunction) (g : Routine) (rates : ℕ → List Rate) (rows : Rows) → FineFunction fs h → parameters_of g ≡ h.parameters → g.locals ≡ locals_of h.variables → Begins (array_rows 0 h.variables) rows.arrays
    → ArraysStand h g (layout_of rates rows)
arrays_stand fs h g rates rows fine made locals b = record {
  passed_is = many;
  locals_are = locals;
  given = λ v x t e k.
      let is = given_at (length h.params) h.parameters h.variables b.more 0 v v x t (omega arith) fine.params fine.declared e k in
      (is.0, is.1, is.2, number v ∙ is.3);
  local = λ v x t m e k.
      let is = local_at (length h.params) h.parameters h.variables b.more 0 v v x t m (omega arith) fine.params fine.declared e k in
      (is.0, number v ∙ is.1 ∙ ap (λ z. z + local_count (take v h.variables)) (sym many), is.2);
}
  where
    many : passed g ≡ array_count h.parameters
    many = passed_count g.params ∙ ap array_count made

    number : (v : ℕ) → number_in rows.arrays (Variable v) ≡ number_in (array_rows 0 h.variables ++ b.more) (Variable v)
    number v = ap (λ z. number_in z (Variable v)) b.is
