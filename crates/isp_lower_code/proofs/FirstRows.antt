-- The registers with which a function begins: its variables and what it gives back have their rows, with their types, and no
-- constant is kept.
use Rattle.std.proofs.Common.{◌≡◌, ◌≢◌, ℕ, zero, suc, ◌+◌, List, [], ◌∷◌, ◌++◌, Option, Some, None, Bool, true, false, refl, ap, ◌∙◌, arith, eq-eqb}
use Rattle.std.proofs.lemmas.Option.{same_Some}
use Rattle.std.specs.Prelude.{slice_get, if◌then◌else◌}
use Rattle.std.proofs.lemmas.Bool.{ne_eqb}
use Rattle.isp_base.specs.declared.types.Elem.{Elem}
use Rattle.isp_base.specs.declared.types.Rate.{Rate}
use Rattle.isp_base.specs.declared.types.Rate.TheVariants.{Uniform, Varying}
use Rattle.isp_base.specs.declared.types.Ty.{Ty}
use Rattle.isp_typed.specs.Fine.{array_type}
use Rattle.isp_typed.specs.Typed.{ty_of}
use Rattle.isp_typed.specs.declared.variable.Holds.{Holds}
use Rattle.isp_typed.specs.declared.variable.Holds.TheVariants as holds
use Rattle.isp_typed.specs.declared.variable.Variable.{Variable as Declared}
use Rattle.isp_meaning.specs.Calls.{same_rate}
use Rattle.isp_lower_code.specs.FirstRows.{Begins, row_at, row_where, value_row, array_row, value_rows, array_rows, result_rows, first_rows}
use Rattle.isp_lower_code.specs.Rows.{Name, Variable, Result, Kept, Row, name_number, elem_in, has_type, keeps, rows_at}
use Rattle.isp_lower_code.proofs.Rows.{rows_stay}

-- ---- rows of variables, whose numbers begin at k

own_row : (k y : ℕ) (t : Elem) (rows : List Row) → y ≡ k → elem_in (row_at k t ∷ rows) (Variable y) ≡ Some t
own_row k y t rows e =
    let same : name_number (Variable k) ≡ name_number (Variable y) = omega (arith, e) in
    ap (λ z. if z then Some t else elem_in rows (Variable y)) (eq-eqb (name_number (Variable k)) (name_number (Variable y)) same)

-- a row of a variable has another name
past_row : (b : Bool) (k : ℕ) (t : Elem) (rows more : List Row) (x : Name) (o : Option Elem) → name_number (Variable k) ≢ name_number x → elem_in (rows ++ more) x ≡ o → elem_in (row_where b (row_at k t) rows ++ more) x ≡ o
past_row false k t rows more x o ne e = e
past_row true k t rows more x o ne e =
    ap (λ z. if z then Some t else elem_in (rows ++ more) x) (ne_eqb (name_number (Variable k)) (name_number x) ne) ∙ e

past_value : (r : Rate) (y : Holds) (k : ℕ) (rows more : List Row) (x : Name) (o : Option Elem) → name_number (Variable k) ≢ name_number x → elem_in (rows ++ more) x ≡ o → elem_in (value_row r y k rows ++ more) x ≡ o
past_value r (holds.Value t) k rows more x o ne e = past_row (same_rate r t.rate) k t.elem rows more x o ne e
past_value r (holds.Given t) k rows more x o ne e = e
past_value r (holds.Local t n) k rows more x o ne e = e

past_array : (y : Holds) (k : ℕ) (rows more : List Row) (x : Name) (o : Option Elem) → name_number (Variable k) ≢ name_number x → elem_in (rows ++ more) x ≡ o → elem_in (array_row y k rows ++ more) x ≡ o
past_array (holds.Value t) k rows more x o ne e = e
past_array (holds.Given t) k rows more x o ne e = past_row true k t rows more x o ne e
past_array (holds.Local t n) k rows more x o ne e = past_row true k t.elem rows more x o ne e

own_value : (r : Rate) (k y : ℕ) (t : Elem) (rows more : List Row) → y ≡ k → elem_in (value_row r (holds.Value (ty_of r t)) k rows ++ more) (Variable y) ≡ Some t
own_value Uniform k y t rows more e = own_row k y t (rows ++ more) e
own_value Varying k y t rows more e = own_row k y t (rows ++ more) e

pub value_at : (r : Rate) (vs : List Declared) (more : List Row) (k v y : ℕ) (x : Declared) (t : Elem) → y ≡ k + v → slice_get vs v ≡ Some x → x.holds ≡ holds.Value (ty_of r t) → elem_in (value_rows r k vs ++ more) (Variable y) ≡ Some t
value_at r [] more k v y x t ey e h = absurd (cc)
value_at r (w ∷ vs) more k zero y x t ey e h =
    let is : w.holds ≡ holds.Value (ty_of r t) = ap (λ (z : Declared). z.holds) (same_Some w x e) ∙ h in
    ap (λ z. elem_in (value_row r z k (value_rows r (suc k) vs) ++ more) (Variable y)) is ∙ own_value r k y t (value_rows r (suc k) vs) more (omega (arith, ey))
value_at r (w ∷ vs) more k (suc v) y x t ey e h =
    past_value r w.holds k (value_rows r (suc k) vs) more (Variable y) (Some t) (λ same. omega (arith, same, ey)) (value_at r vs more (suc k) v y x t (omega (arith, ey)) e h)

own_array : (z : Holds) (k y : ℕ) (t : Ty) (rows more : List Row) → y ≡ k → array_type z ≡ Some t → elem_in (array_row z k rows ++ more) (Variable y) ≡ Some t.elem
own_array (holds.Value u) k y t rows more e h = absurd (cc)
own_array (holds.Given u) k y t rows more e h = own_row k y u (rows ++ more) e ∙ ap (λ (z : Ty). Some z.elem) (same_Some (ty_of Uniform u) t h)
own_array (holds.Local u n) k y t rows more e h = own_row k y u.elem (rows ++ more) e ∙ ap (λ (z : Ty). Some z.elem) (same_Some u t h)

pub array_at : (vs : List Declared) (more : List Row) (k v y : ℕ) (x : Declared) (t : Ty) → y ≡ k + v → slice_get vs v ≡ Some x → array_type x.holds ≡ Some t → elem_in (array_rows k vs ++ more) (Variable y) ≡ Some t.elem
array_at [] more k v y x t ey e h = absurd (cc)
array_at (w ∷ vs) more k zero y x t ey e h =
    own_array w.holds k y t (array_rows (suc k) vs) more (omega (arith, ey)) (ap (λ (z : Declared). array_type z.holds) (same_Some w x e) ∙ h)
array_at (w ∷ vs) more k (suc v) y x t ey e h =
    past_array w.holds k (array_rows (suc k) vs) more (Variable y) (Some t.elem) (λ same. omega (arith, same, ey)) (array_at vs more (suc k) v y x t (omega (arith, ey)) e h)

-- ---- the row of what a function gives back

past_values : (r : Rate) (k : ℕ) (vs : List Declared) (more : List Row) (o : Option Elem) → elem_in more Result ≡ o → elem_in (value_rows r k vs ++ more) Result ≡ o
past_values r k [] more o e = e
past_values r k (x ∷ vs) more o e =
    past_value r x.holds k (value_rows r (suc k) vs) more Result o (λ same. omega (arith, same)) (past_values r (suc k) vs more o e)

own_result : (r : Rate) (t : Elem) → elem_in (result_rows r (Some (ty_of r t))) Result ≡ Some t
own_result Uniform t = refl
own_result Varying t = refl

pub result_at : (r : Rate) (vs : List Declared) (answer : Option Ty) (t : Elem) (rows : List Row) → answer ≡ Some (ty_of r t) → Begins (value_rows r 0 vs ++ result_rows r answer) rows → elem_in rows Result ≡ Some t
result_at r vs answer t rows e b =
    let own : elem_in (result_rows r answer) Result ≡ Some t = ap (λ z. elem_in (result_rows r z) Result) e ∙ own_result r t in
    let has = past_values r 0 vs (result_rows r answer) (Some t) own in
    ap (λ z. elem_in z Result) b.is ∙ (rows_stay (value_rows r 0 vs ++ result_rows r answer) b.more Result t has).1

-- ---- no constant is kept at first

past_kept : (r : Rate) (k : ℕ) (vs : List Declared) (more : List Row) (t : Elem) (b : ℕ) (o : Option Elem) → elem_in more (Kept t b) ≡ o → elem_in (value_rows r k vs ++ more) (Kept t b) ≡ o
past_kept r k [] more t b o e = e
past_kept r k (x ∷ vs) more t b o e =
    past_value r x.holds k (value_rows r (suc k) vs) more (Kept t b) o (λ same. omega (arith, same)) (past_kept r (suc k) vs more t b o e)

result_none : (r : Rate) (answer : Option Ty) (t : Elem) (b : ℕ) → elem_in (result_rows r answer) (Kept t b) ≡ None
result_none r None t b = refl
result_none r (Some u) t b = go (same_rate r u.rate)
  where
    go : (d : Bool) → elem_in (row_where d (record { name = Result; elem = u.elem }) []) (Kept t b) ≡ None
    go true = ap (λ z. if z then Some u.elem else None) (ne_eqb (name_number Result) (name_number (Kept t b)) (λ same. omega (arith, same)))
    go false = refl

pub none_kept : (vs : List Declared) (answer : Option Ty) (r : Rate) (t : Elem) (b : ℕ) → keeps (rows_at (first_rows vs answer) r) t b ≡ false
none_kept vs answer Uniform t b = ap (has_type t) (past_kept Uniform 0 vs (result_rows Uniform answer) t b None (result_none Uniform answer t b))
none_kept vs answer Varying t b = ap (has_type t) (past_kept Varying 0 vs (result_rows Varying answer) t b None (result_none Varying answer t b))
