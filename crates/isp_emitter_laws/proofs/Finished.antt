-- The routine of a finished function has the registers of its rows.
use Rattle.std.proofs.Common.{◌≡◌, ℕ, zero, suc, List, [], ◌∷◌, ◌++◌, length, drop, Some, refl, sym, ap, ◌∙◌, append_assoc, append-nil}
use Rattle.std.specs.Prelude.{slice_get}
use Rattle.std.proofs.lemmas.Option.{same_Some}
use Rattle.isp_base.specs.declared.signature.Parameter.{Parameter}
use Rattle.isp_base.specs.declared.types.Elem.{Elem}
use Rattle.isp_base.specs.declared.types.Rate.{Rate}
use Rattle.isp_base.specs.declared.types.Rate.TheVariants.{Uniform, Varying}
use Rattle.isp_code.specs.Listing.{Routine}
use Rattle.isp_code.specs.Registers.{class_of, if_class, param_elems, same_class, scalars_of, vectors_of}
use Rattle.isp_code.specs.declared.register.Class.TheVariants as class
use Rattle.isp_typed.specs.declared.variable.Holds.{Holds}
use Rattle.isp_typed.specs.declared.variable.Holds.TheVariants as holds
use Rattle.isp_typed.specs.declared.variable.Variable.{Variable}
use Rattle.isp_lower.specs.Drafts.{Draft, all_routines, routine_at_work}
use Rattle.isp_meaning.specs.Calls.{same_rate}
use Rattle.isp_lower_code.specs.FirstRows.{Begins, result_rows, row_at, row_where, value_row, value_rows}
use Rattle.isp_lower_code.specs.Header.{heading_of, param_of, params_of, routine_with, types_of, value_kind}
use Rattle.isp_lower_code.specs.Rows.{Row}
use Rattle.isp_lower_code.specs.Setting.{Setting, IsSettled}
use Rattle.isp_emitter_laws.specs.Finished.{RunsDraft, HasDraft, FinishedHas}
use Rattle.isp_emitter_laws.specs.OfRows.{StartsWith}

-- ---- the parameters are the first registers of their classes

scalars_first : (ps : List Parameter) (vs : List Variable) (v : ℕ) → StartsWith (param_elems class.Scalar (params_of ps vs)) (types_of (value_rows Uniform v vs))
scalars_first [] vs v = record { rest = types_of (value_rows Uniform v vs); is = refl }
scalars_first (p ∷ ps) [] v = record { rest = []; is = refl }
scalars_first (p ∷ ps) (x ∷ vs) v = go x.holds (scalars_first ps vs (suc v))
  where
    go : (y : Holds) → StartsWith (param_elems class.Scalar (params_of ps vs)) (types_of (value_rows Uniform (suc v) vs))
        → StartsWith (param_elems class.Scalar (param_of p y ∷ params_of ps vs)) (types_of (value_row Uniform y v (value_rows Uniform (suc v) vs)))
    go (holds.Value t) later = at t.rate
      where
        at : (r : Rate) → StartsWith (if_class (same_class (class_of (value_kind r)) class.Scalar) t.elem (param_elems class.Scalar (params_of ps vs))) (types_of (row_where (same_rate Uniform r) (row_at v t.elem) (value_rows Uniform (suc v) vs)))
        at Uniform = record { rest = later.rest; is = ap (λ ts. t.elem ∷ ts) later.is }
        at Varying = later
    go (holds.Given t) later = later
    go (holds.Local t n) later = later

vectors_first : (ps : List Parameter) (vs : List Variable) (v : ℕ) → StartsWith (param_elems class.Vector (params_of ps vs)) (types_of (value_rows Varying v vs))
vectors_first [] vs v = record { rest = types_of (value_rows Varying v vs); is = refl }
vectors_first (p ∷ ps) [] v = record { rest = []; is = refl }
vectors_first (p ∷ ps) (x ∷ vs) v = go x.holds (vectors_first ps vs (suc v))
  where
    go : (y : Holds) → StartsWith (param_elems class.Vector (params_of ps vs)) (types_of (value_rows Varying (suc v) vs))
        → StartsWith (param_elems class.Vector (param_of p y ∷ params_of ps vs)) (types_of (value_row Varying y v (value_rows Varying (suc v) vs)))
    go (holds.Value t) later = at t.rate
      where
        at : (r : Rate) → StartsWith (if_class (same_class (class_of (value_kind r)) class.Vector) t.elem (param_elems class.Vector (params_of ps vs))) (types_of (row_where (same_rate Varying r) (row_at v t.elem) (value_rows Varying (suc v) vs)))
        at Uniform = later
        at Varying = record { rest = later.rest; is = ap (λ ts. t.elem ∷ ts) later.is }
    go (holds.Given t) later = later
    go (holds.Local t n) later = later

-- ---- lists

types_both : (xs ys : List Row) → types_of (xs ++ ys) ≡ types_of xs ++ types_of ys
types_both [] ys = refl
types_both (x ∷ xs) ys = ap (λ ts. x.elem ∷ ts) (types_both xs ys)

dropped : {A : Type 0} (xs ys : List A) → drop (length xs) (xs ++ ys) ≡ ys
dropped [] ys = refl
dropped (x ∷ xs) ys = dropped xs ys

-- what is taken off in front and put back
put_back : (front types : List Elem) → StartsWith front types → front ++ drop (length front) types ≡ types
put_back front types s =
    ap (λ ts. front ++ drop (length front) ts) s.is ∙ ap (λ ts. front ++ ts) (dropped front s.rest) ∙ sym s.is

-- front begins a, and rows begin with a and b
longer : (front : List Elem) (a b rows : List Row) → StartsWith front (types_of a) → Begins (a ++ b) rows → StartsWith front (types_of rows)
longer front a b rows s begins =
    record {
      rest = s.rest ++ (types_of b ++ types_of begins.more);
      is = ap types begins.is ∙ types_both (a ++ b) begins.more ∙ ap (λ ts. ts ++ types_of begins.more) (types_both a b)
          ∙ append_assoc (types_of a) (types_of b) (types_of begins.more) ∙ ap (λ ts. ts ++ (types_of b ++ types_of begins.more)) s.is
          ∙ append_assoc front s.rest (types_of b ++ types_of begins.more);
    }
  where
    types : List Row → List Elem
    types xs = types_of xs

last_at : {A : Type 0} (xs : List A) (x : A) → slice_get (xs ++ x ∷ []) (length xs) ≡ Some x
last_at [] x = refl
last_at (y ∷ xs) x = last_at xs x

front_at : {A : Type 0} (xs more : List A) (n : ℕ) (x : A) → slice_get xs n ≡ Some x → slice_get (xs ++ more) n ≡ Some x
front_at [] more n x e = absurd (cc)
front_at (y ∷ xs) more zero x e = e
front_at (y ∷ xs) more (suc n) x e = front_at xs more n x e

-- ---- the routine of the call

module _ (w : Setting) (d : Draft) (settled : IsSettled w) (runs : RunsDraft w d) where
  routines_are : all_routines d ≡ d.routines ++ routine_with (heading_of w.function) d.rows d.masks d.code ∷ []
  routines_are = ap (λ h. d.routines ++ routine_at_work h d.rows d.masks d.code) runs.heading

  routine_is : w.routine ≡ routine_with (heading_of w.function) d.rows d.masks d.code
  routine_is =
      let made = routine_with (heading_of w.function) d.rows d.masks d.code in
      let last : slice_get (all_routines d) (length d.routines) ≡ Some made = ap (λ rs. slice_get rs (length d.routines)) routines_are ∙ last_at d.routines made in
      let there : slice_get w.code.routines (length d.routines) ≡ Some made = ap (λ rs. slice_get rs (length d.routines)) runs.routines.is ∙ front_at (all_routines d) runs.routines.rest (length d.routines) made last in
      same_Some w.routine made (sym settled.found ∙ ap (slice_get w.code.routines) runs.number ∙ there)

  scalars_are : scalars_of w.routine ≡ types_of d.rows.scalars
  scalars_are =
      let ps = params_of w.function.parameters w.function.variables in
      let front = param_elems class.Scalar ps in
      ap scalars_of routine_is ∙ put_back front (types_of d.rows.scalars)
      (longer front (value_rows Uniform 0 w.function.variables) (result_rows Uniform w.function.answer) d.rows.scalars
      (scalars_first w.function.parameters w.function.variables 0) runs.begun.scalars)

  vectors_are : vectors_of w.routine ≡ types_of d.rows.vectors
  vectors_are =
      let ps = params_of w.function.parameters w.function.variables in
      let front = param_elems class.Vector ps in
      ap vectors_of routine_is ∙ put_back front (types_of d.rows.vectors)
      (longer front (value_rows Varying 0 w.function.variables) (result_rows Varying w.function.answer) d.rows.vectors
      (vectors_first w.function.parameters w.function.variables 0) runs.begun.vectors)

  all_of : (front types : List Elem) → types ≡ front → StartsWith front types
  all_of front types e = record { rest = []; is = e ∙ sym (append-nil front) }

  has_draft : HasDraft w d
  has_draft =
      record {
        rows = record { scalars = all_of (types_of d.rows.scalars) (scalars_of w.routine) scalars_are; vectors = all_of (types_of d.rows.vectors) (vectors_of w.routine) vectors_are; layout = runs.layout };
        code = ap (λ (r : Routine). r.code) routine_is;
        places = runs.places;
      }

pub finished_has : FinishedHas
finished_has w d settled runs = has_draft w d settled runs
