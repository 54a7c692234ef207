-- A routine that has the registers of some rows, and a listing with places enough and a routine for each function: in these the code of a
-- tree is sound, where the rows have what it asks for.
use Rattle.std.proofs.Common.{◌≡◌, ℕ, zero, suc, ◌+◌, ◌-◌, ◌<◌, List, [], ◌∷◌, length, map, Some, None, Bool, true, false, refl, ap, ◌∙◌, arith}
use Rattle.std.specs.Prelude.{nat_le, ◌&&◌, slice_get}
use Rattle.std.proofs.lemmas.Bool.{le-leb}
use Rattle.std.proofs.lemmas.List.{length-map}
use Rattle.std.proofs.lemmas.Option.{get_or_from_slice_get, same_Some, slice_get_within}
use Rattle.isp_base.specs.declared.types.Elem.TheVariants.{Bool as Truth}
use Rattle.isp_base.specs.declared.types.Gang.TheVariants.{W4}
use Rattle.isp_base.specs.declared.types.Rate.{Rate}
use Rattle.isp_base.specs.declared.types.Rate.TheVariants.{Uniform, Varying}
use Rattle.isp_code.specs.Listing.{Listing, Routine}
use Rattle.isp_code.specs.Registers as routine
use Rattle.isp_code.specs.Registers.{arrays_of, is_own, local_elem, table_of, types_in}
use Rattle.isp_code.specs.declared.function.Local.{Local}
use Rattle.isp_code.specs.declared.function.Param.{Param}
use Rattle.isp_code.specs.declared.function.Returns.TheVariants.{Nothing}
use Rattle.isp_code.specs.declared.function.Sharing.TheVariants.{Shared}
use Rattle.isp_code.specs.declared.instr.Instr.{Instr}
use Rattle.isp_code.specs.declared.instr.Instr.TheVariants as instr
use Rattle.isp_code.specs.declared.register.Class.{Class}
use Rattle.isp_code.specs.declared.register.Class.TheVariants as class
use Rattle.isp_typed.specs.Fine.{params_of}
use Rattle.isp_typed.specs.Typed.{TExpr, TFunction, TSimple}
use Rattle.isp_typed.specs.declared.variable.ArrayVariable.{ArrayVariable}
use Rattle.isp_typed.specs.declared.variable.Variable.{Variable as Declared}
use Rattle.isp_lower_code.specs.Asks.{Ask, expr_asks, simple_asks}
use Rattle.isp_lower_code.specs.Callees.{rates_in}
use Rattle.isp_lower_code.specs.Code.{expr_code}
use Rattle.isp_lower_code.specs.Header.{elem_held, kind_of, returns_of, types_of}
use Rattle.isp_lower_code.specs.Layout.{Layout, class_at}
use Rattle.isp_lower_code.specs.Named.{count_of}
use Rattle.isp_lower_code.specs.Own.{HasAll, HasArrayRow}
use Rattle.isp_lower_code.specs.Rows.{HasRow, IsLoaded, Row, Rows, Variable, elem_in, layout_of, number_in, rows_at}
use Rattle.isp_lower_code.specs.Simple.{simple_code, simple_places}
use Rattle.isp_lower_code.specs.Sound.{AreHeld, AreSound, Granted, Links, HasArray, HasLocal, HasMask, HasRegister, IsShared}
use Rattle.isp_lower_code.specs.Spans.{expr_places}
use Rattle.isp_lower_code.specs.Tables.{IsLoadedIn}
use Rattle.isp_lower_code.proofs.Begins.{all_grow}
use Rattle.isp_lower_code.proofs.Rows.{kept_there, register_there, row_typed}
use Rattle.isp_lower_code.proofs.SoundExprs.{value_sound}
use Rattle.isp_lower_code.proofs.SoundSimples.{simple_sound}
use Rattle.isp_lower_code.proofs.Trees.{ExprTree, SimpleTree}

-- ---- a routine that has the registers of some rows; its arrays are its own, and shared

abbrev shared : Row → Local
shared r = record { sharing = Shared; elem = r.elem; size = 1 }

pub many : {A : Type 0} → A → ℕ → List A
many x zero = []
many x (suc n) = x ∷ many x n

pub many_long : {A : Type 0} (x : A) (n : ℕ) → length (many x n) ≡ n
unfolding many
many_long x zero = refl
many_long x (suc n) = ap suc (many_long x n)

abbrev pub with_rows : Rows → ℕ → List Instr → Routine
with_rows rows masks code =
    record { name = []; exported = false; returns = Nothing; params = []; locals = map shared rows.arrays; scalars = types_of rows.scalars; vectors = types_of rows.vectors; masks = masks; code = code }

array_elems : (xs : List Row) → map local_elem (map shared xs) ≡ map (λ y. y.elem) xs
array_elems [] = refl
array_elems (x ∷ xs) = ap (λ ts. x.elem ∷ ts) (array_elems xs)

none_own : (xs : List Row) (n : ℕ) → is_own (slice_get (map shared xs) n) ≡ false
none_own [] n = refl
none_own (x ∷ xs) zero = refl
none_own (x ∷ xs) (suc n) = none_own xs n

and_false : (b : Bool) → (b && false) ≡ false
and_false true = refl
and_false false = refl

module _ (rows : Rows) (masks : ℕ) (code : List Instr) where
  abbrev h : Routine
  h = with_rows rows masks code

  rows_made : (r : Rate) → types_in (table_of h) (class_at r) ≡ map (λ y. y.elem) (rows_at rows r)
  rows_made Uniform = refl
  rows_made Varying = refl

  shared_all : (r : Rate) (n : ℕ) → IsShared h r n
  shared_all Uniform n = ap (λ b. nat_le 0 n && b) (none_own rows.arrays (n - 0)) ∙ and_false (nat_le 0 n)
  shared_all Varying n = tt

  array_there : (rates : ℕ → List Rate) (b : ArrayVariable) → elem_in rows.arrays (Variable b.number) ≡ Some b.ty.elem → HasLocal h (layout_of rates rows) b
  array_there rates b e =
      let n = number_in rows.arrays (Variable b.number) in
      let at : slice_get (arrays_of h) n ≡ Some b.ty.elem = ap (λ ts. slice_get ts n) (array_elems rows.arrays) ∙ row_typed rows.arrays (Variable b.number) b.ty.elem e in
      (((refl, slice_get_within (arrays_of h) n b.ty.elem at), get_or_from_slice_get (arrays_of h) n b.ty.elem Truth at, shared_all b.ty.rate n), le-leb 0 n (omega arith))

  pub counts : (c : Class) → routine.count_of h c ≡ count_of rows masks c
  counts class.Scalar = length-map rows.scalars (λ y. y.elem)
  counts class.Vector = length-map rows.vectors (λ y. y.elem)
  counts class.Array = ap length (array_elems rows.arrays) ∙ length-map rows.arrays (λ y. y.elem)
  counts class.Mask = refl

granted : (rates : ℕ → List Rate) (rows : Rows) (masks : ℕ) (code : List Instr) (a : Ask) → HasAll rows masks a → Granted (with_rows rows masks code) (layout_of rates rows) a
granted rates rows masks code a has =
    let g = with_rows rows masks code in
    let l = layout_of rates rows in
    all_grow (HasRow rows) (HasRegister g l) (HasArrayRow rows) (HasArray g l) (HasArrayRow rows) (HasLocal g l) (λ k. k < masks) (HasMask g) (IsLoaded rows) (IsLoadedIn l)
    (λ q x t f. register_there g rates rows (rows_made rows masks code) q x t f)
    (λ b f. (array_there rows masks code rates b f).0)
    (λ b f. array_there rows masks code rates b f)
    (λ k f. f) (λ v f. f) a has

-- ---- a listing with places enough, and a routine with the header of each function

abbrev param_for : Declared → Param
param_for v = record { name = []; kind = kind_of v.holds; elem = elem_held v.holds }

abbrev routine_for : TFunction → Routine
routine_for g =
    record { name = []; exported = false; returns = returns_of g.answer; params = map param_for (params_of g); locals = []; scalars = []; vectors = []; masks = 0; code = [] }

abbrev pub with_places : List TFunction → ℕ → Listing
with_places fs n =
    record { gang = W4; places = many (record { start = 0; end = 0 }) n; texts = []; routines = map routine_for fs }

params_held : (vs : List Declared) → AreHeld vs (map param_for vs)
params_held [] = tt
params_held (v ∷ vs) = (refl, refl, params_held vs)

routine_at : (fs : List TFunction) (f : ℕ) (g : TFunction) → slice_get fs f ≡ Some g → slice_get (map routine_for fs) f ≡ Some (routine_for g)
routine_at [] f g e = absurd (cc)
routine_at (k ∷ fs) zero g e = ap (λ z. Some (routine_for z)) (same_Some k g e)
routine_at (k ∷ fs) (suc f) g e = routine_at fs f g e

linked : (fs : List TFunction) (n : ℕ) (rows : Rows) (masks : ℕ) (code : List Instr) → Links fs (with_places fs n) (with_rows rows masks code) (layout_of (rates_in fs) rows)
linked fs n rows masks code = record {
  rates = refl;
  constants = kept_there (with_rows rows masks code) (rates_in fs) rows
      (rows_made rows masks code);
  rows = λ vars i n fine rated is. absurd (cc);
  sets = λ rs is. absurd (cc);
  headers = λ f g e. record
      { routine = routine_for g; found = routine_at fs f g e; params = params_held (params_of g); returns = refl };
}

-- ---- the code of a tree is sound in a routine that ends after it

module _ (fs : List TFunction) (rows : Rows) (masks pc p k n : ℕ) (lt : k < masks) where
  abbrev pub in_rows : List Instr → Routine
  in_rows is = with_rows rows masks (many (instr.Return None) (pc + length is + 1))

  abbrev l : Layout
  l = layout_of (rates_in fs) rows

  pub expr_in_rows : (x : TExpr) → ExprTree fs x → HasAll rows masks (expr_asks x n)
      → AreSound (with_places fs (p + length (expr_places l x))) (in_rows (expr_code l x pc p k n)) (expr_code l x pc p k n)
  expr_in_rows x tree has =
      let is = expr_code l x pc p k n in
      let long = pc + length is + 1 in
      let code = many (instr.Return None) long in
      let places = p + length (expr_places l x) in
      let a = many_long (instr.Return None) long in
      let b : length (with_places fs places).places ≡ places = many_long (record { start = 0; end = 0 }) places in
      value_sound fs (with_places fs places) (with_rows rows masks code) l (linked fs places rows masks code) x n tree (granted (rates_in fs) rows masks code (expr_asks x n) has) pc p k lt (omega (arith, b)) (omega (arith, a))

  pub simple_in_rows : (x : TSimple) → SimpleTree fs x → HasAll rows masks (simple_asks x n)
      → AreSound (with_places fs (p + length (simple_places l x))) (in_rows (simple_code l x pc p k n)) (simple_code l x pc p k n)
  simple_in_rows x tree has =
      let is = simple_code l x pc p k n in
      let long = pc + length is + 1 in
      let code = many (instr.Return None) long in
      let places = p + length (simple_places l x) in
      let a = many_long (instr.Return None) long in
      let b : length (with_places fs places).places ≡ places = many_long (record { start = 0; end = 0 }) places in
      simple_sound fs (with_places fs places) (with_rows rows masks code) l (linked fs places rows masks code) x n tree (granted (rates_in fs) rows masks code (simple_asks x n) has) pc p k lt (omega (arith, b)) (omega (arith, a))
