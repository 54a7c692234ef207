-- The register of a name that has a row has the type of the row, and rows that are added change neither.
use Rattle.std.proofs.Common.{◌≡◌, ◌≢◌, ℕ, zero, suc, ◌+◌, List, [], ◌∷◌, ◌++◌, Option, Some, None, Bool, true, false, refl, sym, ap, ◌∙◌, subst, arith}
use Rattle.std.specs.Prelude.{◌==◌, if◌then◌else◌, is_some, slice_get}
use Rattle.std.proofs.lemmas.Bool.{ne_eqb}
use Rattle.std.proofs.lemmas.Option.{get_or_from_slice_get}
use Rattle.isp_base.specs.declared.types.Elem.{Elem}
use Rattle.isp_base.specs.declared.types.Elem.TheVariants.{Bool as Truth}
use Rattle.isp_base.specs.declared.types.Rate.{Rate}
use Rattle.isp_base.specs.declared.types.Rate.TheVariants.{Uniform, Varying}
use Rattle.isp_code.specs.Listing.{Routine}
use Rattle.isp_code.specs.Registers.{elem_of, scalars_of, vectors_of}
use Rattle.isp_lower_code.specs.FirstRows.{Begins}
use Rattle.isp_lower_code.specs.Header.{types_of}
use Rattle.isp_lower_code.specs.Layout.{register}
use Rattle.isp_lower_code.specs.Rows.{Name, Variable, Result, Spare, Place, Fresh, Kept, Row, has_type, keeps, Rows, name_number, number_in, elem_in, rows_at, layout_of, numbered, HasRow}
use Rattle.isp_lower_code.specs.Tables.{IsNamedIn}
use Rattle.isp_emitter_laws.specs.OfRows.{StartsWith}

-- ---- the type of a row stands at its number

behind : {A : Type 0} (x : A) (xs : List A) (n : ℕ) (y : A) → slice_get xs n ≡ Some y → slice_get (x ∷ xs) (1 + n) ≡ Some y
behind x xs n y e = let same : 1 + n ≡ suc n = omega arith in ap (slice_get (x ∷ xs)) same ∙ e

row_typed : (rows : List Row) (x : Name) (t : Elem) → elem_in rows x ≡ Some t → slice_get (types_of rows) (number_in rows x) ≡ Some t
row_typed [] x t e = absurd (cc)
row_typed (z ∷ rows) x t e = go (name_number z.name == name_number x) (row_typed rows x t) e
  where
    go : (b : Bool) → (elem_in rows x ≡ Some t → slice_get (types_of rows) (number_in rows x) ≡ Some t) → (if b then Some z.elem else elem_in rows x) ≡ Some t → slice_get (z.elem ∷ types_of rows) (if b then 0 else 1 + number_in rows x) ≡ Some t
    go true later h = h
    go false later h = behind z.elem (types_of rows) (number_in rows x) t (later h)

front_at : {A : Type 0} (xs ys : List A) (n : ℕ) (x : A) → slice_get xs n ≡ Some x → slice_get (xs ++ ys) n ≡ Some x
front_at [] ys n x e = absurd (cc)
front_at (y ∷ xs) ys zero x e = e
front_at (y ∷ xs) ys (suc n) x e = front_at xs ys n x e

-- also in a longer list
typed_at : (rows : List Row) (types : List Elem) (x : Name) (t : Elem) → StartsWith (types_of rows) types → elem_in rows x ≡ Some t → slice_get types (number_in rows x) ≡ Some t
typed_at rows types x t starts e =
    subst (λ ts. slice_get ts (number_in rows x) ≡ Some t) (sym starts.is) (front_at (types_of rows) starts.rest (number_in rows x) t (row_typed rows x t e))

pub numbered_in : (rates : ℕ → List Rate) (rows : Rows) (r : Rate) (x : Name) → number_in (rows_at rows r) x ≡ numbered (layout_of rates rows) r x
numbered_in rates rows r (Variable v) = refl
numbered_in rates rows r Result = refl
numbered_in rates rows r (Spare t j) = refl
numbered_in rates rows r Place = refl
numbered_in rates rows r (Fresh j) = refl
numbered_in rates rows r (Kept t b) = refl

module _ (h : Routine) (rates : ℕ → List Rate) (rows : Rows) (scalars : StartsWith (types_of rows.scalars) (scalars_of h)) (vectors : StartsWith (types_of rows.vectors) (vectors_of h)) where
  pub named_in : (r : Rate) (x : Name) (t : Elem) → HasRow rows r x t → IsNamedIn h (layout_of rates rows) r x t
  named_in Uniform x t e =
      subst (λ n. elem_of h (register Uniform n) ≡ t) (numbered_in rates rows Uniform x) (get_or_from_slice_get (scalars_of h) (number_in rows.scalars x) t Truth (typed_at rows.scalars (scalars_of h) x t scalars e))
  named_in Varying x t e =
      subst (λ n. elem_of h (register Varying n) ≡ t) (numbered_in rates rows Varying x) (get_or_from_slice_get (vectors_of h) (number_in rows.vectors x) t Truth (typed_at rows.vectors (vectors_of h) x t vectors e))

-- ---- rows that are added

stays_in : (rows more : List Row) (x : Name) (t : Elem) → elem_in rows x ≡ Some t → elem_in (rows ++ more) x ≡ Some t
stays_in [] more x t e = absurd (cc)
stays_in (z ∷ rows) more x t e = go (name_number z.name == name_number x) (stays_in rows more x t) e
  where
    go : (b : Bool) → (elem_in rows x ≡ Some t → elem_in (rows ++ more) x ≡ Some t) → (if b then Some z.elem else elem_in rows x) ≡ Some t → (if b then Some z.elem else elem_in (rows ++ more) x) ≡ Some t
    go true later h = h
    go false later h = later h

pub row_stays : (old new : List Row) (x : Name) (t : Elem) → Begins old new → elem_in old x ≡ Some t → elem_in new x ≡ Some t
row_stays old new x t begins e =
    subst (λ rows. elem_in rows x ≡ Some t) (sym begins.is) (stays_in old begins.more x t e)

pub some_stays : (old new : List Row) (x : Name) → Begins old new → is_some (elem_in old x) ≡ true → is_some (elem_in new x) ≡ true
some_stays old new x begins e = go (elem_in old x) refl e
  where
    go : (o : Option Elem) → elem_in old x ≡ o → is_some o ≡ true → is_some (elem_in new x) ≡ true
    go None at h = absurd (cc)
    go (Some t) at h = ap is_some (row_stays old new x t begins at)

number_stays : (rows more : List Row) (x : Name) (t : Elem) → elem_in rows x ≡ Some t → number_in (rows ++ more) x ≡ number_in rows x
number_stays [] more x t e = absurd (cc)
number_stays (z ∷ rows) more x t e = go (name_number z.name == name_number x) (number_stays rows more x t) e
  where
    go : (b : Bool) → (elem_in rows x ≡ Some t → number_in (rows ++ more) x ≡ number_in rows x) → (if b then Some z.elem else elem_in rows x) ≡ Some t → (if b then 0 else 1 + number_in (rows ++ more) x) ≡ (if b then 0 else 1 + number_in rows x)
    go true later h = refl
    go false later h = ap (λ n. 1 + n) (later h)

pub same_number : (old new : List Row) (x : Name) (t : Elem) → Begins old new → elem_in old x ≡ Some t → number_in new x ≡ number_in old x
same_number old new x t begins e = ap (λ rows. number_in rows x) begins.is ∙ number_stays old begins.more x t e

-- ---- constants that are kept

kept_row : (rows : List Row) (t : Elem) (b : ℕ) → keeps rows t b ≡ true → elem_in rows (Kept t b) ≢ None
kept_row rows t b e none = let is : true ≡ false = sym e ∙ ap (has_type t) none in absurd (cc)

-- a fresh register keeps none
pub fresh_keeps : (n : ℕ) (u : Elem) (rows : List Row) (t : Elem) (b : ℕ) → keeps (rows ++ record { name = Fresh n; elem = u } ∷ []) t b ≡ keeps rows t b
fresh_keeps n u rows t b = ap (has_type t) (go rows)
  where
    go : (xs : List Row) → elem_in (xs ++ record { name = Fresh n; elem = u } ∷ []) (Kept t b) ≡ elem_in xs (Kept t b)
    go [] = ap (λ d. if d then Some u else None) (ne_eqb (name_number (Fresh n)) (name_number (Kept t b)) (λ e. omega (arith, e)))
    go (y ∷ ys) = ap (λ o. if name_number y.name == name_number (Kept t b) then Some y.elem else o) (go ys)

-- one that is kept has its register where it was
pub kept_number : (old new : List Row) (t : Elem) (b : ℕ) → Begins old new → keeps old t b ≡ true → number_in new (Kept t b) ≡ number_in old (Kept t b)
kept_number old new t b begins e = go (elem_in old (Kept t b)) refl
  where
    go : (o : Option Elem) → elem_in old (Kept t b) ≡ o → number_in new (Kept t b) ≡ number_in old (Kept t b)
    go None none = absurd (kept_row old t b e none)
    go (Some u) at = same_number old new (Kept t b) u begins at
