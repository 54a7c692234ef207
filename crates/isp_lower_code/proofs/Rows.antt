-- Rows give each name a register of its own, with the type that the row has.
use Rattle.std.proofs.Common.{◌≡◌, ℕ, suc, ◌+◌, ◌<◌, length, subst, List, [], ◌∷◌, ◌++◌, map, Option, Some, None, Bool, true, false, refl, sym, ap, ◌∙◌, arith, eqb-true, eq-eqb}
use Rattle.std.specs.Prelude.{◌==◌, if◌then◌else◌, slice_get}
use Rattle.std.proofs.lemmas.Option.{get_or_from_slice_get, slice_get_within}
use Rattle.isp_base.specs.Ranks.{rank}
use Rattle.isp_base.proofs.RankLaws.{same_is}
use Rattle.isp_base.specs.declared.types.Elem.{Elem}
use Rattle.isp_base.specs.declared.types.Elem.TheVariants.{Bool as Truth, I8, U8, I16, U16, I32, U32, I64, U64}
use Rattle.isp_base.specs.declared.types.Rate.{Rate}
use Rattle.isp_base.specs.declared.types.Rate.TheVariants.{Uniform, Varying}
use Rattle.isp_code.specs.Listing.{Routine}
use Rattle.isp_code.specs.Registers.{table_of, types_in, count_of}
use Rattle.isp_lower_code.specs.Layout.{IsApart, class_at}
use Rattle.isp_lower_code.specs.Rows.{Name, Variable, Result, Spare, Place, Fresh, Kept, keeps, has_type, name_number, Row, number_in, elem_in, Rows, rows_at, layout_of, numbered, HasRow}
use Rattle.isp_lower_code.specs.Sound.{HasKept, IsRegister, HasRegister}
use Rattle.isp_lower_code.proofs.Splits.{same_elem-is}
use Rattle.isp_lower_code.specs.Setting.{Setting}
use Rattle.isp_lower_code.specs.Tables.{IsTyped}

-- names with one number are one name
one_number : (rows : List Row) (x y : Name) → number_in rows x ≡ number_in rows y → name_number x ≡ name_number y
one_number [] x y e = e
one_number (z ∷ rows) x y e = go (name_number z.name == name_number x) (name_number z.name == name_number y) refl refl (one_number rows x y) e
  where
    go : (b d : Bool) → (name_number z.name == name_number x) ≡ b → (name_number z.name == name_number y) ≡ d
        → (number_in rows x ≡ number_in rows y → name_number x ≡ name_number y)
        → (if b then 0 else 1 + number_in rows x) ≡ (if d then 0 else 1 + number_in rows y) → name_number x ≡ name_number y
    go true true eb ed ih h = sym (eqb-true (name_number z.name) (name_number x) eb) ∙ eqb-true (name_number z.name) (name_number y) ed
    go true false eb ed ih h = absurd (omega (arith, h))
    go false true eb ed ih h = absurd (omega (arith, h))
    go false false eb ed ih h = ih (omega (arith, h))

pub few_ranks : (t : Elem) → rank t < 9
few_ranks Truth = omega arith
few_ranks I8 = omega arith
few_ranks U8 = omega arith
few_ranks I16 = omega arith
few_ranks U16 = omega arith
few_ranks I32 = omega arith
few_ranks U32 = omega arith
few_ranks I64 = omega arith
few_ranks U64 = omega arith

pub layout_apart : (rates : ℕ → List Rate) (rows : Rows) → IsApart (layout_of rates rows)
layout_apart rates rows = record {
  variables = λ r v w ne e. let h = one_number (rows_at rows r) (Variable v) (Variable w) e in ne (omega (arith, h));
  spares = λ r t u i j ne e. let h = one_number (rows_at rows r) (Spare t i) (Spare u j) e in let a = few_ranks t in let b = few_ranks u in ne (omega (arith, h, a, b));
  variable_spare = λ r t v j e. let h = one_number (rows_at rows r) (Variable v) (Spare t j) e in omega (arith, h);
  result_variable = λ r v e. let h = one_number (rows_at rows r) Result (Variable v) e in omega (arith, h);
  result_spare = λ r t j e. let h = one_number (rows_at rows r) Result (Spare t j) e in omega (arith, h);
  freshes = λ r i j ne e. let h = one_number (rows_at rows r) (Fresh i) (Fresh j) e in ne (omega (arith, h));
  variable_fresh = λ r v j e. let h = one_number (rows_at rows r) (Variable v) (Fresh j) e in omega (arith, h);
  result_fresh = λ r j e. let h = one_number (rows_at rows r) Result (Fresh j) e in omega (arith, h);
  spare_fresh = λ r t i j e. let h = one_number (rows_at rows r) (Spare t i) (Fresh j) e in omega (arith, h);
  place_fresh = λ r j e. let h = one_number (rows_at rows r) Place (Fresh j) e in omega (arith, h);
  place_variable = λ r v e. let h = one_number (rows_at rows r) Place (Variable v) e in omega (arith, h);
  place_result = λ r e. let h = one_number (rows_at rows r) Place Result e in omega (arith, h);
  place_spare = λ r t j e. let h = one_number (rows_at rows r) Place (Spare t j) e in omega (arith, h);
  arrays = λ v w ne e. let h = one_number rows.arrays (Variable v) (Variable w) e in ne (omega (arith, h));
  constants = λ r t u b c e.
      let h = one_number (rows_at rows r) (Kept t b) (Kept u c) e in
      let x = few_ranks t in
      let y = few_ranks u in
      (same_is t u (eq-eqb (rank t) (rank u) (omega (arith, h, x, y))), omega (arith, h, x, y));
  kept_variable = λ r t b v k e. let h = one_number (rows_at rows r) (Kept t b) (Variable v) e in omega (arith, h);
  kept_result = λ r t b k e. let h = one_number (rows_at rows r) (Kept t b) Result e in omega (arith, h);
  kept_spare = λ r t b u j k e. let h = one_number (rows_at rows r) (Kept t b) (Spare u j) e in omega (arith, h);
  kept_place = λ r t b k e. let h = one_number (rows_at rows r) (Kept t b) Place e in omega (arith, h);
  kept_fresh = λ r t b j k e. let h = one_number (rows_at rows r) (Kept t b) (Fresh j) e in omega (arith, h);
}

-- the type of a row stands at its number
pub row_typed : (rows : List Row) (x : Name) (t : Elem) → elem_in rows x ≡ Some t → slice_get (map (λ y. y.elem) rows) (number_in rows x) ≡ Some t
row_typed [] x t e = absurd (cc)
row_typed (z ∷ rows) x t e = go (name_number z.name == name_number x) (row_typed rows x t) e
  where
    go : (b : Bool) → (elem_in rows x ≡ Some t → slice_get (map (λ y. y.elem) rows) (number_in rows x) ≡ Some t)
        → (if b then Some z.elem else elem_in rows x) ≡ Some t
        → slice_get (z.elem ∷ map (λ y. y.elem) rows) (if b then 0 else 1 + number_in rows x) ≡ Some t
    go true ih h = h
    go false ih h = later (number_in rows x) (ih h)
      where
        later : (n : ℕ) → slice_get (map (λ (y : Row). y.elem) rows) n ≡ Some t → slice_get (z.elem ∷ map (λ (y : Row). y.elem) rows) (1 + n) ≡ Some t
        later n h = let e : 1 + n ≡ suc n = omega arith in ap (slice_get (z.elem ∷ map (λ (y : Row). y.elem) rows)) e ∙ h

pub register_typed : (w : Setting) (rows : Rows) (r : Rate) (x : Name) (t : Elem) → types_in (table_of w.routine) (class_at r) ≡ map (λ y. y.elem) (rows_at rows r) → elem_in (rows_at rows r) x ≡ Some t → IsTyped w r (number_in (rows_at rows r) x) t
register_typed w rows r x t e h =
    get_or_from_slice_get (types_in (table_of w.routine) (class_at r)) (number_in (rows_at rows r) x) t Truth (ap (λ ts. slice_get ts (number_in (rows_at rows r) x)) e ∙ row_typed (rows_at rows r) x t h)

-- rows that are added change no number and no type of a name that has a row
pub rows_stay : (rows more : List Row) (x : Name) (t : Elem) → elem_in rows x ≡ Some t → (number_in (rows ++ more) x ≡ number_in rows x) × (elem_in (rows ++ more) x ≡ Some t)
rows_stay [] more x t e = absurd (cc)
rows_stay (z ∷ rows) more x t e = go (name_number z.name == name_number x) (rows_stay rows more x t) e
  where
    go : (b : Bool) → (elem_in rows x ≡ Some t → (number_in (rows ++ more) x ≡ number_in rows x) × (elem_in (rows ++ more) x ≡ Some t))
        → (if b then Some z.elem else elem_in rows x) ≡ Some t
        → ((if b then 0 else 1 + number_in (rows ++ more) x) ≡ (if b then 0 else 1 + number_in rows x))
        × ((if b then Some z.elem else elem_in (rows ++ more) x) ≡ Some t)
    go true ih h = (refl, h)
    go false ih h = let r = ih h in (ap (λ n. 1 + n) r.0, r.1)

-- the register of a name that has a row is there
numbered_in : (rates : ℕ → List Rate) (rows : Rows) (r : Rate) (x : Name) → number_in (rows_at rows r) x ≡ numbered (layout_of rates rows) r x
numbered_in rates rows r (Variable v) = refl
numbered_in rates rows r Result = refl
numbered_in rates rows r (Spare t j) = refl
numbered_in rates rows r Place = refl
numbered_in rates rows r (Fresh j) = refl
numbered_in rates rows r (Kept t b) = refl

count_at : (h : Routine) (r : Rate) → length (types_in (table_of h) (class_at r)) ≡ count_of h (class_at r)
count_at h Uniform = refl
count_at h Varying = refl

pub register_there : (h : Routine) (rates : ℕ → List Rate) (rows : Rows)
    → ((r : Rate) → types_in (table_of h) (class_at r) ≡ map (λ y. y.elem) (rows_at rows r)) → (r : Rate) (x : Name) (t : Elem) → HasRow rows r x t
    → HasRegister h (layout_of rates rows) r x t
register_there h rates rows made r x t has =
    let n = number_in (rows_at rows r) x in
    let types = types_in (table_of h) (class_at r) in
    let at : slice_get types n ≡ Some t = ap (λ ts. slice_get ts n) (made r) ∙ row_typed (rows_at rows r) x t has in
    let low : n < count_of h (class_at r) = subst (λ m. n < m) (count_at h r) (slice_get_within types n t at) in
    subst (λ m. IsRegister h r m t) (numbered_in rates rows r x) ((refl, low), get_or_from_slice_get types n t Truth at)

-- a constant that is kept has a row of its type
pub kept_row : (rows : List Row) (t : Elem) (b : ℕ) → keeps rows t b ≡ true → elem_in rows (Kept t b) ≡ Some t
kept_row rows t b e = go (elem_in rows (Kept t b)) refl e
  where
    go : (o : Option Elem) → elem_in rows (Kept t b) ≡ o → has_type t o ≡ true → elem_in rows (Kept t b) ≡ Some t
    go None eo h = absurd (cc)
    go (Some u) eo h = eo ∙ ap (λ z. Some z) (same_elem-is u t h)

pub kept_of : (rows : List Row) (t : Elem) (b : ℕ) → elem_in rows (Kept t b) ≡ Some t → keeps rows t b ≡ true
kept_of rows t b e = ap (has_type t) e ∙ eq-eqb (rank t) (rank t) refl

pub kept_there : (h : Routine) (rates : ℕ → List Rate) (rows : Rows) → ((r : Rate) → types_in (table_of h) (class_at r) ≡ map (λ y. y.elem) (rows_at rows r)) → HasKept h (layout_of rates rows)
kept_there h rates rows made r t b e = register_there h rates rows made r (Kept t b) t (kept_row (rows_at rows r) t b e)
