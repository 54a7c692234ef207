-- Where rows of variables come first, parameters are passed first; and registers that begin with what is passed stand for the
-- state of a call.
use Rattle.std.proofs.Common.{◌≡◌, ◌≢◌, ℕ, zero, suc, ◌+◌, ◌≤◌, List, [], ◌∷◌, ◌++◌, take, length, Option, Some, None, Bool, true, false, refl, sym, ap, ◌∙◌, subst, arith, eq-eqb, ◌⊎◌, inl, inr, ⊎_elim}
use Rattle.std.proofs.lemmas.Option.{same_Some}
use Rattle.std.specs.Prelude.{slice_get, if◌then◌else◌}
use Rattle.std.proofs.lemmas.Bool.{ne_eqb}
use Rattle.std.proofs.lemmas.List.{append_assoc}
use Rattle.isp_base.specs.Maps.{Lanes, over}
use Rattle.isp_base.specs.Sets.{Mask}
use Rattle.isp_base.specs.declared.types.Rate.{Rate}
use Rattle.isp_base.specs.declared.types.Rate.TheVariants.{Uniform, Varying}
use Rattle.isp_typed.specs.Fine.{params_of}
use Rattle.isp_typed.specs.Typed.{TFunction}
use Rattle.isp_typed.specs.declared.variable.Holds.{Holds}
use Rattle.isp_typed.specs.declared.variable.Holds.TheVariants as holds
use Rattle.isp_typed.specs.declared.variable.Variable.{Variable as Declared}
use Rattle.isp_meaning.specs.Calls.{is_value, one_passed, each_passed, same_rate}
use Rattle.isp_meaning.specs.Expressions.{Passed, Values, Store}
use Rattle.isp_meaning.specs.Payloads.{Payload, sole, spread}
use Rattle.isp_lower_code.specs.FirstRows.{Begins, row_at, row_where, value_row, value_rows, result_rows, first_rows}
use Rattle.isp_lower_code.specs.Layout.{Layout}
use Rattle.isp_lower_code.specs.Rows.{Name, Variable, Result, Kept, Row, Rows, name_number, number_in, rows_at, layout_of}
use Rattle.isp_masks_code.specs.Passing.{count_if, count_value, value_count, HasRate, PassedFirst, Passes}

-- ---- rates

pub rate_same : (r s : Rate) → same_rate r s ≡ true → s ≡ r
rate_same Uniform Uniform e = refl
rate_same Uniform Varying e = absurd (cc)
rate_same Varying Uniform e = absurd (cc)
rate_same Varying Varying e = refl

pub same_true : (r s : Rate) → s ≡ r → same_rate r s ≡ true
same_true Uniform s e = ap (same_rate Uniform) e
same_true Varying s e = ap (same_rate Varying) e

by_rate : (r s : Rate) → (s ≡ r) ⊎ (s ≡ r → ⊥)
by_rate Uniform Uniform = inl refl
by_rate Uniform Varying = inr (λ e. cc)
by_rate Varying Uniform = inr (λ e. cc)
by_rate Varying Varying = inl refl

has_rate : (r : Rate) (y : Holds) → HasRate r y ⊎ (HasRate r y → ⊥)
has_rate r (holds.Value t) = by_rate r t.rate
has_rate r (holds.Given t) = inr (λ e. e)
has_rate r (holds.Local t n) = inr (λ e. e)

-- ---- lists

pub taken_at : {A : Type 0} (xs : List A) (n v : ℕ) (x : A) → slice_get (take n xs) v ≡ Some x → slice_get xs v ≡ Some x
taken_at [] zero v x e = absurd (cc)
taken_at [] (suc n) v x e = absurd (cc)
taken_at (y ∷ xs) zero v x e = absurd (cc)
taken_at (y ∷ xs) (suc n) zero x e = e
taken_at (y ∷ xs) (suc n) (suc v) x e = taken_at xs n v x e

take_taken : {A : Type 0} (xs : List A) (n v : ℕ) (x : A) → slice_get (take n xs) v ≡ Some x → take v (take n xs) ≡ take v xs
take_taken [] zero v x e = absurd (cc)
take_taken [] (suc n) v x e = absurd (cc)
take_taken (y ∷ xs) zero v x e = absurd (cc)
take_taken (y ∷ xs) (suc n) zero x e = refl
take_taken (y ∷ xs) (suc n) (suc v) x e = ap (λ z. y ∷ z) (take_taken xs n v x e)

-- ---- the numbers of rows of variables, whose numbers begin at k

own_number : (r : Rate) (y : Holds) (k x : ℕ) (rows more : List Row) → x ≡ k → HasRate r y → number_in (value_row r y k rows ++ more) (Variable x) ≡ 0
own_number r (holds.Value t) k x rows more e has =
    let same : name_number (Variable k) ≡ name_number (Variable x) = omega (arith, e) in
    ap (λ z. number_in (row_where z (row_at k t.elem) rows ++ more) (Variable x)) (same_true r t.rate has)
    ∙ ap (λ z. if z then 0 else 1 + number_in (rows ++ more) (Variable x)) (eq-eqb (name_number (Variable k)) (name_number (Variable x)) same)
own_number r (holds.Given t) k x rows more e has = absurd has
own_number r (holds.Local t n) k x rows more e has = absurd has

past_number : (r : Rate) (y : Holds) (k : ℕ) (rows more : List Row) (x : Name) (n : ℕ) → (HasRate r y → name_number (Variable k) ≢ name_number x) → number_in (rows ++ more) x ≡ n → number_in (value_row r y k rows ++ more) x ≡ count_value r y n
past_number r (holds.Value t) k rows more x n ne e = go (same_rate r t.rate) refl
  where
    go : (b : Bool) → same_rate r t.rate ≡ b → number_in (row_where b (row_at k t.elem) rows ++ more) x ≡ count_if b n
    go false eb = e
    go true eb =
        let step : 1 + n ≡ suc n = omega arith in
        ap (λ z. if z then 0 else 1 + number_in (rows ++ more) x) (ne_eqb (name_number (Variable k)) (name_number x) (ne (rate_same r t.rate eb))) ∙ ap (λ z. 1 + z) e ∙ step
past_number r (holds.Given t) k rows more x n ne e = e
past_number r (holds.Local t m) k rows more x n ne e = e

value_number : (r : Rate) (vs : List Declared) (more : List Row) (k v y : ℕ) (x : Declared) → y ≡ k + v → slice_get vs v ≡ Some x → HasRate r x.holds → number_in (value_rows r k vs ++ more) (Variable y) ≡ value_count r (take v vs)
value_number r [] more k v y x ey e has = absurd (cc)
value_number r (w ∷ vs) more k zero y x ey e has =
    own_number r w.holds k y (value_rows r (suc k) vs) more (omega (arith, ey)) (subst (λ (z : Declared). HasRate r z.holds) (sym (same_Some w x e)) has)
value_number r (w ∷ vs) more k (suc v) y x ey e has =
    past_number r w.holds k (value_rows r (suc k) vs) more (Variable y) (value_count r (take v vs)) (λ own same. omega (arith, same, ey)) (value_number r vs more (suc k) v y x (omega (arith, ey)) e has)

more_counted : (r : Rate) (y : Holds) (m n : ℕ) → m ≤ n → count_value r y m ≤ count_value r y n
more_counted r (holds.Value t) m n le = go (same_rate r t.rate)
  where
    go : (b : Bool) → count_if b m ≤ count_if b n
    go true = omega (arith, le)
    go false = le
more_counted r (holds.Given t) m n le = le
more_counted r (holds.Local t k) m n le = le

-- every other name comes after those of the first n
other_number : (r : Rate) (n : ℕ) (vs : List Declared) (more : List Row) (k : ℕ) (x : Name)
    → ((v : ℕ) (w : Declared) → slice_get (take n vs) v ≡ Some w → HasRate r w.holds → name_number (Variable (k + v)) ≢ name_number x)
    → value_count r (take n vs) ≤ number_in (value_rows r k vs ++ more) x
other_number r zero [] more k x ne = omega arith
other_number r zero (w ∷ vs) more k x ne = omega arith
other_number r (suc n) [] more k x ne = omega arith
other_number r (suc n) (w ∷ vs) more k x ne =
    let first : k + 0 ≡ k = omega arith in
    let is = past_number r w.holds k (value_rows r (suc k) vs) more x (number_in (value_rows r (suc k) vs ++ more) x) (λ own. subst (λ z. name_number (Variable z) ≢ name_number x) first (ne 0 w refl own)) refl in
    subst (λ z. count_value r w.holds (value_count r (take n vs)) ≤ z) (sym is)
    (more_counted r w.holds (value_count r (take n vs)) (number_in (value_rows r (suc k) vs ++ more) x)
    (other_number r n vs more (suc k) x (λ v y e own. subst (λ z. name_number (Variable z) ≢ name_number x) (moved v) (ne (suc v) y e own))))
  where
    moved : (v : ℕ) → k + suc v ≡ suc k + v
    moved v = omega arith

values_begin : (vs : List Declared) (h : TFunction) (rows : Rows) → vs ≡ h.variables → Begins (first_rows vs h.answer).scalars rows.scalars
    → Begins (first_rows vs h.answer).vectors rows.vectors → (r : Rate) → (more : List Row) × (rows_at rows r ≡ value_rows r 0 vs ++ more)
values_begin vs h rows e s v Uniform = (result_rows Uniform h.answer ++ s.more, s.is ∙ append_assoc (value_rows Uniform 0 vs) (result_rows Uniform h.answer) s.more)
values_begin vs h rows e s v Varying = (result_rows Varying h.answer ++ v.more, v.is ∙ append_assoc (value_rows Varying 0 vs) (result_rows Varying h.answer) v.more)

pub passed_first : (h : TFunction) (rates : ℕ → List Rate) (rows : Rows) → Begins (first_rows h.variables h.answer).scalars rows.scalars → Begins (first_rows h.variables h.answer).vectors rows.vectors → PassedFirst h (layout_of rates rows)
passed_first h rates rows s v = record {
  value = λ r y x e has.
      let b = begun r in
      let own : y ≡ 0 + y = omega arith in
      ap (λ z. number_in z (Variable y)) b.1 ∙ value_number r h.variables b.0 0 y y x own (taken_at h.variables (length h.params) y x e) has ∙ ap (value_count r) (sym (take_taken h.variables (length h.params) y x e));
  other = λ r y lacks.
      let b = begun r in
      subst (λ z. value_count r (params_of h) ≤ number_in z (Variable y)) (sym b.1)
      (other_number r (length h.params) h.variables b.0 0 (Variable y)
      (λ u w e has same. lacks w (subst (λ z. slice_get (params_of h) z ≡ Some w) (let is : u ≡ y = omega (arith, same) in is) e) has));
  result = λ r.
      let b = begun r in
      subst (λ z. value_count r (params_of h) ≤ number_in z Result) (sym b.1) (other_number r (length h.params) h.variables b.0 0 Result (λ u w e has same. omega (arith, same)));
  constant = λ r t c.
      let b = begun r in
      subst (λ z. value_count r (params_of h) ≤ number_in z (Kept t c)) (sym b.1) (other_number r (length h.params) h.variables b.0 0 (Kept t c) (λ u w e has same. omega (arith, same)));
}
  where
    begun : (r : Rate) → (more : List Row) × (rows_at rows r ≡ value_rows r 0 h.variables ++ more)
    begun r = values_begin h.variables h rows refl s v r

-- ---- what a call begins with

none_one : (o : Option Declared) → one_passed o None ≡ 0
none_one None = refl
none_one (Some x) = refl

none_each : (o : Option Declared) (a : Mask) → each_passed o a None ≡ (λ p. 0)
none_each None a = refl
none_each (Some x) a = refl

no_one : (y : Holds) (z : Payload) → (HasRate Uniform y → ⊥) → (if is_value Uniform y then sole z else 0) ≡ 0
no_one (holds.Value t) z lacks = go t.rate refl
  where
    go : (r : Rate) → t.rate ≡ r → (if same_rate Uniform r then sole z else 0) ≡ 0
    go Uniform e = absurd (lacks e)
    go Varying e = refl
no_one (holds.Given t) z lacks = refl
no_one (holds.Local t n) z lacks = refl

no_each : (y : Holds) (a : Mask) (z : Payload) → (HasRate Varying y → ⊥) → (if is_value Varying y then over (spread a z) (λ p. 0) else (λ p. 0)) ≡ (λ p. 0)
no_each (holds.Value t) a z lacks = go t.rate refl
  where
    go : (r : Rate) → t.rate ≡ r → (if same_rate Varying r then over (spread a z) (λ p. 0) else (λ p. 0)) ≡ (λ p. 0)
    go Uniform e = refl
    go Varying e = absurd (lacks e)
no_each (holds.Given t) a z lacks = refl
no_each (holds.Local t n) a z lacks = refl

not_one : (x : Declared) (o : Option Passed) → (HasRate Uniform x.holds → ⊥) → one_passed (Some x) o ≡ 0
not_one x None lacks = refl
not_one x (Some (Values z)) lacks = no_one x.holds z lacks
not_one x (Some (Store b)) lacks = refl

not_each : (x : Declared) (a : Mask) (o : Option Passed) → (HasRate Varying x.holds → ⊥) → each_passed (Some x) a o ≡ (λ p. 0)
not_each x a None lacks = refl
not_each x a (Some (Values z)) lacks = no_each x.holds a z lacks
not_each x a (Some (Store b)) lacks = refl

module _ (h : TFunction) (l : Layout) (first : PassedFirst h l) (scalars : ℕ → ℕ) (vectors : ℕ → Lanes) (ps : List Passed) (a : Mask) (passes : Passes (params_of h) scalars vectors ps a) where
  -- another variable of that number would be this one
  no_other : (r : Rate) (v : ℕ) (x : Declared) → slice_get (params_of h) v ≡ Some x → (HasRate r x.holds → ⊥) → (y : Declared) → slice_get (params_of h) v ≡ Some y → HasRate r y.holds → ⊥
  no_other r v x e lacks y ey has = lacks (subst (λ (z : Declared). HasRate r z.holds) (same_Some y x (sym ey ∙ e)) has)

  none_there : (v : ℕ) → slice_get (params_of h) v ≡ None → (y : Declared) → slice_get (params_of h) v ≡ Some y → ⊥
  none_there v e y ey = cc

  pub ones_begin : (v : ℕ) → scalars (l.variable Uniform v) ≡ one_passed (slice_get h.variables v) (slice_get ps v)
  ones_begin v = go (slice_get (params_of h) v) refl
    where
      go : (o : Option Declared) → slice_get (params_of h) v ≡ o → scalars (l.variable Uniform v) ≡ one_passed (slice_get h.variables v) (slice_get ps v)
      go None e =
          passes.ones_end (l.variable Uniform v) (first.other Uniform v (λ y ey has. none_there v e y ey)) ∙ sym (ap (one_passed (slice_get h.variables v)) (passes.only v e) ∙ none_one (slice_get h.variables v))
      go (Some x) e =
          ⊎_elim
          (λ (has : HasRate Uniform x.holds). ap scalars (first.value Uniform v x e has) ∙ passes.ones v x e has)
          (λ (lacks : HasRate Uniform x.holds → ⊥). passes.ones_end (l.variable Uniform v) (first.other Uniform v (no_other Uniform v x e lacks)) ∙ sym (not_one x (slice_get ps v) lacks))
          (has_rate Uniform x.holds)
          ∙ ap (λ z. one_passed z (slice_get ps v)) (sym (taken_at h.variables (length h.params) v x e))

  pub each_begin : (v : ℕ) → vectors (l.variable Varying v) ≡ each_passed (slice_get h.variables v) a (slice_get ps v)
  each_begin v = go (slice_get (params_of h) v) refl
    where
      go : (o : Option Declared) → slice_get (params_of h) v ≡ o → vectors (l.variable Varying v) ≡ each_passed (slice_get h.variables v) a (slice_get ps v)
      go None e =
          passes.each_end (l.variable Varying v) (first.other Varying v (λ y ey has. none_there v e y ey)) ∙ sym (ap (each_passed (slice_get h.variables v) a) (passes.only v e) ∙ none_each (slice_get h.variables v) a)
      go (Some x) e =
          ⊎_elim
          (λ (has : HasRate Varying x.holds). ap vectors (first.value Varying v x e has) ∙ passes.each v x e has)
          (λ (lacks : HasRate Varying x.holds → ⊥). passes.each_end (l.variable Varying v) (first.other Varying v (no_other Varying v x e lacks)) ∙ sym (not_each x a (slice_get ps v) lacks))
          (has_rate Varying x.holds)
          ∙ ap (λ z. each_passed z a (slice_get ps v)) (sym (taken_at h.variables (length h.params) v x e))
