-- Rows of registers, and a map that tells where the first row of each name stands.
use Rattle.std.proofs.Common.{◌≡◌, ◌<◌, ◌≤◌, ℕ, zero, suc, map, subst, ◌+◌, length, List, [], ◌∷◌, ◌++◌, Some, None, Bool, true, false, refl, sym, ap, ◌∙◌, ◌≢◌, arith, eqb-true, eq-eqb, ne_eqb, get_or, take, ◌⊎◌, inl, inr, append-nil, length-append}
use Rattle.std.specs.Prelude.{◌==◌, if◌then◌else◌, Option, IfSome, IfNone, is_some, slice_get, cond, nat_lt}
use Rattle.std.specs.BTreeMap.{BTreeMap, get}
use Rattle.std.specs.Ordering.{nat_cmp, is_eq}
use Rattle.std.specs.declared.cmp.Ordering.TheVariants.{Less, Equal, Greater}
use Rattle.std.proofs.lemmas.List.{map-append, length-map, length-take-le}
use Rattle.std.proofs.lemmas.Option.{slice_get-get_or}
use Rattle.std.proofs.lemmas.Cmp.{tied_itself, nat_cmp_total}
use Rattle.isp_base.specs.Ranks.{rank, same_elem}
use Rattle.isp_base.specs.declared.types.Elem.{Elem}
use Rattle.isp_base.proofs.RankLaws.{same_is}
use Rattle.isp_registers.specs.Lookup.{AreNamedFrom, HasOwnType, IsNamedAt, IsPlain, Tells, name_of, own_type, row_of}
use Rattle.isp_lower_code.specs.Rows.{Name, Variable, Result, Spare, Place, Fresh, Kept, Row, has_type, keeps, name_number, number_in, elem_in, with_fresh}
use Rattle.isp_registers.specs.Growth.{KeepsIn}
use Rattle.isp_registers.specs.declared.registers.RegisterName.TheVariants as one
use Rattle.isp_registers.specs.declared.registers.RegisterRow.{RegisterRow}
use Rattle.isp_lower_code.proofs.Lemmas.{few_ranks, kept_of, rows_stay}

-- ---- which constants a row more keeps

-- a row of another name keeps no constant more
other_keeps : (rows : List Row) (z : Row) (t : Elem) (b : ℕ) → (name_number z.name == name_number (Kept t b)) ≡ false → keeps (rows ++ z ∷ []) t b ≡ keeps rows t b
other_keeps rows z t b e = ap (has_type t) (go rows)
  where
    go : (xs : List Row) → elem_in (xs ++ z ∷ []) (Kept t b) ≡ elem_in xs (Kept t b)
    go [] = ap (λ d. if d then Some z.elem else None) e
    go (y ∷ ys) = ap (λ o. if name_number y.name == name_number (Kept t b) then Some y.elem else o) (go ys)

plain_keeps : (rows : List Row) (z : Row) (t : Elem) (b : ℕ) → IsPlain z.name → keeps (rows ++ z ∷ []) t b ≡ keeps rows t b
plain_keeps rows z t b plain = other_keeps rows z t b (other z.name plain)
  where
    other : (x : Name) → IsPlain x → (name_number x == name_number (Kept t b)) ≡ false
    other (Variable v) p = ne_eqb (name_number (Variable v)) (name_number (Kept t b)) (λ e. omega (arith, e))
    other Result p = ne_eqb (name_number Result) (name_number (Kept t b)) (λ e. omega (arith, e))
    other (Spare u j) p = ne_eqb (name_number (Spare u j)) (name_number (Kept t b)) (λ e. omega (arith, e))
    other Place p = ne_eqb (name_number Place) (name_number (Kept t b)) (λ e. omega (arith, e))
    other (Fresh j) p = ne_eqb (name_number (Fresh j)) (name_number (Kept t b)) (λ e. omega (arith, e))
    other (Kept u c) p = absurd p

-- the row of a constant keeps that one, and no other one more
kept_more : (rows : List Row) (u : Elem) (c : ℕ) (t : Elem) (b : ℕ) → keeps (rows ++ record { name = Kept u c; elem = u } ∷ []) t b ≡ true → (keeps rows t b ≡ true) ⊎ ((t ≡ u) × (b ≡ c))
kept_more rows u c t b h = go (name_number (Kept u c) == name_number (Kept t b)) refl
  where
    go : (d : Bool) → (name_number (Kept u c) == name_number (Kept t b)) ≡ d → (keeps rows t b ≡ true) ⊎ ((t ≡ u) × (b ≡ c))
    go true e =
        let n = eqb-true (name_number (Kept u c)) (name_number (Kept t b)) e in
        let x = few_ranks u in
        let y = few_ranks t in
        inr (same_is t u (eq-eqb (rank t) (rank u) (omega (arith, n, x, y))), omega (arith, n, x, y))
    go false e = inl (sym (other_keeps rows (record { name = Kept u c; elem = u }) t b e) ∙ h)

-- ---- the row of a name

some_same : {A : Type 0} {x y : A} → Some x ≡ Some y → x ≡ y
some_same e = cc

none_some : {A B : Type 0} {x : A} → Some x ≡ None → B
none_some e = absurd (cc)

-- names of one number have one row
same_elem_in : (rows : List Row) (x y : Name) → name_number x ≡ name_number y → elem_in rows x ≡ elem_in rows y
same_elem_in [] x y e = refl
same_elem_in (z ∷ rows) x y e = ap (λ n. if name_number z.name == n then Some z.elem else elem_in rows x) e ∙ ap (λ o. if name_number z.name == name_number y then Some z.elem else o) (same_elem_in rows x y e)

-- the row of a name stands at its number
record IsThere (rows : List Row) (n : ℕ) (x : Name) (t : Elem) : Type 0 where
  row : Row
  stands : slice_get rows n ≡ Some row
  named : (name_number row.name == name_number x) ≡ true
  typed : row.elem ≡ t

there_later : (z : Row) (rows : List Row) (n : ℕ) (x : Name) (t : Elem) → IsThere rows n x t → IsThere (z ∷ rows) (1 + n) x t
there_later z rows n x t h = let e : 1 + n ≡ suc n = omega arith in record { row = h.row; stands = ap (slice_get (z ∷ rows)) e ∙ h.stands; named = h.named; typed = h.typed }

there : (rows : List Row) (x : Name) (t : Elem) → elem_in rows x ≡ Some t → IsThere rows (number_in rows x) x t
there [] x t e = none_some (sym e)
there (z ∷ rows) x t e = go (name_number z.name == name_number x) refl (there rows x t) e
  where
    go : (b : Bool) → (name_number z.name == name_number x) ≡ b → (elem_in rows x ≡ Some t → IsThere rows (number_in rows x) x t) → (if b then Some z.elem else elem_in rows x) ≡ Some t → IsThere (z ∷ rows) (if b then 0 else 1 + number_in rows x) x t
    go true b ih h = record { row = z; stands = refl; named = b; typed = some_same h }
    go false b ih h = there_later z rows (number_in rows x) x t (ih h)

-- where a row of a name stands, the name has a type
has : (rows : List Row) (n : ℕ) (x : Name) (r : Row) → slice_get rows n ≡ Some r → (name_number r.name == name_number x) ≡ true → (t : Elem) × (elem_in rows x ≡ Some t)
has [] n x r s e = none_some (sym s)
has (z ∷ rows) zero x r s e = (z.elem, ap (λ b. if b then Some z.elem else elem_in rows x) (ap (λ (y : Row). name_number y.name == name_number x) (some_same s) ∙ e))
has (z ∷ rows) (suc n) x r s e = go (name_number z.name == name_number x) (has rows n x r s e)
  where
    go : (b : Bool) → (t : Elem) × (elem_in rows x ≡ Some t) → (t : Elem) × ((if b then Some z.elem else elem_in rows x) ≡ Some t)
    go true h = (z.elem, refl)
    go false h = h

-- ---- a look into the map

module _ (m : BTreeMap ℕ ℕ) (rows : List Row) (x : Name) (tells : Tells m rows) where
  none_if : ((t : Elem) → elem_in rows x ≡ Some t → ⊥) → elem_in rows x ≡ None
  none_if h = go (elem_in rows x) refl
    where
      go : (o : Option Elem) → elem_in rows x ≡ o → elem_in rows x ≡ None
      go None e = e
      go (Some t) e = absurd (h t e)

  pub found_number : (p : ℕ) (r : Row) → get nat_cmp m (name_number x) ≡ Some p → slice_get rows p ≡ Some r → (name_number r.name == name_number x) ≡ true → p ≡ number_in rows x
  found_number p r g s e = let h = has rows p x r s e in some_same (sym g ∙ tells x h.0 h.1)

  pub found_elem : (p : ℕ) (r : Row) → get nat_cmp m (name_number x) ≡ Some p → slice_get rows p ≡ Some r → (name_number r.name == name_number x) ≡ true → elem_in rows x ≡ Some r.elem
  found_elem p r g s e =
      let h = has rows p x r s e in
      let w = there rows x h.0 h.1 in
      let same : w.row ≡ r = some_same (sym w.stands ∙ (ap (slice_get rows) (sym (found_number p r g s e)) ∙ s)) in
      h.1 ∙ ap (λ z. Some z) (sym w.typed ∙ ap (λ (z : Row). z.elem) same)

  pub none_told : get nat_cmp m (name_number x) ≡ None → elem_in rows x ≡ None
  none_told g = none_if (λ t e. none_some (sym (tells x t e) ∙ g))

  pub none_behind : (p : ℕ) → get nat_cmp m (name_number x) ≡ Some p → slice_get rows p ≡ None → elem_in rows x ≡ None
  none_behind p g s = none_if (λ t e. let w = there rows x t e in
      none_some (sym w.stands ∙ (ap (slice_get rows) (some_same (sym (tells x t e) ∙ g)) ∙ s)))

  pub none_other : (p : ℕ) (r : Row) → get nat_cmp m (name_number x) ≡ Some p → slice_get rows p ≡ Some r → (name_number r.name == name_number x) ≡ false → elem_in rows x ≡ None
  none_other p r g s f = none_if (λ t e. let w = there rows x t e in
      let same : w.row ≡ r = some_same (sym w.stands ∙ (ap (slice_get rows) (some_same (sym (tells x t e) ∙ g)) ∙ s)) in
      let yes = ap (λ (z : Row). name_number z.name == name_number x) (sym same) ∙ w.named in cc)

-- ---- one more row

-- a name that only the last row has
last_row : (rows : List Row) (r : Row) (x : Name) (t : Elem) → elem_in rows x ≡ None → elem_in (rows ++ r ∷ []) x ≡ Some t
    → (name_number r.name ≡ name_number x) × (number_in (rows ++ r ∷ []) x ≡ length rows)
last_row [] r x t n e = go (name_number r.name == name_number x) refl e
  where
    go : (b : Bool) → (name_number r.name == name_number x) ≡ b → (if b then Some r.elem else None) ≡ Some t → (name_number r.name ≡ name_number x) × ((if b then 0 else 1 + name_number x) ≡ 0)
    go true b h = (eqb-true (name_number r.name) (name_number x) b, refl)
    go false b h = none_some (sym h)
last_row (z ∷ rows) r x t n e = go (name_number z.name == name_number x) (last_row rows r x t) n e
  where
    go : (b : Bool) → (elem_in rows x ≡ None → elem_in (rows ++ r ∷ []) x ≡ Some t → (name_number r.name ≡ name_number x) × (number_in (rows ++ r ∷ []) x ≡ length rows))
        → (if b then Some z.elem else elem_in rows x) ≡ None → (if b then Some z.elem else elem_in (rows ++ r ∷ []) x) ≡ Some t
        → (name_number r.name ≡ name_number x) × ((if b then 0 else 1 + number_in (rows ++ r ∷ []) x) ≡ suc (length rows))
    go true ih n h = none_some n
    go false ih n h = let w = ih n h in (w.0, ap (λ k. 1 + k) w.1 ∙ omega arith)

-- a map that tells of the names that had a row, and of that of the last one, tells of all
one_more : (n : BTreeMap ℕ ℕ) (rows : List Row) (r : Row) → Tells n rows → (elem_in rows r.name ≡ None → get nat_cmp n (name_number r.name) ≡ Some (length rows)) → Tells n (rows ++ r ∷ [])
one_more n rows r tells last x t e = go (elem_in rows x) refl
  where
    go : (o : Option Elem) → elem_in rows x ≡ o → get nat_cmp n (name_number x) ≡ Some (number_in (rows ++ r ∷ []) x)
    go (Some u) h = tells x u h ∙ ap (λ k. Some k) (sym (rows_stay rows (r ∷ []) x u h).0)
    go None h =
        let w = last_row rows r x t h e in
        ap (get nat_cmp n) (sym w.0) ∙ (last (same_elem_in rows r.name x w.0 ∙ h) ∙ ap (λ k. Some k) (sym w.1))

known_row : (n : BTreeMap ℕ ℕ) (rows : List Row) (r : Row) (u : Elem) → Tells n rows → elem_in rows r.name ≡ Some u → Tells n (rows ++ r ∷ [])
known_row n rows r u tells known = one_more n rows r tells (λ none. none_some (sym known ∙ none))

same_key : (a b : ℕ) → is_eq (nat_cmp a b) ≡ true → a ≡ b
same_key a b e = go (nat_lt a b) (a == b) refl e
  where
    go : (l s : Bool) → (a == b) ≡ s → is_eq (cond l Less (cond s Equal Greater)) ≡ true → a ≡ b
    go true s d h = absurd (cc)
    go false true d h = eqb-true a b d
    go false false d h = absurd (cc)

new_row : (m n : BTreeMap ℕ ℕ) (rows : List Row) (r : Row) → Tells m rows → elem_in rows r.name ≡ None
    → ((q : ℕ) → get nat_cmp n q ≡ cond (is_eq (nat_cmp (name_number r.name) q)) (Some (length rows)) (get nat_cmp m q)) → Tells n (rows ++ r ∷ [])
new_row m n rows r tells none put =
    one_more n rows r others (λ _. put (name_number r.name) ∙ ap (λ b. cond b (Some (length rows)) (get nat_cmp m (name_number r.name))) (ap is_eq (tied_itself nat_cmp_total (name_number r.name))))
  where
    others : Tells n rows
    others x t e = put (name_number x) ∙ go (is_eq (nat_cmp (name_number r.name) (name_number x))) refl
      where
        go : (b : Bool) → is_eq (nat_cmp (name_number r.name) (name_number x)) ≡ b → cond b (Some (length rows)) (get nat_cmp m (name_number x)) ≡ Some (number_in rows x)
        go true b = none_some (sym e ∙ (same_elem_in rows x r.name (sym (same_key (name_number r.name) (name_number x) b)) ∙ none))
        go false b = tells x t e

-- ---- the step of `push`

module _ (rows new : List RegisterRow) (r : RegisterRow) (found : Option (ℕ × Elem)) (all : new ≡ rows ++ r ∷ []) where
  behind : map row_of new ≡ map row_of rows ++ row_of r ∷ []
  behind = ap (map row_of) all ∙ map-append row_of rows (r ∷ [])

  pub pushed_known : (m : BTreeMap ℕ ℕ) → Tells m (map row_of rows) → is_some found ≡ true → IfSome found (λ x. elem_in (map row_of rows) (name_of r.name) ≡ Some x.1) → Tells m (map row_of new)
  pushed_known m tells given at = subst (Tells m) (sym behind) (go found given at)
    where
      go : (o : Option (ℕ × Elem)) → is_some o ≡ true → IfSome o (λ x. elem_in (map row_of rows) (name_of r.name) ≡ Some x.1) → Tells m (map row_of rows ++ row_of r ∷ [])
      go None given at = absurd (cc)
      go (Some x) given at = known_row m (map row_of rows) (row_of r) x.1 tells at

  pub pushed_new : (m n : BTreeMap ℕ ℕ) (k len : ℕ) → Tells m (map row_of rows) → is_some found ≡ false → IfNone found (elem_in (map row_of rows) (name_of r.name) ≡ None)
      → k ≡ name_number (name_of r.name) → len ≡ length rows → ((q : ℕ) → get nat_cmp n q ≡ cond (is_eq (nat_cmp k q)) (Some len) (get nat_cmp m q)) → Tells n (map row_of new)
  pushed_new m n k len tells absent at e l put = subst (Tells n) (sym behind) (new_row m n (map row_of rows) (row_of r) tells (go found absent at)
      (λ q. put q ∙ (ap (λ z. cond (is_eq (nat_cmp z q)) (Some len) (get nat_cmp m q)) e
      ∙ ap (λ z. cond (is_eq (nat_cmp (name_number (name_of r.name)) q)) (Some z) (get nat_cmp m q)) (l ∙ sym (length-map rows row_of)))))
    where
      go : (o : Option (ℕ × Elem)) → is_some o ≡ false → IfNone o (elem_in (map row_of rows) (name_of r.name) ≡ None) → elem_in (map row_of rows) (name_of r.name) ≡ None
      go None absent at = at
      go (Some x) absent at = absurd (cc)

-- where the row is refused, the map tells of the rows that are there
pub refused_new : (rows : List RegisterRow) (r : RegisterRow) (found : Option (ℕ × Elem)) (m n : BTreeMap ℕ ℕ) (k len : ℕ) → Tells m (map row_of rows) → is_some found ≡ false → IfNone found (elem_in (map row_of rows) (name_of r.name) ≡ None)
    → k ≡ name_number (name_of r.name) → ((q : ℕ) → get nat_cmp n q ≡ cond (is_eq (nat_cmp k q)) (Some len) (get nat_cmp m q)) → Tells n (map row_of rows)
refused_new rows r found m n k len tells absent at e put x t is = put (name_number x)
    ∙ ap (λ z. cond (is_eq (nat_cmp z (name_number x))) (Some len) (get nat_cmp m (name_number x))) e
    ∙ go (is_eq (nat_cmp (name_number (name_of r.name)) (name_number x))) refl
  where
    none : (o : Option (ℕ × Elem)) → is_some o ≡ false → IfNone o (elem_in (map row_of rows) (name_of r.name) ≡ None) → elem_in (map row_of rows) (name_of r.name) ≡ None
    none None out told = told
    none (Some y) out told = absurd (cc)

    go : (b : Bool) → is_eq (nat_cmp (name_number (name_of r.name)) (name_number x)) ≡ b → cond b (Some len) (get nat_cmp m (name_number x)) ≡ Some (number_in (map row_of rows) x)
    go true same = none_some (sym is ∙ (same_elem_in (map row_of rows) x (name_of r.name) (sym (same_key (name_number (name_of r.name)) (name_number x) same)) ∙ none found absent at))
    go false same = tells x t is

-- ---- a name that has a row has a number below the count of rows

below : (rows : List Row) (x : Name) (t : Elem) → elem_in rows x ≡ Some t → number_in rows x < length rows
below [] x t e = absurd (cc)
below (z ∷ rows) x t e = go (name_number z.name == name_number x) (below rows x t) e
  where
    go : (b : Bool) → (elem_in rows x ≡ Some t → number_in rows x < length rows) → (if b then Some z.elem else elem_in rows x) ≡ Some t → (if b then 0 else 1 + number_in rows x) < length (z ∷ rows)
    go true ih h = omega arith
    go false ih h = let i = ih h in omega (arith, i)

pub number_below : (rows : List RegisterRow) (x : Name) (t : Elem) → elem_in (map row_of rows) x ≡ Some t → number_in (map row_of rows) x < length rows
number_below rows x t e = omega (arith, below (map row_of rows) x t e, length-map rows row_of)

-- ---- fresh registers

named_more : (n : ℕ) (rows : List Row) (r : Row) → AreNamedFrom n rows → IsNamedAt (n + length rows) r.name → HasOwnType r.name r.elem → AreNamedFrom n (rows ++ r ∷ [])
named_more n [] r h at own = let e : n + 0 ≡ n = omega arith in (subst (λ m. IsNamedAt m r.name) e at, own, tt)
named_more n (y ∷ ys) r h at own =
    let e : n + length (y ∷ ys) ≡ suc n + length ys = omega arith in
    (h.0, h.1, named_more (suc n) ys r h.2 (subst (λ m. IsNamedAt m r.name) e at) own)

pub pushed_named : (rows new : List RegisterRow) (r : RegisterRow) → new ≡ rows ++ r ∷ [] → AreNamedFrom 0 (map row_of rows) → IsNamedAt (length rows) (name_of r.name) → HasOwnType (name_of r.name) r.elem → AreNamedFrom 0 (map row_of new)
pushed_named rows new r e h at own =
    let k : length rows ≡ 0 + length (map row_of rows) = omega (arith, length-map rows row_of) in
    subst (AreNamedFrom 0) (sym (ap (map row_of) e ∙ map-append row_of rows (r ∷ [])))
    (named_more 0 (map row_of rows) (row_of r) h (subst (λ m. IsNamedAt m (name_of r.name)) k at) own)

other_name : (x : Name) (n m : ℕ) → IsNamedAt n x → n < m → name_number x ≢ name_number (Fresh m)
other_name (Variable v) n m h lt = λ e. omega (arith, e)
other_name Result n m h lt = λ e. omega (arith, e)
other_name (Spare t j) n m h lt = λ e. omega (arith, e)
other_name Place n m h lt = λ e. omega (arith, e)
other_name (Fresh j) n m h lt = λ e. omega (arith, e, h, lt)
other_name (Kept t b) n m h lt = λ e. omega (arith, e)

fresh_last : (n m : ℕ) (rows : List Row) (t : Elem) → AreNamedFrom n rows → n + length rows ≡ m → number_in (rows ++ (record { name = Fresh m; elem = t }) ∷ []) (Fresh m) ≡ length rows
fresh_last n m [] t h e = ap (λ b. if b then 0 else 1 + name_number (Fresh m)) (eq-eqb (name_number (Fresh m)) (name_number (Fresh m)) refl)
fresh_last n m (y ∷ ys) t h e =
    let step : 1 + length ys ≡ length (y ∷ ys) = omega arith in
    ap (λ b. if b then 0 else 1 + number_in (ys ++ (record { name = Fresh m; elem = t }) ∷ []) (Fresh m)) (ne_eqb (name_number y.name) (name_number (Fresh m)) (other_name y.name n m h.0 (omega (arith, e))))
    ∙ ap (λ z. 1 + z) (fresh_last (suc n) m ys t h.2 (omega (arith, e))) ∙ step

-- one more row, of a fresh register
module _ (rows new : List RegisterRow) (r : RegisterRow) (t : Elem) (all : new ≡ rows ++ r ∷ []) (is : row_of r ≡ record { name = Fresh (length rows); elem = t }) where
  pub fresh_added : map row_of new ≡ with_fresh t (map row_of rows)
  fresh_added =
      ap (map row_of) all ∙ map-append row_of rows (r ∷ []) ∙ ap (λ (z : Row). map row_of rows ++ z ∷ []) is
      ∙ ap (λ n. map row_of rows ++ (record { name = Fresh n; elem = t }) ∷ []) (sym (length-map rows row_of))

  pub fresh_number : AreNamedFrom 0 (map row_of rows) → number_in (map row_of new) (Fresh (length rows)) ≡ length rows
  fresh_number h =
      let n = length-map rows row_of in
      ap (λ zs. number_in zs (Fresh (length rows))) (ap (map row_of) all ∙ map-append row_of rows (r ∷ []) ∙ ap (λ (z : Row). map row_of rows ++ z ∷ []) is)
      ∙ fresh_last 0 (length rows) (map row_of rows) t h (omega (arith, n)) ∙ n

named_in : (n : ℕ) (rows : List RegisterRow) (at : ℕ) (r : RegisterRow) → slice_get rows at ≡ Some r → AreNamedFrom n (map row_of rows) → IsNamedAt (n + at) (name_of r.name)
named_in n [] at r e h = none_some (sym e)
named_in n (y ∷ ys) zero r e h =
    let k : n ≡ n + 0 = omega arith in
    subst (λ m. IsNamedAt m (name_of r.name)) k (subst (λ (z : RegisterRow). IsNamedAt n (name_of z.name)) (some_same e) h.0)
named_in n (y ∷ ys) (suc at) r e h =
    let k : suc n + at ≡ n + suc at = omega arith in
    subst (λ m. IsNamedAt m (name_of r.name)) k (named_in (suc n) ys at r e h.2)

-- the next row of those that are added one by one
pub named_next : (all rows : List RegisterRow) (at : ℕ) (d : RegisterRow) → all ≡ take at rows → at < length rows → AreNamedFrom 0 (map row_of rows) → IsNamedAt (length all) (name_of (get_or rows at d).name)
named_next all rows at d is lt h =
    let n : length all ≡ at = ap length is ∙ length-take-le at rows (omega (arith, lt)) in
    let k : 0 + at ≡ length all = omega (arith, n) in
    subst (λ m. IsNamedAt m (name_of (get_or rows at d).name)) k (named_in 0 rows at (get_or rows at d) (slice_get-get_or rows at d lt) h)

-- ---- spare registers have the types that their names say

own_name : (x y : Name) (t : Elem) → name_number x ≡ name_number y → HasOwnType x t → HasOwnType y t
own_name x (Variable v) t e h = tt
own_name x Result t e h = tt
own_name x (Fresh j) t e h = tt
own_name (Variable v) (Spare w j) t e h = absurd (omega (arith, e))
own_name Result (Spare w j) t e h = absurd (omega (arith, e))
own_name Place (Spare w j) t e h = absurd (omega (arith, e))
own_name (Fresh i) (Spare w j) t e h = absurd (omega (arith, e))
own_name (Spare u i) (Spare w j) t e h =
    let a = few_ranks u in
    let b = few_ranks w in
    h ∙ same_is u w (eq-eqb (rank u) (rank w) (omega (arith, e, a, b)))
own_name Place Place t e h = h
own_name (Variable v) Place t e h = absurd (omega (arith, e))
own_name Result Place t e h = absurd (omega (arith, e))
own_name (Spare u i) Place t e h = absurd (omega (arith, e))
own_name (Fresh i) Place t e h = absurd (omega (arith, e))
own_name (Kept u b) (Spare w j) t e h = absurd (omega (arith, e))
own_name (Kept u b) Place t e h = absurd (omega (arith, e))
own_name (Variable v) (Kept w c) t e h = absurd (omega (arith, e))
own_name Result (Kept w c) t e h = absurd (omega (arith, e))
own_name (Spare u i) (Kept w c) t e h = absurd (omega (arith, e))
own_name Place (Kept w c) t e h = absurd (omega (arith, e))
own_name (Fresh i) (Kept w c) t e h = absurd (omega (arith, e))
own_name (Kept u b) (Kept w c) t e h =
    let a = few_ranks u in
    let d = few_ranks w in
    h ∙ same_is u w (eq-eqb (rank u) (rank w) (omega (arith, e, a, d)))

pub own_in : (n : ℕ) (rows : List RegisterRow) (at : ℕ) (r : RegisterRow) → slice_get rows at ≡ Some r → AreNamedFrom n (map row_of rows) → HasOwnType (name_of r.name) r.elem
own_in n [] at r e h = none_some (sym e)
own_in n (y ∷ ys) zero r e h = subst (λ (z : RegisterRow). HasOwnType (name_of z.name) z.elem) (some_same e) h.1
own_in n (y ∷ ys) (suc at) r e h = own_in (suc n) ys at r e h.2

-- so it is where a row is found by the number of a name
pub own_found : (rows : List RegisterRow) (at : ℕ) (r : RegisterRow) (x : Name) → slice_get rows at ≡ Some r → name_number (name_of r.name) ≡ name_number x → AreNamedFrom 0 (map row_of rows) → HasOwnType x r.elem
own_found rows at r x e same h = own_name (name_of r.name) x r.elem same (own_in 0 rows at r e h)

pub own_next : (rows : List RegisterRow) (at : ℕ) (d : RegisterRow) → at < length rows → AreNamedFrom 0 (map row_of rows) → HasOwnType (name_of (get_or rows at d).name) (get_or rows at d).elem
own_next rows at d lt h = own_in 0 rows at (get_or rows at d) (slice_get-get_or rows at d lt) h

-- a name without a row has that of the row that is added
pub elem_added : (rows : List Row) (r : Row) → elem_in rows r.name ≡ None → elem_in (rows ++ r ∷ []) r.name ≡ Some r.elem
elem_added [] r e = ap (λ b. if b then Some r.elem else None) (eq-eqb (name_number r.name) (name_number r.name) refl)
elem_added (z ∷ rows) r e = go (name_number z.name == name_number r.name) (elem_added rows r) e
  where
    go : (b : Bool) → (elem_in rows r.name ≡ None → elem_in (rows ++ r ∷ []) r.name ≡ Some r.elem) → (if b then Some z.elem else elem_in rows r.name) ≡ None → (if b then Some z.elem else elem_in (rows ++ r ∷ []) r.name) ≡ Some r.elem
    go true ih h = none_some h
    go false ih h = ih h

pub elem_pushed : (rows new : List RegisterRow) (r : RegisterRow) → new ≡ rows ++ r ∷ [] → elem_in (map row_of rows) (name_of r.name) ≡ None → elem_in (map row_of new) (name_of r.name) ≡ Some r.elem
elem_pushed rows new r all e = ap (λ zs. elem_in zs (name_of r.name)) (ap (map row_of) all ∙ map-append row_of rows (r ∷ [])) ∙ elem_added (map row_of rows) (row_of r) e

-- one row is added
pub pushed_few : (rows new : List RegisterRow) (r : RegisterRow) → new ≡ rows ++ r ∷ [] → length (map row_of new) ≤ length (map row_of rows) + 1
pushed_few rows new r all =
    let more = ap length (ap (map row_of) all ∙ map-append row_of rows (r ∷ [])) ∙ length-append (map row_of rows) (row_of r ∷ []) in
    omega (arith, more)

-- a row of another name keeps no constant more
pub pushed_keeps : (rows new : List RegisterRow) (r : RegisterRow) → new ≡ rows ++ r ∷ [] → (t : Elem) (b : ℕ) → IsPlain (name_of r.name) → keeps (map row_of new) t b ≡ keeps (map row_of rows) t b
pushed_keeps rows new r all t b plain = ap (λ zs. keeps zs t b) (ap (map row_of) all ∙ map-append row_of rows (r ∷ [])) ∙ plain_keeps (map row_of rows) (row_of r) t b plain

-- the row of a constant keeps that one, and no other one more
pub pushed_kept : (rows new : List RegisterRow) (u : Elem) (c : ℕ) → new ≡ rows ++ record { name = one.Kept u c; elem = u } ∷ [] → elem_in (map row_of rows) (Kept u c) ≡ None → KeepsIn (map row_of rows) (map row_of new) u c
pushed_kept rows new u c all none =
    let r : RegisterRow = record { name = one.Kept u c; elem = u } in
    let more = ap (map row_of) all ∙ map-append row_of rows (r ∷ []) in
    record {
      rows = record { more = row_of r ∷ []; is = more };
      has = kept_of (map row_of new) u c (elem_pushed rows new r all none);
      only = λ t b h. kept_more (map row_of rows) u c t b (subst (λ zs. keeps zs t b ≡ true) more h);
      few = pushed_few rows new r all;
    }

-- and it is there already where it is found
pub found_kept : (rows : List RegisterRow) (u t : Elem) (c : ℕ) → elem_in (map row_of rows) (Kept u c) ≡ Some t → HasOwnType (Kept u c) t → KeepsIn (map row_of rows) (map row_of rows) u c
found_kept rows u t c e own = record {
  rows = record { more = []; is = sym (append-nil (map row_of rows)) };
  has = kept_of (map row_of rows) u c (e ∙ ap (λ z. Some z) own);
  only = λ v b h. inl h;
  few = omega arith;
}

-- what is found of a name that says its type has that type
pub own_is : (x : Name) (t u : Elem) → own_type x ≡ Some u → HasOwnType x t → t ≡ u
own_is (Spare w j) t u e h = h ∙ some_same e
own_is Place t u e h = h ∙ some_same e
own_is (Variable v) t u e h = none_some (sym e)
own_is Result t u e h = none_some (sym e)
own_is (Fresh j) t u e h = none_some (sym e)
own_is (Kept w b) t u e h = h ∙ some_same e

-- a constant is kept where its row is found
pub found_keeps : (rows : List Row) (t u : Elem) (b : ℕ) → elem_in rows (Kept t b) ≡ Some u → HasOwnType (Kept t b) u → keeps rows t b ≡ true
found_keeps rows t u b e own = ap (has_type t) e ∙ ap (same_elem u) (sym own) ∙ eq-eqb (rank u) (rank u) refl

pub none_keeps : (rows : List Row) (t : Elem) (b : ℕ) → elem_in rows (Kept t b) ≡ None → keeps rows t b ≡ false
none_keeps rows t b e = ap (has_type t) e
