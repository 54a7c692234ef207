-- What a call passes comes to the places of the function that is called, and nothing else is there.
use Rattle.std.proofs.Common.{◌≡◌, ℕ, zero, suc, ◌+◌, ◌<◌, ◌≤◌, ◌⊎◌, inl, inr, List, [], ◌∷◌, ◌++◌, length, map, Some, Bool, true, false, refl, sym, ap, ◌∙◌, subst, append_assoc, arith}
use Rattle.std.specs.Prelude.{slice_get, slice_index_or, nat_lt, if◌then◌else◌}
use Rattle.std.proofs.lemmas.Bool.{cases_lt, lt-ltb, le-ltb}
use Rattle.isp_base.specs.declared.types.Elem.{Elem}
use Rattle.isp_base.specs.declared.types.Elem.TheVariants.{Bool as Truth}
use Rattle.isp_code.specs.Calls.{from, numbers, if_number}
use Rattle.isp_code.specs.Fine.{ArePassed, IsPassed}
use Rattle.isp_code.specs.Listing.{Routine}
use Rattle.isp_code.specs.Registers.{class_of, same_class, if_class, param_elems, elem_of, count_of, is_per_lane}
use Rattle.isp_code.specs.declared.function.Param.{Param}
use Rattle.isp_code.specs.declared.function.ParamKind.{ParamKind}
use Rattle.isp_code.specs.declared.function.ParamKind.TheVariants as kind
use Rattle.isp_code.specs.declared.register.Class.{Class}
use Rattle.isp_code.specs.declared.register.Class.TheVariants as class
use Rattle.isp_code.specs.declared.register.Register.{Register}
use Rattle.isp_wasm_meaning.specs.Syntax.{Expr}
use Rattle.isp_wasm_meaning.specs.Meaning.{value}
use Rattle.isp_wasm.specs.Places.{Setting, Place, Counter, Scalar, Vector, Mask, Base, Count, Fresh, Spare, Depth, Top, gang, parts, elem, shape}
use Rattle.isp_wasm.specs.Lanes.{array_register}
use Rattle.isp_wasm.specs.Locals.{row, taking, taken_from}
use Rattle.isp_wasm.specs.Standing.{vector_register}
use Rattle.isp_wasm.specs.Templates.{listed, part_under, passed_of, passed_all}
use Rattle.isp_wasm.proofs.Passing.{At, first_at, other_at}

-- ---- rows

module _ (w : Setting) (l : ℕ → ℕ) (qs : List Place) (es : List Expr) where
  abbrev pub values_of : List Expr → List ℕ
  values_of xs = map (value l) xs

  -- in a row, and past it
  pub in_row : (n : ℕ) (place : ℕ → Place) (e : ℕ → Expr) (j : ℕ) → ((i k : ℕ) → place i ≡ place k → i ≡ k) → j < n → At (row n place ++ qs) (values_of (listed w n e ++ es)) (place j) ≡ value l (e j)
  in_row zero place e j one h = absurd (omega (arith, h))
  in_row (suc n) place e zero one h = first_at (place 0) (row n (λ j. place (suc j)) ++ qs) (value l (e 0)) (values_of (listed w n (λ j. e (suc j)) ++ es))
  in_row (suc n) place e (suc j) one h =
      other_at (place 0) (place (suc j)) (row n (λ j. place (suc j)) ++ qs) (value l (e 0)) (values_of (listed w n (λ j. e (suc j)) ++ es)) (λ q. (let same = one 0 (suc j) q in omega (arith, same)))
      ∙ in_row n (λ j. place (suc j)) (λ j. e (suc j)) j (λ i k q. (let same = one (suc i) (suc k) q in omega (arith, same))) (omega (arith, h))

  pub past_row : (n : ℕ) (place : ℕ → Place) (e : ℕ → Expr) (p : Place) → ((j : ℕ) → j < n → place j ≡ p → ⊥) → At (row n place ++ qs) (values_of (listed w n e ++ es)) p ≡ At qs (values_of es) p
  past_row zero place e p out = refl
  past_row (suc n) place e p out =
      other_at (place 0) p (row n (λ j. place (suc j)) ++ qs) (value l (e 0)) (values_of (listed w n (λ j. e (suc j)) ++ es)) (out 0 (omega arith))
      ∙ past_row n (λ j. place (suc j)) (λ j. e (suc j)) p (λ j lt. out (suc j) (omega (arith, lt)))

-- neither a register that is passed nor of an array
abbrev pub IsRest : Place → Type 0
IsRest (Scalar r) = ⊥
IsRest (Vector r j) = ⊥
IsRest (Base a) = ⊥
IsRest (Count a) = ⊥
IsRest p = Unit {0}

-- ---- what is passed of the caller's registers

module _ (w : Setting) (l : ℕ → ℕ) (k : Register) where
  abbrev pub scalar_got : ℕ → ℕ
  scalar_got r = l (w.local (Scalar r))

  abbrev pub base_got : ℕ → ℕ
  base_got a = l (w.local (Base a))

  abbrev pub count_got : ℕ → ℕ
  count_got a = l (w.local (Count a))

  abbrev pub part_got : ℕ → ℕ → ℕ
  part_got j r = if nat_lt j (parts w (shape w (vector_register r))) then value l (part_under w k (vector_register r) j) else 0

  -- after so many scalars, vectors and arrays
  pub record Gives (qs : List Place) (ys : List ℕ) (xs : List Register) (r v a : ℕ) : Type 0 where
    pub scalars : (i : ℕ) → At qs ys (Scalar (r + i)) ≡ from 0 scalar_got (slice_get (numbers class.Scalar xs) i)
    pub vectors : (i j : ℕ) → At qs ys (Vector (v + i) j) ≡ from 0 (part_got j) (slice_get (numbers class.Vector xs) i)
    pub bases : (i : ℕ) → At qs ys (Base (a + i)) ≡ from 0 base_got (slice_get (numbers class.Array xs) i)
    pub counts : (i : ℕ) → At qs ys (Count (a + i)) ≡ from 0 count_got (slice_get (numbers class.Array xs) i)
    pub before : (u j : ℕ) → u < v → At qs ys (Vector u j) ≡ 0
    pub others : (p : Place) → IsRest p → At qs ys p ≡ 0

  module _ (qs : List Place) (es : List Expr) (xs : List Register) (r v a n : ℕ) where
    -- ---- a scalar

    scalar_more : Gives qs (map (value l) es) xs (suc r) v a → Gives (Scalar r ∷ qs) (l (w.local (Scalar n)) ∷ map (value l) es) (record { class = class.Scalar; number = n } ∷ xs) r v a
    scalar_more h =
        record {
          scalars = first;
          vectors = λ i j. other_at (Scalar r) (Vector (v + i) j) qs x (map (value l) es) (λ e. cc) ∙ h.vectors i j;
          bases = λ i. other_at (Scalar r) (Base (a + i)) qs x (map (value l) es) (λ e. cc) ∙ h.bases i;
          counts = λ i. other_at (Scalar r) (Count (a + i)) qs x (map (value l) es) (λ e. cc) ∙ h.counts i;
          before = λ u j lt. other_at (Scalar r) (Vector u j) qs x (map (value l) es) (λ e. cc) ∙ h.before u j lt;
          others = rest;
        }
      where
        x : ℕ
        x = l (w.local (Scalar n))

        first : (i : ℕ) → At (Scalar r ∷ qs) (l (w.local (Scalar n)) ∷ map (value l) es) (Scalar (r + i)) ≡ from 0 scalar_got (slice_get (n ∷ numbers class.Scalar xs) i)
        first zero = subst (λ m. At (Scalar r ∷ qs) (l (w.local (Scalar n)) ∷ map (value l) es) (Scalar m) ≡ l (w.local (Scalar n))) (let same : r ≡ r + 0 = omega arith in same) (first_at (Scalar r) qs (l (w.local (Scalar n))) (map (value l) es))
        first (suc i) =
            other_at (Scalar r) (Scalar (r + suc i)) qs (l (w.local (Scalar n))) (map (value l) es) (λ e. (let same : r ≡ r + suc i = cc in omega (arith, same)))
            ∙ ap (λ m. At qs (map (value l) es) (Scalar m)) (let same : r + suc i ≡ suc r + i = omega arith in same) ∙ h.scalars i

        rest : (p : Place) → IsRest p → At (Scalar r ∷ qs) (l (w.local (Scalar n)) ∷ map (value l) es) p ≡ 0
        rest (Scalar q) is = absurd is
        rest (Vector q j) is = absurd is
        rest (Base q) is = absurd is
        rest (Count q) is = absurd is
        rest Counter is = other_at (Scalar r) Counter qs (l (w.local (Scalar n))) (map (value l) es) (λ e. cc) ∙ h.others Counter tt
        rest (Mask q j) is = other_at (Scalar r) (Mask q j) qs (l (w.local (Scalar n))) (map (value l) es) (λ e. cc) ∙ h.others (Mask q j) tt
        rest (Fresh j) is = other_at (Scalar r) (Fresh j) qs (l (w.local (Scalar n))) (map (value l) es) (λ e. cc) ∙ h.others (Fresh j) tt
        rest (Spare t j) is = other_at (Scalar r) (Spare t j) qs (l (w.local (Scalar n))) (map (value l) es) (λ e. cc) ∙ h.others (Spare t j) tt
        rest Depth is = other_at (Scalar r) Depth qs (l (w.local (Scalar n))) (map (value l) es) (λ e. cc) ∙ h.others Depth tt
        rest Top is = other_at (Scalar r) Top qs (l (w.local (Scalar n))) (map (value l) es) (λ e. cc) ∙ h.others Top tt

    -- ---- an array

    past_both : (p : Place) → (Base a ≡ p → ⊥) → (Count a ≡ p → ⊥) → At (Base a ∷ Count a ∷ qs) (base_got n ∷ count_got n ∷ map (value l) es) p ≡ At qs (map (value l) es) p
    past_both p x y = other_at (Base a) p (Count a ∷ qs) (base_got n) (count_got n ∷ map (value l) es) x ∙ other_at (Count a) p qs (count_got n) (map (value l) es) y

    array_more : Gives qs (map (value l) es) xs r v (suc a) → Gives (Base a ∷ Count a ∷ qs) (base_got n ∷ count_got n ∷ map (value l) es) (record { class = class.Array; number = n } ∷ xs) r v a
    array_more h =
        record {
          scalars = λ i. past_both (Scalar (r + i)) (λ e. cc) (λ e. cc) ∙ h.scalars i;
          vectors = λ i j. past_both (Vector (v + i) j) (λ e. cc) (λ e. cc) ∙ h.vectors i j;
          bases = bases;
          counts = counts;
          before = λ u j lt. past_both (Vector u j) (λ e. cc) (λ e. cc) ∙ h.before u j lt;
          others = rest;
        }
      where
        bases : (i : ℕ) → At (Base a ∷ Count a ∷ qs) (base_got n ∷ count_got n ∷ map (value l) es) (Base (a + i)) ≡ from 0 base_got (slice_get (n ∷ numbers class.Array xs) i)
        bases zero = subst (λ m. At (Base a ∷ Count a ∷ qs) (base_got n ∷ count_got n ∷ map (value l) es) (Base m) ≡ base_got n) (let same : a ≡ a + 0 = omega arith in same) (first_at (Base a) (Count a ∷ qs) (base_got n) (count_got n ∷ map (value l) es))
        bases (suc i) =
            past_both (Base (a + suc i)) (λ e. (let same : a ≡ a + suc i = cc in omega (arith, same))) (λ e. cc)
            ∙ ap (λ m. At qs (map (value l) es) (Base m)) (let same : a + suc i ≡ suc a + i = omega arith in same) ∙ h.bases i

        counts : (i : ℕ) → At (Base a ∷ Count a ∷ qs) (base_got n ∷ count_got n ∷ map (value l) es) (Count (a + i)) ≡ from 0 count_got (slice_get (n ∷ numbers class.Array xs) i)
        counts zero =
            subst (λ m. At (Base a ∷ Count a ∷ qs) (base_got n ∷ count_got n ∷ map (value l) es) (Count m) ≡ count_got n) (let same : a ≡ a + 0 = omega arith in same)
            (other_at (Base a) (Count a) (Count a ∷ qs) (base_got n) (count_got n ∷ map (value l) es) (λ e. cc) ∙ first_at (Count a) qs (count_got n) (map (value l) es))
        counts (suc i) =
            past_both (Count (a + suc i)) (λ e. cc) (λ e. (let same : a ≡ a + suc i = cc in omega (arith, same)))
            ∙ ap (λ m. At qs (map (value l) es) (Count m)) (let same : a + suc i ≡ suc a + i = omega arith in same) ∙ h.counts i

        rest : (p : Place) → IsRest p → At (Base a ∷ Count a ∷ qs) (base_got n ∷ count_got n ∷ map (value l) es) p ≡ 0
        rest (Scalar q) is = absurd is
        rest (Vector q j) is = absurd is
        rest (Base q) is = absurd is
        rest (Count q) is = absurd is
        rest Counter is = past_both Counter (λ e. cc) (λ e. cc) ∙ h.others Counter tt
        rest (Mask q j) is = past_both (Mask q j) (λ e. cc) (λ e. cc) ∙ h.others (Mask q j) tt
        rest (Fresh j) is = past_both (Fresh j) (λ e. cc) (λ e. cc) ∙ h.others (Fresh j) tt
        rest (Spare t j) is = past_both (Spare t j) (λ e. cc) (λ e. cc) ∙ h.others (Spare t j) tt
        rest Depth is = past_both Depth (λ e. cc) (λ e. cc) ∙ h.others Depth tt
        rest Top is = past_both Top (λ e. cc) (λ e. cc) ∙ h.others Top tt

    -- ---- a vector

    abbrev pub m : ℕ
    m = parts w (shape w (vector_register n))

    abbrev pub part : ℕ → Expr
    part j = part_under w k (vector_register n) j

    past_parts : (p : Place) → ((j : ℕ) → j < m → Vector v j ≡ p → ⊥) → At (row m (Vector v) ++ qs) (map (value l) (listed w m part ++ es)) p ≡ At qs (map (value l) es) p
    past_parts p out = past_row w l qs es m (Vector v) part p out

    vector_more : Gives qs (map (value l) es) xs r (suc v) a → Gives (row m (Vector v) ++ qs) (map (value l) (listed w m part ++ es)) (vector_register n ∷ xs) r v a
    vector_more h =
        record {
          scalars = λ i. past_parts (Scalar (r + i)) (λ j lt e. cc) ∙ h.scalars i;
          vectors = vectors;
          bases = λ i. past_parts (Base (a + i)) (λ j lt e. cc) ∙ h.bases i;
          counts = λ i. past_parts (Count (a + i)) (λ j lt e. cc) ∙ h.counts i;
          before = λ u j lt. past_parts (Vector u j) (λ i low e. (let same : v ≡ u = cc in omega (arith, same, lt))) ∙ h.before u j (omega (arith, lt));
          others = rest;
        }
      where
        mine : (j : ℕ) → (j < m) ⊎ (m ≤ j) → At (row m (Vector v) ++ qs) (map (value l) (listed w m part ++ es)) (Vector v j) ≡ part_got j n
        mine j (inl lt) =
            in_row w l qs es m (Vector v) part j (λ i k e. cc) lt ∙ sym (ap (λ b. if b then value l (part j) else 0) (lt-ltb j m lt))
        mine j (inr le) =
            past_parts (Vector v j) (λ i low e. (let same : i ≡ j = cc in omega (arith, same, le, low))) ∙ h.before v j (omega arith)
            ∙ sym (ap (λ b. if b then value l (part j) else 0) (le-ltb j m le))

        vectors : (i j : ℕ) → At (row m (Vector v) ++ qs) (map (value l) (listed w m part ++ es)) (Vector (v + i) j) ≡ from 0 (part_got j) (slice_get (n ∷ numbers class.Vector xs) i)
        vectors zero j = subst (λ u. At (row m (Vector v) ++ qs) (map (value l) (listed w m part ++ es)) (Vector u j) ≡ part_got j n) (let same : v ≡ v + 0 = omega arith in same) (mine j (cases_lt j m))
        vectors (suc i) j =
            past_parts (Vector (v + suc i) j) (λ q low e. (let same : v ≡ v + suc i = cc in omega (arith, same)))
            ∙ ap (λ u. At qs (map (value l) es) (Vector u j)) (let same : v + suc i ≡ suc v + i = omega arith in same) ∙ h.vectors i j

        rest : (p : Place) → IsRest p → At (row m (Vector v) ++ qs) (map (value l) (listed w m part ++ es)) p ≡ 0
        rest (Scalar q) is = absurd is
        rest (Vector q j) is = absurd is
        rest (Base q) is = absurd is
        rest (Count q) is = absurd is
        rest Counter is = past_parts Counter (λ j lt e. cc) ∙ h.others Counter tt
        rest (Mask q i) is = past_parts (Mask q i) (λ j lt e. cc) ∙ h.others (Mask q i) tt
        rest (Fresh i) is = past_parts (Fresh i) (λ j lt e. cc) ∙ h.others (Fresh i) tt
        rest (Spare t i) is = past_parts (Spare t i) (λ j lt e. cc) ∙ h.others (Spare t i) tt
        rest Depth is = past_parts Depth (λ j lt e. cc) ∙ h.others Depth tt
        rest Top is = past_parts Top (λ j lt e. cc) ∙ h.others Top tt

  -- ---- all of them

  one_more : (p : ParamKind) (c : Class) (n : ℕ) (own : List Place) (more : ℕ → ℕ → ℕ → List Place) (xs : List Register) (r v a : ℕ) → c ≡ class_of p
      → ((r v a : ℕ) → Gives (more r v a ++ own) (map (value l) (passed_all w k xs)) xs r v a)
      → Gives (taking (gang w) p (elem w (record { class = c; number = n })) more r v a ++ own) (map (value l) (passed_of w k c (record { class = c; number = n }) ++ passed_all w k xs)) (record { class = c; number = n } ∷ xs) r v a
  one_more kind.Scalar class.Scalar n own more xs r v a e all = scalar_more (more (suc r) v a ++ own) (passed_all w k xs) xs r v a n (all (suc r) v a)
  one_more kind.Array class.Array n own more xs r v a e all = array_more (more r v (suc a) ++ own) (passed_all w k xs) xs r v a n (all r v (suc a))
  one_more kind.Vector class.Vector n own more xs r v a e all =
      subst (λ qs. Gives qs (map (value l) (listed w (m (more r (suc v) a ++ own) (passed_all w k xs) xs r v a n) (part (more r (suc v) a ++ own) (passed_all w k xs) xs r v a n) ++ passed_all w k xs)) (vector_register n ∷ xs) r v a)
      (sym (append_assoc (row (parts w (shape w (vector_register n))) (Vector v)) (more r (suc v) a) own))
      (vector_more (more r (suc v) a ++ own) (passed_all w k xs) xs r v a n (all r (suc v) a))
  one_more kind.Scalar class.Vector n own more xs r v a e all = absurd cc
  one_more kind.Scalar class.Array n own more xs r v a e all = absurd cc
  one_more kind.Scalar class.Mask n own more xs r v a e all = absurd cc
  one_more kind.Array class.Scalar n own more xs r v a e all = absurd cc
  one_more kind.Array class.Vector n own more xs r v a e all = absurd cc
  one_more kind.Array class.Mask n own more xs r v a e all = absurd cc
  one_more kind.Vector class.Scalar n own more xs r v a e all = absurd cc
  one_more kind.Vector class.Array n own more xs r v a e all = absurd cc
  one_more kind.Vector class.Mask n own more xs r v a e all = absurd cc

  pub gives : (ps : List Param) (xs : List Register) → ArePassed w.routine ps xs → (own : List Place) → ((p : Place) → At own [] p ≡ 0) → (r v a : ℕ)
      → Gives (taken_from (gang w) ps r v a ++ own) (map (value l) (passed_all w k xs)) xs r v a
  gives [] [] are own none r v a =
      record {
        scalars = λ i. none (Scalar (r + i)) ∙ sym (nothing scalar_got i);
        vectors = λ i j. none (Vector (v + i) j) ∙ sym (nothing (part_got j) i);
        bases = λ i. none (Base (a + i)) ∙ sym (nothing base_got i);
        counts = λ i. none (Count (a + i)) ∙ sym (nothing count_got i);
        before = λ u j lt. none (Vector u j);
        others = λ p is. none p;
      }
    where
      nothing : (get : ℕ → ℕ) (i : ℕ) → from 0 get (slice_get [] i) ≡ 0
      nothing get zero = refl
      nothing get (suc i) = refl
  gives [] (x ∷ xs) are own none r v a = absurd are
  gives (p ∷ ps) [] are own none r v a = absurd are
  gives (p ∷ ps) (x ∷ xs) are own none r v a =
      subst (λ t. Gives (taking (gang w) p.kind t (taken_from (gang w) ps) r v a ++ own) (map (value l) (passed_all w k (x ∷ xs))) (x ∷ xs) r v a) (are.0).1
      (one_more p.kind x.class x.number own (taken_from (gang w) ps) xs r v a ((are.0).0).0 (λ r v a. gives ps xs are.1 own none r v a))

-- ---- what the verifier says of them

same_class_is : (a b : Class) → same_class a b ≡ true → a ≡ b
same_class_is class.Scalar class.Scalar e = refl
same_class_is class.Vector class.Vector e = refl
same_class_is class.Mask class.Mask e = refl
same_class_is class.Array class.Array e = refl
same_class_is class.Scalar class.Vector e = absurd cc
same_class_is class.Scalar class.Mask e = absurd cc
same_class_is class.Scalar class.Array e = absurd cc
same_class_is class.Vector class.Scalar e = absurd cc
same_class_is class.Vector class.Mask e = absurd cc
same_class_is class.Vector class.Array e = absurd cc
same_class_is class.Mask class.Scalar e = absurd cc
same_class_is class.Mask class.Vector e = absurd cc
same_class_is class.Mask class.Array e = absurd cc
same_class_is class.Array class.Scalar e = absurd cc
same_class_is class.Array class.Vector e = absurd cc
same_class_is class.Array class.Mask e = absurd cc

module _ (h : Routine) (c : Class) where
  -- a register that is passed for a parameter of the class is there, and of its type
  pub record Fits (r : ℕ) (t : Elem) : Type 0 where
    pub there : r < count_of h c
    pub elem_is : elem_of h (record { class = c; number = r }) ≡ t

  fits_once : (b : Bool) (x : Register) (t : Elem) (ts : List Elem) (xs : List Register) (i r : ℕ) → (b ≡ true → x.class ≡ c) → x.number < count_of h x.class → elem_of h x ≡ t
      → ((i : ℕ) → slice_get (numbers c xs) i ≡ Some r → Fits r (slice_index_or ts i Truth))
      → slice_get (if_number b x.number (numbers c xs)) i ≡ Some r → Fits r (slice_index_or (if_class b t ts) i Truth)
  fits_once false x t ts xs i r is low e more has = more i has
  fits_once true x t ts xs zero r is low e more has =
      let number_is : x.number ≡ r = cc in
      subst (λ n. Fits n t) number_is
      (record { there = subst (λ a. x.number < count_of h a) (is refl) low; elem_is = ap (λ a. elem_of h (record { class = a; number = x.number })) (sym (is refl)) ∙ e })
  fits_once true x t ts xs (suc i) r is low e more has = more i has

  pub passed_fits : (ps : List Param) (xs : List Register) → ArePassed h ps xs → (i r : ℕ) → slice_get (numbers c xs) i ≡ Some r → Fits r (slice_index_or (param_elems c ps) i Truth)
  passed_fits [] [] are i r has = absurd (nothing i has)
    where
      nothing : (i : ℕ) → slice_get [] i ≡ Some r → ⊥
      nothing zero e = cc
      nothing (suc i) e = cc
  passed_fits [] (x ∷ xs) are i r has = absurd are
  passed_fits (p ∷ ps) [] are i r has = absurd are
  passed_fits (p ∷ ps) (x ∷ xs) are i r has =
      let same = ((are.0).0).0 in
      fits_once (same_class (class_of p.kind) c) x p.elem (param_elems c ps) xs i r (λ e. same ∙ same_class_is (class_of p.kind) c e) (subst (λ a. x.number < count_of h a) (sym same) ((are.0).0).1) (are.0).1
      (λ i has. passed_fits ps xs are.1 i r has) (subst (λ a. slice_get (if_number (same_class a c) x.number (numbers c xs)) i ≡ Some r) same has)

  kind_shared : (k : ParamKind) (x : Register) → class_of k ≡ class.Array → IsPassed h k x → is_per_lane h x ≡ false
  kind_shared kind.Scalar x e is = absurd cc
  kind_shared kind.Vector x e is = absurd cc
  kind_shared kind.Array x e is = is

  shared_once : (b : Bool) (x : Register) (xs : List Register) (i r : ℕ) → (b ≡ true → is_per_lane h x ≡ false) → (slice_get (numbers class.Array xs) i ≡ Some r → is_per_lane h (array_register r) ≡ false)
      → ((j : ℕ) → slice_get (numbers class.Array xs) j ≡ Some r → is_per_lane h (array_register r) ≡ false) → slice_get (if_number b x.number (numbers class.Array xs)) i ≡ Some r → is_per_lane h (array_register r) ≡ false
  shared_once false x xs i r is now more has = now has
  shared_once true x xs zero r is now more has = let number_is : x.number ≡ r = cc in subst (λ n. is_per_lane h (array_register n) ≡ false) number_is (is refl)
  shared_once true x xs (suc i) r is now more has = more i has

  -- an array that is passed is one that all lanes share
  pub passed_shared : (ps : List Param) (xs : List Register) → ArePassed h ps xs → (i r : ℕ) → slice_get (numbers class.Array xs) i ≡ Some r → is_per_lane h (array_register r) ≡ false
  passed_shared [] [] are i r has = absurd (nothing i has)
    where
      nothing : (i : ℕ) → slice_get [] i ≡ Some r → ⊥
      nothing zero e = cc
      nothing (suc i) e = cc
  passed_shared [] (x ∷ xs) are i r has = absurd are
  passed_shared (p ∷ ps) [] are i r has = absurd are
  passed_shared (p ∷ ps) (x ∷ xs) are i r has =
      shared_once (same_class x.class class.Array) x xs i r (λ e. kind_shared p.kind x (sym ((are.0).0).0 ∙ same_class_is x.class class.Array e) (are.0).2) (λ has. passed_shared ps xs are.1 i r has)
      (λ j has. passed_shared ps xs are.1 j r has) has

  long_once : (b : Bool) (n : ℕ) (t : Elem) (rs : List ℕ) (ts : List Elem) → length rs ≡ length ts → length (if_number b n rs) ≡ length (if_class b t ts)
  long_once true n t rs ts e = ap suc e
  long_once false n t rs ts e = e

  pub passed_long : (ps : List Param) (xs : List Register) → ArePassed h ps xs → length (numbers c xs) ≡ length (param_elems c ps)
  passed_long [] [] are = refl
  passed_long [] (x ∷ xs) are = absurd are
  passed_long (p ∷ ps) [] are = absurd are
  passed_long (p ∷ ps) (x ∷ xs) are =
      ap (λ a. length (if_number (same_class a c) x.number (numbers c xs))) ((are.0).0).0 ∙ long_once (same_class (class_of p.kind) c) x.number p.elem (numbers c xs) (param_elems c ps) (passed_long ps xs are.1)
