-- What is passed comes to the places of the parameters, and to no others.
use Rattle.std.proofs.Common.{◌≡◌, ℕ, zero, suc, ◌+◌, ◌%◌, ◌^◌, ◌<◌, List, [], ◌∷◌, ◌++◌, length, map, Bool, true, false, ◌&&◌, ◌||◌, refl, sym, ap, ◌∙◌, subst, arith}
use Rattle.std.specs.Prelude.{slice_index, slice_index_or}
use Rattle.std.specs.List.{list_any}
use Rattle.std.proofs.lemmas.Nat.{pow_pos}
use Rattle.std.proofs.Math.Nat.{mod-lt}
use Rattle.isp_base.proofs.RankLaws.{same_is}
use Rattle.isp_base.specs.Arguments.{rows, row_bits}
use Rattle.isp_base.specs.Binding.{is_for, has_signature}
use Rattle.isp_base.specs.Values.{width}
use Rattle.isp_base.specs.declared.signature.Argument.{Argument}
use Rattle.isp_base.specs.declared.signature.Argument.TheVariants.{Value as AValue, Array as AnArray}
use Rattle.isp_base.specs.declared.types.Elem.{Elem}
use Rattle.isp_base.specs.declared.types.Elem.TheVariants.{Bool as Truth}
use Rattle.isp_code.specs.Entries.{is_array, parameter_of}
use Rattle.isp_code.specs.Machine.{values}
use Rattle.isp_code.specs.Registers.{class_of, same_class, param_elems, if_class}
use Rattle.isp_code.specs.declared.function.Param.{Param}
use Rattle.isp_code.specs.declared.function.ParamKind.{ParamKind}
use Rattle.isp_code.specs.declared.function.ParamKind.TheVariants as kind
use Rattle.isp_code.specs.declared.register.Class.TheVariants as class
use Rattle.isp_verify.specs.Faults.{is_vector}
use Rattle.isp_wasm.specs.Places.{Place, Counter, Scalar, Vector, Mask, Base, Count, Fresh, Spare, Depth, Top}
use Rattle.isp_wasm.specs.Locals.{name_of, position, params_from, passing}
use Rattle.isp_wasm.specs.Kernel.{passed, row_elem}
use Rattle.isp_wasm.proofs.Numbers.{here, further, name_apart}

pub no_number : (k : ℕ) → slice_index [] k ≡ 0
no_number zero = refl
no_number (suc k) = refl

pub both_first : (a b : Bool) → (a && b) ≡ true → a ≡ true
both_first true b e = refl
both_first false b e = e

pub both_second : (a b : Bool) → (a && b) ≡ true → b ≡ true
both_second true b e = e
both_second false b e = absurd cc

pub either_first : (a b : Bool) → (a || b) ≡ false → a ≡ false
either_first true b e = e
either_first false b e = refl

pub either_second : (a b : Bool) → (a || b) ≡ false → b ≡ false
either_second true b e = absurd cc
either_second false b e = e

-- neither a scalar nor of an array
abbrev pub IsOther : Place → Type 0
IsOther (Scalar r) = ⊥
IsOther (Base a) = ⊥
IsOther (Count a) = ⊥
IsOther p = Unit {0}

-- what the local of a place has, of those in a list
abbrev pub At : List Place → List ℕ → Place → ℕ
At qs ys p = slice_index ys (position (map name_of qs) (name_of p))

pub first_at : (q : Place) (qs : List Place) (y : ℕ) (ys : List ℕ) → At (q ∷ qs) (y ∷ ys) q ≡ y
first_at q qs y ys = ap (slice_index (y ∷ ys)) (here (name_of q) (map name_of qs))

pub other_at : (q p : Place) (qs : List Place) (y : ℕ) (ys : List ℕ) → (q ≡ p → ⊥) → At (q ∷ qs) (y ∷ ys) p ≡ At qs ys p
other_at q p qs y ys ne = ap (slice_index (y ∷ ys)) (further (name_of q) (name_of p) (map name_of qs) (λ e. ne (name_apart q p e)))

-- with so many scalars and arrays before
pub record Passes (qs : List Place) (xs : List Argument) (at : List ℕ) (r a : ℕ) : Type 0 where
  pub scalars : (k : ℕ) → At qs (passed xs at) (Scalar (r + k)) ≡ slice_index (values xs) k
  pub bases : (b : ℕ) → At qs (passed xs at) (Base (a + b)) ≡ slice_index at b
  pub counts : (b : ℕ) → At qs (passed xs at) (Count (a + b)) ≡ length (row_bits (rows xs) b)
  pub others : (p : Place) → IsOther p → At qs (passed xs at) p ≡ 0

module _ (qs : List Place) (xs : List Argument) (at : List ℕ) (r a : ℕ) where
  -- ---- a value

  module _ (z : ℕ) (h : Passes qs xs at (suc r) a) where
    value_scalars : (k : ℕ) → At (Scalar r ∷ qs) (z ∷ passed xs at) (Scalar (r + k)) ≡ slice_index (z ∷ values xs) k
    value_scalars zero = subst (λ n. At (Scalar r ∷ qs) (z ∷ passed xs at) (Scalar n) ≡ z) (let same : r ≡ r + 0 = omega arith in same) (first_at (Scalar r) qs z (passed xs at))
    value_scalars (suc k) =
        other_at (Scalar r) (Scalar (r + suc k)) qs z (passed xs at) (λ e. (let same : r ≡ r + suc k = cc in omega (arith, same)))
        ∙ ap (λ n. At qs (passed xs at) (Scalar n)) (let same : r + suc k ≡ suc r + k = omega arith in same) ∙ h.scalars k

    value_others : (p : Place) → IsOther p → At (Scalar r ∷ qs) (z ∷ passed xs at) p ≡ 0
    value_others (Scalar q) other = absurd other
    value_others (Base q) other = absurd other
    value_others (Count q) other = absurd other
    value_others Counter other = other_at (Scalar r) Counter qs z (passed xs at) (λ e. cc) ∙ h.others Counter tt
    value_others (Vector q j) other = other_at (Scalar r) (Vector q j) qs z (passed xs at) (λ e. cc) ∙ h.others (Vector q j) tt
    value_others (Mask q j) other = other_at (Scalar r) (Mask q j) qs z (passed xs at) (λ e. cc) ∙ h.others (Mask q j) tt
    value_others (Fresh j) other = other_at (Scalar r) (Fresh j) qs z (passed xs at) (λ e. cc) ∙ h.others (Fresh j) tt
    value_others (Spare t j) other = other_at (Scalar r) (Spare t j) qs z (passed xs at) (λ e. cc) ∙ h.others (Spare t j) tt
    value_others Depth other = other_at (Scalar r) Depth qs z (passed xs at) (λ e. cc) ∙ h.others Depth tt
    value_others Top other = other_at (Scalar r) Top qs z (passed xs at) (λ e. cc) ∙ h.others Top tt

  -- ---- an array

  module _ (b : ℕ) (bits : List ℕ) (h : Passes qs xs at r (suc a)) where
    both : List Place
    both = Base a ∷ Count a ∷ qs

    two : List ℕ
    two = b ∷ length bits ∷ passed xs at

    past_both : (p : Place) → (Base a ≡ p → ⊥) → (Count a ≡ p → ⊥) → At both two p ≡ At qs (passed xs at) p
    unfolding both two
    past_both p m n = other_at (Base a) p (Count a ∷ qs) b (length bits ∷ passed xs at) m ∙ other_at (Count a) p qs (length bits) (passed xs at) n

    array_scalars : (k : ℕ) → At both two (Scalar (r + k)) ≡ slice_index (values xs) k
    array_scalars k = past_both (Scalar (r + k)) (λ e. cc) (λ e. cc) ∙ h.scalars k

    array_bases : (k : ℕ) → At both two (Base (a + k)) ≡ slice_index (b ∷ at) k
    unfolding both two
    array_bases zero = subst (λ n. At both two (Base n) ≡ b) (let same : a ≡ a + 0 = omega arith in same) (first_at (Base a) (Count a ∷ qs) b (length bits ∷ passed xs at))
    array_bases (suc k) =
        past_both (Base (a + suc k)) (λ e. (let same : a ≡ a + suc k = cc in omega (arith, same))) (λ e. cc)
        ∙ ap (λ n. At qs (passed xs at) (Base n)) (let same : a + suc k ≡ suc a + k = omega arith in same) ∙ h.bases k

    array_counts : (t : Elem) (k : ℕ) → At both two (Count (a + k)) ≡ length (row_bits (record { elem = t; bits = bits } ∷ rows xs) k)
    unfolding both two
    array_counts t zero =
        subst (λ n. At both two (Count n) ≡ length bits) (let same : a ≡ a + 0 = omega arith in same)
        (other_at (Base a) (Count a) (Count a ∷ qs) b (length bits ∷ passed xs at) (λ e. cc) ∙ first_at (Count a) qs (length bits) (passed xs at))
    array_counts t (suc k) =
        past_both (Count (a + suc k)) (λ e. cc) (λ e. (let same : a ≡ a + suc k = cc in omega (arith, same)))
        ∙ ap (λ n. At qs (passed xs at) (Count n)) (let same : a + suc k ≡ suc a + k = omega arith in same) ∙ h.counts k

    array_others : (p : Place) → IsOther p → At both two p ≡ 0
    array_others (Scalar q) other = absurd other
    array_others (Base q) other = absurd other
    array_others (Count q) other = absurd other
    array_others Counter other = past_both Counter (λ e. cc) (λ e. cc) ∙ h.others Counter tt
    array_others (Vector q j) other = past_both (Vector q j) (λ e. cc) (λ e. cc) ∙ h.others (Vector q j) tt
    array_others (Mask q j) other = past_both (Mask q j) (λ e. cc) (λ e. cc) ∙ h.others (Mask q j) tt
    array_others (Fresh j) other = past_both (Fresh j) (λ e. cc) (λ e. cc) ∙ h.others (Fresh j) tt
    array_others (Spare t j) other = past_both (Spare t j) (λ e. cc) (λ e. cc) ∙ h.others (Spare t j) tt
    array_others Depth other = past_both Depth (λ e. cc) (λ e. cc) ∙ h.others Depth tt
    array_others Top other = past_both Top (λ e. cc) (λ e. cc) ∙ h.others Top tt

-- ---- all of them

one_more : (k : ParamKind) (name : List ℕ) (t : Elem) (x : Argument) (xs : List Argument) (at : List ℕ) (r a : ℕ) (own : List Place) (more : ℕ → ℕ → List Place)
    → same_class (class_of k) class.Vector ≡ false → is_for (record { name = name; elem = t; is_array = is_array k }) x ≡ true → length at ≡ length (rows (x ∷ xs))
    → ((at : List ℕ) (r a : ℕ) → length at ≡ length (rows xs) → Passes (more r a ++ own) xs at r a) → Passes (passing k more r a ++ own) (x ∷ xs) at r a
unfolding two both
one_more kind.Vector name t x xs at r a own more nv fits long all = absurd cc
one_more kind.Scalar name t (AnArray y) xs at r a own more nv fits long all = absurd cc
one_more kind.Array name t (AValue y) xs at r a own more nv fits long all = absurd cc
one_more kind.Array name t (AnArray y) xs [] r a own more nv fits long all = absurd (omega (arith, long))
one_more kind.Scalar name t (AValue y) xs at r a own more nv fits long all =
    let z = y.bits % 2 ^ width y.elem in
    let h = all at (suc r) a long in
    record {
      scalars = value_scalars (more (suc r) a ++ own) xs at r a z h;
      bases = λ b. other_at (Scalar r) (Base (a + b)) (more (suc r) a ++ own) z (passed xs at) (λ e. cc) ∙ h.bases b;
      counts = λ b. other_at (Scalar r) (Count (a + b)) (more (suc r) a ++ own) z (passed xs at) (λ e. cc) ∙ h.counts b;
      others = value_others (more (suc r) a ++ own) xs at r a z h;
    }
one_more kind.Array name t (AnArray y) xs (b ∷ at) r a own more nv fits long all =
    let h = all at r (suc a) (omega (arith, long)) in
    record {
      scalars = array_scalars (more r (suc a) ++ own) xs at r a b y.bits h;
      bases = array_bases (more r (suc a) ++ own) xs at r a b y.bits h;
      counts = array_counts (more r (suc a) ++ own) xs at r a b y.bits h y.elem;
      others = array_others (more r (suc a) ++ own) xs at r a b y.bits h;
    }

pub passes : (ps : List Param) (xs : List Argument) (at : List ℕ) (r a : ℕ) (own : List Place) → list_any is_vector ps ≡ false → has_signature (map parameter_of ps) xs ≡ true → length at ≡ length (rows xs)
    → Passes (params_from ps r a ++ own) xs at r a
passes [] (x ∷ xs) at r a own nv sig long = absurd cc
passes [] [] (b ∷ at) r a own nv sig long = absurd (omega (arith, long))
passes [] [] [] r a own nv sig long =
    record { scalars = λ k. no_number (position (map name_of own) (name_of (Scalar (r + k)))) ∙ sym (no_number k); bases = λ b. no_number (position (map name_of own) (name_of (Base (a + b)))) ∙ sym (no_number b); counts = λ b. no_number (position (map name_of own) (name_of (Count (a + b)))); others = λ p h. no_number (position (map name_of own) (name_of p)) }
passes (p ∷ ps) [] at r a own nv sig long = absurd cc
passes (p ∷ ps) (x ∷ xs) at r a own nv sig long =
    one_more p.kind p.name p.elem x xs at r a own (params_from ps) (either_first (is_vector p) (list_any is_vector ps) nv) (both_first (is_for (parameter_of p) x) (has_signature (map parameter_of ps) xs) sig) long
    (λ at r a long. passes ps xs at r a own (either_second (is_vector p) (list_any is_vector ps) nv) (both_second (is_for (parameter_of p) x) (has_signature (map parameter_of ps) xs) sig) long)

-- ---- types

-- how many arrays, and of which types
row_more : (k : ParamKind) (name : List ℕ) (t : Elem) (x : Argument) (xs : List Argument) (ts : List Elem)
    → same_class (class_of k) class.Vector ≡ false → is_for (record { name = name; elem = t; is_array = is_array k }) x ≡ true → length (rows xs) ≡ length ts
    → length (rows (x ∷ xs)) ≡ length (if_class (same_class (class_of k) class.Array) t ts)
row_more kind.Vector name t x xs ts nv fits e = absurd cc
row_more kind.Scalar name t (AnArray y) xs ts nv fits e = absurd cc
row_more kind.Array name t (AValue y) xs ts nv fits e = absurd cc
row_more kind.Scalar name t (AValue y) xs ts nv fits e = e
row_more kind.Array name t (AnArray y) xs ts nv fits e = ap suc e

pub rows_long : (ps : List Param) (xs : List Argument) → list_any is_vector ps ≡ false → has_signature (map parameter_of ps) xs ≡ true → length (rows xs) ≡ length (param_elems class.Array ps)
rows_long [] [] nv sig = refl
rows_long [] (x ∷ xs) nv sig = absurd cc
rows_long (p ∷ ps) [] nv sig = absurd cc
rows_long (p ∷ ps) (x ∷ xs) nv sig =
    row_more p.kind p.name p.elem x xs (param_elems class.Array ps) (either_first (is_vector p) (list_any is_vector ps) nv) (both_first (is_for (parameter_of p) x) (has_signature (map parameter_of ps) xs) sig)
    (rows_long ps xs (either_second (is_vector p) (list_any is_vector ps) nv) (both_second (is_for (parameter_of p) x) (has_signature (map parameter_of ps) xs) sig))

elem_more : (k : ParamKind) (name : List ℕ) (t : Elem) (x : Argument) (xs : List Argument) (ts : List Elem)
    → same_class (class_of k) class.Vector ≡ false → is_for (record { name = name; elem = t; is_array = is_array k }) x ≡ true
    → ((b : ℕ) → row_elem (rows xs) b ≡ slice_index_or ts b Truth) → (b : ℕ) → row_elem (rows (x ∷ xs)) b ≡ slice_index_or (if_class (same_class (class_of k) class.Array) t ts) b Truth
elem_more kind.Vector name t x xs ts nv fits all b = absurd cc
elem_more kind.Scalar name t (AnArray y) xs ts nv fits all b = absurd cc
elem_more kind.Array name t (AValue y) xs ts nv fits all b = absurd cc
elem_more kind.Scalar name t (AValue y) xs ts nv fits all b = all b
elem_more kind.Array name t (AnArray y) xs ts nv fits all zero = same_is y.elem t fits
elem_more kind.Array name t (AnArray y) xs ts nv fits all (suc b) = all b

no_elem : (b : ℕ) → Truth ≡ slice_index_or [] b Truth
no_elem zero = refl
no_elem (suc b) = refl

pub rows_typed : (ps : List Param) (xs : List Argument) → list_any is_vector ps ≡ false → has_signature (map parameter_of ps) xs ≡ true → (b : ℕ) → row_elem (rows xs) b ≡ slice_index_or (param_elems class.Array ps) b Truth
rows_typed [] [] nv sig b = no_elem b
rows_typed [] (x ∷ xs) nv sig b = absurd cc
rows_typed (p ∷ ps) [] nv sig b = absurd cc
rows_typed (p ∷ ps) (x ∷ xs) nv sig b =
    elem_more p.kind p.name p.elem x xs (param_elems class.Array ps) (either_first (is_vector p) (list_any is_vector ps) nv) (both_first (is_for (parameter_of p) x) (has_signature (map parameter_of ps) xs) sig)
    (rows_typed ps xs (either_second (is_vector p) (list_any is_vector ps) nv) (both_second (is_for (parameter_of p) x) (has_signature (map parameter_of ps) xs) sig)) b

value_more : (k : ParamKind) (name : List ℕ) (t : Elem) (x : Argument) (xs : List Argument) (ts : List Elem)
    → same_class (class_of k) class.Vector ≡ false → is_for (record { name = name; elem = t; is_array = is_array k }) x ≡ true
    → ((r : ℕ) → slice_index (values xs) r < 2 ^ width (slice_index_or ts r Truth))
    → (r : ℕ) → slice_index (values (x ∷ xs)) r < 2 ^ width (slice_index_or (if_class (same_class (class_of k) class.Scalar) t ts) r Truth)
value_more kind.Vector name t x xs ts nv fits all r = absurd cc
value_more kind.Scalar name t (AnArray y) xs ts nv fits all r = absurd cc
value_more kind.Array name t (AValue y) xs ts nv fits all r = absurd cc
value_more kind.Array name t (AnArray y) xs ts nv fits all r = all r
value_more kind.Scalar name t (AValue y) xs ts nv fits all zero = subst (λ u. y.bits % 2 ^ width y.elem < 2 ^ width u) (same_is y.elem t fits) (mod-lt y.bits (pow_pos (width y.elem)))
value_more kind.Scalar name t (AValue y) xs ts nv fits all (suc r) = all r

appended : (b : Bool) (t : Elem) (ts us : List Elem) → if_class b t (ts ++ us) ≡ (if_class b t ts ++ us)
appended true t ts us = refl
appended false t ts us = refl

pub values_fit : (ps : List Param) (more : List Elem) (xs : List Argument) → list_any is_vector ps ≡ false → has_signature (map parameter_of ps) xs ≡ true
    → (r : ℕ) → slice_index (values xs) r < 2 ^ width (slice_index_or (param_elems class.Scalar ps ++ more) r Truth)
values_fit [] more [] nv sig r = subst (λ n. n < 2 ^ width (slice_index_or more r Truth)) (sym (no_number r)) (pow_pos (width (slice_index_or more r Truth)))
values_fit [] more (x ∷ xs) nv sig r = absurd cc
values_fit (p ∷ ps) more [] nv sig r = absurd cc
values_fit (p ∷ ps) more (x ∷ xs) nv sig r =
    subst (λ ts. slice_index (values (x ∷ xs)) r < 2 ^ width (slice_index_or ts r Truth)) (appended (same_class (class_of p.kind) class.Scalar) p.elem (param_elems class.Scalar ps) more)
    (value_more p.kind p.name p.elem x xs (param_elems class.Scalar ps ++ more) (either_first (is_vector p) (list_any is_vector ps) nv) (both_first (is_for (parameter_of p) x) (has_signature (map parameter_of ps) xs) sig)
    (values_fit ps more xs (either_second (is_vector p) (list_any is_vector ps) nv) (both_second (is_for (parameter_of p) x) (has_signature (map parameter_of ps) xs) sig)) r)
