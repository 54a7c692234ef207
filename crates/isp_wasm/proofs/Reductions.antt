-- The templates of reductions.
use Rattle.std.proofs.Common.{◌≡◌, ℕ, zero, suc, ◌+◌, ◌-◌, ◌*◌, ◌/◌, ◌%◌, ◌^◌, ◌<◌, ◌≤◌, ◌⊎◌, inl, inr, List, Option, Some, None, Bool, true, false, ◌&&◌, ◌||◌, refl, sym, ap, ap₂, ◌∙◌, subst, arith, lit≤, mod-eq_of_lt, bit_and, bit_or}
use Rattle.std.specs.Prelude.{slice_get, nat_eq, if◌then◌else◌, ℤ, pos, negsuc, ◌+ℤ◌, unsigned_abs}
use Rattle.std.specs.Int.Bits.{or_add_and, or_zero_r}
use Rattle.std.proofs.lemmas.Bool.{ne_eqb}
use Rattle.std.proofs.lemmas.Int.{ints, int_rem_euclid_is}
use Rattle.std.proofs.lemmas.Nat.{pow_pos, and_le_l}
use Rattle.std.proofs.Math.Nat.{add-mod-mod, mod-add-mod, le-mul_of_pos_right}
use Rattle.isp_base.specs.Cross.{or_zero, instance, fold_below, and_this, any_of, all_of, reduce_equal, best}
use Rattle.isp_base.specs.Ranks.{widened}
use Rattle.isp_base.specs.Maps.{Map, on}
use Rattle.isp_base.specs.Truths.{is_true}
use Rattle.isp_base.specs.Values.{width, number, wrap, wrap_to, op_bits, convert_bits}
use Rattle.isp_base.specs.declared.types.Elem.{Elem}
use Rattle.isp_base.specs.declared.types.Elem.TheVariants.{Bool as Truth, I8, U8, I16, U16, I32, U32, I64, U64}
use Rattle.isp_base.proofs.Wraps.{wrap_to-pos, wrap_to-lt}
use Rattle.isp_code.specs.Conf.{Conf, Go}
use Rattle.isp_code.specs.Lines.{set_scalar, plain_of, reduced}
use Rattle.isp_code.specs.declared.instr.Instr.TheVariants as instr
use Rattle.isp_code.specs.declared.instr.Plain.{Plain}
use Rattle.isp_code.specs.declared.instr.Plain.TheVariants as plain
use Rattle.isp_code.specs.declared.instr.Reduction.{Reduction}
use Rattle.isp_code.specs.declared.instr.Reduction.TheVariants as reduction
use Rattle.isp_code.specs.declared.instr.ScalarInstr.TheVariants as scalar
use Rattle.isp_code.specs.declared.register.Class.TheVariants as class
use Rattle.isp_code.specs.declared.register.Register.{Register}
use Rattle.isp_wasm_meaning.specs.Syntax as wasm
use Rattle.isp_wasm_meaning.specs.Syntax.{Add, Expr, Select, Const32, Local}
use Rattle.isp_wasm_meaning.specs.Meaning.{Report, State, Result, Fell, run, value, chosen, flag, flags, lane, set_local, then_to}
use Rattle.isp_wasm_meaning.specs.Ladder.{Meets}
use Rattle.isp_wasm.specs.Places as place
use Rattle.isp_wasm.specs.Places.{Setting, Counter, Spare, IsKept, elem, gang, size_of}
use Rattle.isp_wasm.specs.Words.{constant, plain_expr, whole_expr, convert_expr}
use Rattle.isp_wasm.specs.Rows.{lane_at}
use Rattle.isp_wasm.specs.Templates.{each, is_member, lane_or, first_value, folded, reduce_expr, best_step, best_of, scalar_code, vector_local}
use Rattle.isp_wasm.specs.Standing.{Stands, Holds, IsSettled, the_machine}
use Rattle.isp_wasm.specs.Thin.{IsInteger, IsVector, IsReduction}
use Rattle.isp_wasm.proofs.Frames.{Alike, holds_alike, there, elsewhere}
use Rattle.isp_wasm.proofs.Parts.{Kept, Told, each_part}
use Rattle.isp_wasm.proofs.WordLaws.{flag_is, plain_is, op_fits, whole_value}
use Rattle.isp_wasm.proofs.Converts.{convert_is}
use Rattle.isp_wasm.proofs.Vectors.{vector_lane, vector_fits}
use Rattle.isp_wasm.proofs.MaskWords.{member_is}
use Rattle.isp_wasm.proofs.Scalars.{falls_scalar}
use Rattle.isp_wasm.proofs.Picks.{zero_of, chosen_flags, lane_or_is}

-- ---- residues add up

pub record Lifted (n : ℕ) (z : ℤ) : Type 0 where
  pub turns : ℕ
  pub rest : ℕ
  pub is : z +ℤ pos (turns * n) ≡ pos rest

lifted : (n : ℕ) (z : ℤ) → 0 < n → Lifted n z
lifted n (pos m) h = record { turns = 0; rest = m; is = omega (arith, ints) }
lifted n (negsuc m) h = record { turns = suc m; rest = suc m * n - suc m; is = omega (arith, ints, le-mul_of_pos_right (suc m) h) }

wrap_sum : (w : ℕ) (a b : ℤ) → (wrap_to w a + wrap_to w b) % 2 ^ w ≡ wrap_to w (a +ℤ b)
unfolding wrap_to
wrap_sum w a b =
    let m = 2 ^ w in
    let some = pow_pos w in
    let i = lifted m a some in
    let j = lifted m b some in
    let left : instance m a ≡ i.rest % m = ap unsigned_abs (int_rem_euclid_is a (pos m) m i.turns i.rest some refl i.is) in
    let right : instance m b ≡ j.rest % m = ap unsigned_abs (int_rem_euclid_is b (pos m) m j.turns j.rest some refl j.is) in
    let both : instance m (a +ℤ b) ≡ (i.rest + j.rest) % m = ap unsigned_abs (int_rem_euclid_is (a +ℤ b) (pos m) m (i.turns + j.turns) (i.rest + j.rest) some refl (omega (arith, ints, i.is, j.is))) in
    ap₂ (λ x y. (x + y) % m) left right ∙ add-mod-mod (i.rest % m) j.rest m ∙ mod-add-mod i.rest m j.rest ∙ sym both

widened_bits : (t : Elem) (z : ℤ) → convert_bits (widened t) z ≡ wrap (widened t) z
widened_bits Truth z = refl
widened_bits I8 z = refl
widened_bits U8 z = refl
widened_bits I16 z = refl
widened_bits U16 z = refl
widened_bits I32 z = refl
widened_bits U32 z = refl
widened_bits I64 z = refl
widened_bits U64 z = refl

wide_integer : (t : Elem) → IsInteger (widened t)
wide_integer Truth = tt
wide_integer I8 = tt
wide_integer U8 = tt
wide_integer I16 = tt
wide_integer U16 = tt
wide_integer I32 = tt
wide_integer U32 = tt
wide_integer I64 = tt
wide_integer U64 = tt

-- ---- the first of the values

abbrev pub or_else : Option ℕ → Option ℕ → Option ℕ
or_else (Some a) o = Some a
or_else None o = o

abbrev pub first_from : Map → ℕ → ℕ → Option ℕ
first_from x zero p = None
first_from x (suc n) p = or_else (x p) (first_from x n (suc p))

or_else_twice : (a b d : Option ℕ) → or_else a (or_else b d) ≡ or_else (or_else a b) d
or_else_twice (Some a) b d = refl
or_else_twice None b d = refl

no_other : (o : Option ℕ) → or_else o None ≡ o
no_other (Some a) = refl
no_other None = refl

one_later : (x : Map) (n p : ℕ) → first_from x (suc n) p ≡ or_else (first_from x n p) (x (p + n))
one_later x zero p = no_other (x p) ∙ ap x (let e : p ≡ p + zero = omega arith in e)
one_later x (suc n) p =
    ap (or_else (x p)) (one_later x n (suc p)) ∙ or_else_twice (x p) (first_from x n (suc p)) (x (suc p + n))
    ∙ ap (λ q. or_else (or_else (x p) (first_from x n (suc p))) (x q)) (let e : suc p + n ≡ p + suc n = omega arith in e)

first_step : (a b : Option ℕ) → and_this (best (λ a _. a)) a b ≡ or_else a b
first_step (Some a) None = refl
first_step (Some a) (Some b) = refl
first_step None None = refl
first_step None (Some b) = refl

first_fold : (x : Map) (n : ℕ) → fold_below (best (λ a _. a)) None x n ≡ first_from x n 0
first_fold x zero = refl
first_fold x (suc n) =
    ap (λ o. and_this (best (λ a _. a)) o (x n)) (first_fold x n) ∙ first_step (first_from x n 0) (x n) ∙ ap (λ p. or_else (first_from x n 0) (x p)) (let e : n ≡ 0 + n = omega arith in e) ∙ sym (one_later x n 0)

-- ---- the values of expressions

abbrev pub as_number : Bool → ℕ
as_number b = if b then 1 else 0

as_bool : (b : ℕ) → b < 2 → b ≡ as_number (is_true b)
as_bool zero h = refl
as_bool (suc zero) h = refl
as_bool (suc (suc b)) h = absurd (omega arith)

or_bits : (a b : Bool) → bit_or (as_number a) (as_number b) ≡ as_number (a || b)
or_bits true true = refl
or_bits true false = refl
or_bits false true = refl
or_bits false false = refl

and_bits : (a b : Bool) → bit_and (as_number a) (as_number b) ≡ as_number (a && b)
and_bits true true = refl
and_bits true false = refl
and_bits false true = refl
and_bits false false = refl

module _ (w : Setting) (c : Conf) (l : ℕ → ℕ) (h : Holds w c.scalars c.vectors c.masks l) (x k : Register) where
  abbrev pub lanes : Map
  lanes = on (c.masks k.number) (c.vectors x.number)

  abbrev pub t : Elem
  t = elem w x

  -- a sum
  module _ (xv : IsVector w x t) where
    abbrev pub v : Elem
    v = widened t

    abbrev pub addend : ℕ → Expr
    addend p = Select (is_member w k p) (convert_expr t v (lane_at t (vector_local w x) p)) (constant (size_of v) 0)

    addend_is : (p : ℕ) → p < gang w → value l (addend p) ≡ (if c.masks k.number p then wrap v (number t (c.vectors x.number p)) else 0)
    addend_is p low =
        ap (λ m. chosen m (value l (convert_expr t v (lane_at t (vector_local w x) p))) (value l (constant (size_of v) 0))) (member_is w c.scalars c.vectors c.masks l h k p)
        ∙ chosen_flags (c.masks k.number p) (value l (convert_expr t v (lane_at t (vector_local w x) p))) (value l (constant (size_of v) 0))
        ∙ ap₂ (λ a b. if c.masks k.number p then a else b)
        (convert_is t v l (lane_at t (vector_local w x) p) (c.vectors x.number p) (vector_lane w c l h x t xv p low) (vector_fits w c l h x t xv p low) ∙ widened_bits t (number t (c.vectors x.number p))) (zero_of (size_of v) l)

    abbrev pub sum_to : ℕ → ℤ
    sum_to n = fold_below (λ s b. s +ℤ number t b) (pos 0) lanes n

    sum_is : (n : ℕ) → n ≤ gang w → value l (folded w (whole_expr v Add) (constant (size_of v) 0) addend n) ≡ wrap v (sum_to n)
    sum_is zero le = zero_of (size_of v) l ∙ sym (wrap_to-pos (width v) 0 ∙ mod-eq_of_lt (pow_pos (width v)))
    sum_is (suc n) le =
        whole_value v Add l (folded w (whole_expr v Add) (constant (size_of v) 0) addend n) (addend n) (wrap v (sum_to n)) (if c.masks k.number n then wrap v (number t (c.vectors x.number n)) else 0) (wide_integer t)
        (sum_is n (omega arith)) (addend_is n (omega arith)) (low (c.masks k.number n)) ∙ by (c.masks k.number n)
      where
        low : (b : Bool) → (if b then wrap v (number t (c.vectors x.number n)) else 0) ≤ 2 ^ width v
        low true = let lt = wrap_to-lt (width v) (number t (c.vectors x.number n)) in omega arith
        low false = omega arith

        by : (b : Bool) → (wrap v (sum_to n) + (if b then wrap v (number t (c.vectors x.number n)) else 0)) % 2 ^ width v ≡ wrap v (and_this (λ s b. s +ℤ number t b) (sum_to n) (if b then Some (c.vectors x.number n) else None))
        by true = wrap_sum (width v) (sum_to n) (number t (c.vectors x.number n))
        by false = ap (λ z. z % 2 ^ width v) (let e : wrap v (sum_to n) + 0 ≡ wrap v (sum_to n) = omega arith in e) ∙ mod-eq_of_lt (wrap_to-lt (width v) (sum_to n))

  -- tests
  module _ (xv : IsVector w x Truth) (xe : elem w x ≡ Truth) where
    lane_bool : (p : ℕ) → p < gang w → (b : Bool) → (u : ℕ) → u < 2 → (if b then c.vectors x.number p else u) ≡ as_number (if b then is_true (c.vectors x.number p) else is_true u)
    lane_bool p low true u f = as_bool (c.vectors x.number p) (vector_fits w c l h x Truth xv p low)
    lane_bool p low false u f = as_bool u f

    any_is : (n : ℕ) → n ≤ gang w → value l (folded w (wasm.Two (wasm.BitsOf wasm.I32 wasm.Or)) (Const32 0) (lane_or w x k (Const32 0)) n) ≡ as_number (any_of is_true n lanes)
    any_is zero le = refl
    any_is (suc n) le =
        ap₂ bit_or (any_is n (omega arith)) (lane_or_is w c l h x k Truth xv xe (Const32 0) 0 refl n (omega arith) ∙ lane_bool n (omega arith) (c.masks k.number n) 0 (lit≤ tt))
        ∙ or_bits (any_of is_true n lanes) (if c.masks k.number n then is_true (c.vectors x.number n) else false) ∙ ap as_number (by (c.masks k.number n))
      where
        or_false : (b : Bool) → (b || false) ≡ b
        or_false true = refl
        or_false false = refl

        by : (b : Bool) → (any_of is_true n lanes || (if b then is_true (c.vectors x.number n) else false)) ≡ and_this (λ a b. a || is_true b) (any_of is_true n lanes) (if b then Some (c.vectors x.number n) else None)
        by true = refl
        by false = or_false (any_of is_true n lanes)

    all_is : (n : ℕ) → n ≤ gang w → value l (folded w (wasm.Two (wasm.BitsOf wasm.I32 wasm.And)) (Const32 1) (lane_or w x k (Const32 1)) n) ≡ as_number (all_of is_true n lanes)
    all_is zero le = refl
    all_is (suc n) le =
        ap₂ bit_and (all_is n (omega arith)) (lane_or_is w c l h x k Truth xv xe (Const32 1) 1 refl n (omega arith) ∙ lane_bool n (omega arith) (c.masks k.number n) 1 (lit≤ tt))
        ∙ and_bits (all_of is_true n lanes) (if c.masks k.number n then is_true (c.vectors x.number n) else true) ∙ ap as_number (by (c.masks k.number n))
      where
        and_true : (b : Bool) → (b && true) ≡ b
        and_true true = refl
        and_true false = refl

        by : (b : Bool) → (all_of is_true n lanes && (if b then is_true (c.vectors x.number n) else true)) ≡ and_this (λ a b. a && is_true b) (all_of is_true n lanes) (if b then Some (c.vectors x.number n) else None)
        by true = refl
        by false = and_true (all_of is_true n lanes)

  -- whether all are as the first
  module _ (xv : IsVector w x t) where
    first_is : (n p : ℕ) → p + n ≤ gang w → value l (first_value w x k n p) ≡ or_zero (first_from lanes n p)
    first_is zero p le = zero_of (size_of t) l
    first_is (suc n) p le =
        ap (λ m. chosen m (value l (lane_at t (vector_local w x) p)) (value l (first_value w x k n (suc p)))) (member_is w c.scalars c.vectors c.masks l h k p)
        ∙ chosen_flags (c.masks k.number p) (value l (lane_at t (vector_local w x) p)) (value l (first_value w x k n (suc p)))
        ∙ ap₂ (λ a b. if c.masks k.number p then a else b) (vector_lane w c l h x t xv p (omega arith)) (first_is n (suc p) (omega arith)) ∙ by (c.masks k.number p)
      where
        by : (b : Bool) → (if b then c.vectors x.number p else or_zero (first_from lanes n (suc p))) ≡ or_zero (or_else (if b then Some (c.vectors x.number p) else None) (first_from lanes n (suc p)))
        by true = refl
        by false = refl

    abbrev pub the_first : ℕ
    the_first = or_zero (fold_below (best (λ a _. a)) None lanes (gang w))

    first_lane : value l (first_value w x k (gang w) 0) ≡ the_first
    first_lane = first_is (gang w) 0 (omega arith) ∙ ap or_zero (sym (first_fold lanes (gang w)))

    abbrev pub same_as : ℕ → Expr
    same_as p = Select (is_member w k p) (wasm.Two (wasm.Compare (size_of t) wasm.Eq) (lane_at t (vector_local w x) p) (first_value w x k (gang w) 0)) (Const32 1)

    same_is : (p : ℕ) → p < gang w → value l (same_as p) ≡ as_number (if c.masks k.number p then nat_eq (c.vectors x.number p) the_first else true)
    same_is p low =
        ap (λ m. chosen m (value l (wasm.Two (wasm.Compare (size_of t) wasm.Eq) (lane_at t (vector_local w x) p) (first_value w x k (gang w) 0))) 1) (member_is w c.scalars c.vectors c.masks l h k p)
        ∙ chosen_flags (c.masks k.number p) (value l (wasm.Two (wasm.Compare (size_of t) wasm.Eq) (lane_at t (vector_local w x) p) (first_value w x k (gang w) 0))) 1
        ∙ ap (λ a. if c.masks k.number p then a else 1) (ap₂ (λ a b. flag (nat_eq a b)) (vector_lane w c l h x t xv p low) first_lane ∙ flag_is (nat_eq (c.vectors x.number p) the_first)) ∙ by (c.masks k.number p)
      where
        by : (b : Bool) → (if b then as_number (nat_eq (c.vectors x.number p) the_first) else 1) ≡ as_number (if b then nat_eq (c.vectors x.number p) the_first else true)
        by true = refl
        by false = refl

    equal_is : (n : ℕ) → n ≤ gang w → value l (folded w (wasm.Two (wasm.BitsOf wasm.I32 wasm.And)) (Const32 1) same_as n) ≡ as_number (all_of (λ b. nat_eq b the_first) n lanes)
    equal_is zero le = refl
    equal_is (suc n) le =
        ap₂ bit_and (equal_is n (omega arith)) (same_is n (omega arith)) ∙ and_bits (all_of (λ b. nat_eq b the_first) n lanes) (if c.masks k.number n then nat_eq (c.vectors x.number n) the_first else true)
        ∙ ap as_number (by (c.masks k.number n))
      where
        and_true : (b : Bool) → (b && true) ≡ b
        and_true true = refl
        and_true false = refl

        by : (b : Bool) → (all_of (λ b. nat_eq b the_first) n lanes && (if b then nat_eq (c.vectors x.number n) the_first else true))
            ≡ and_this (λ a b. a && nat_eq b the_first) (all_of (λ b. nat_eq b the_first) n lanes) (if b then Some (c.vectors x.number n) else None)
        by true = refl
        by false = and_true (all_of (λ b. nat_eq b the_first) n lanes)

bool_low : (b : Bool) → as_number b < 2
bool_low true = lit≤ tt
bool_low false = lit≤ tt

-- ---- the instructions

module _ (w : Setting) (ready : IsSettled w) (fuel n k : ℕ) (call : ℕ → List ℕ → State → Result) (pc : ℕ) (c : Conf) (s : State) (st : Stands w pc c s) where
  abbrev pub Good : ℕ → Conf → Result → Type 0
  Good pc = Meets (the_machine w) (w.local Counter) n fuel (Stands w pc) (suc k)

  -- what one expression gives
  reduces_to : (d : Register) (r : Reduction) (x m : Register) (v : ℕ) → d.class ≡ class.Scalar → slice_get w.routine.code pc ≡ Some (instr.Scalar d (scalar.Reduce r x m)) → value s.locals (reduce_expr w r x m) ≡ v
      → reduced r (elem w x) (gang w) (on (c.masks m.number) (c.vectors x.number)) ≡ v → v < 2 ^ width (elem w d) → Good (pc + 1) c (Fell (set_local (w.local (place.Scalar d.number)) (value s.locals (reduce_expr w r x m)) s))
  reduces_to d r x m v cl has is machine fit =
      subst (λ z. Good (pc + 1) c (Fell (set_local (w.local (place.Scalar d.number)) z s))) (sym is)
      (falls_scalar w ready fuel n k call pc c s st (instr.Scalar d (scalar.Reduce r x m)) d v s has cl (ap (λ z. Go (set_scalar c d z)) machine) fit (λ p kept. refl) refl st.keeps)

  bool_in : (d : Register) (b : Bool) → elem w d ≡ Truth → as_number b < 2 ^ width (elem w d)
  bool_in d b e = subst (λ t. as_number b < 2 ^ width t) (sym e) (bool_low b)

  -- ---- the least and the greatest

  module _ (o : Plain) (x m : Register) (num : IsInteger (elem w x)) (xv : IsVector w x (elem w x)) where
    abbrev pub bt : Elem
    bt = elem w x

    abbrev pub best_to : ℕ → Option ℕ
    best_to p = fold_below (best (op_bits (plain_of o) bt)) None (on (c.masks m.number) (c.vectors x.number)) p

    abbrev pub so_far : place.Place
    so_far = Spare (size_of bt) 0

    abbrev pub seen : place.Place
    seen = Spare wasm.I32 1

    apart : seen ≡ so_far → ⊥
    apart e = let same : ◌≡◌ {A = ℕ} 1 0 = cc in omega arith

    abbrev pub is_none : Option ℕ → Bool
    is_none None = true
    is_none (Some v) = false

    pub record Best (p : ℕ) (u : State) : Type 0 where
      pub locals : ℕ → ℕ
      pub is : u ≡ record s { locals = locals }
      pub alike : Alike w s.locals locals
      pub best_is : locals (w.local so_far) ≡ or_zero (best_to p)
      pub seen_is : nat_eq (locals (w.local seen)) 0 ≡ is_none (best_to p)
      pub fits : or_zero (best_to p) < 2 ^ width bt

    abbrev pub better : Expr → Expr → Expr
    better = plain_expr o bt

    seen_more : (v : ℕ) → nat_eq (bit_or v 255) 0 ≡ false
    seen_more v = ne_eqb (bit_or v 255) 0 (λ e. let sum = or_add_and v 255 in let le = and_le_l v 255 in omega arith)

    step_best : (p : ℕ) → p < gang w → (u : State) → Best p u → Kept (Best (suc p)) (run fuel call (best_step w bt better x m p) u)
    step_best p low u f =
        let l = f.locals in
        let at : State = record s { locals = l } in
        let held = holds_alike w c.scalars c.vectors c.masks s.locals l st.holds f.alike in
        let there_is = vector_lane w c l held x bt xv p low in
        let fit = vector_fits w c l held x bt xv p low in
        let here = lane_at bt (vector_local w x) p in
        let best_now = Local (w.local so_far) in
        let seen_now = Local (w.local seen) in
        let new = value l (Select (is_member w m p) (Select seen_now (better best_now here) here) best_now) in
        let one = set_local (w.local so_far) new at in
        let flag_now = value one.locals (wasm.Two (wasm.BitsOf wasm.I32 wasm.Or) seen_now (is_member w m p)) in
        let last = set_local (w.local seen) flag_now one in
        let member = member_is w c.scalars c.vectors c.masks l held m p in
        let member_then : value one.locals (is_member w m p) ≡ flags 8 (c.masks m.number p) =
        ap (lane wasm.I8x16 (p % 16)) (elsewhere w ready so_far (place.Mask m.number (p / 16)) new at (λ e. cc)) ∙ member in
        record {
          state = last;
          fell = ap (run fuel call (best_step w bt better x m p)) f.is;
          holds =
              record {
                locals = last.locals;
                is = refl;
                alike = λ y kept. elsewhere w ready seen y flag_now one (λ e. subst IsKept e kept) ∙ elsewhere w ready so_far y new at (λ e. subst IsKept e kept) ∙ f.alike y kept;
                best_is = elsewhere w ready seen so_far flag_now one (λ e. apart (sym e)) ∙ there w ready so_far new at
                    ∙ ap (λ b. chosen b (chosen (l (w.local seen)) (value l (better best_now here)) (value l here)) (l (w.local so_far))) member
                    ∙ chosen_flags (c.masks m.number p) (chosen (l (w.local seen)) (value l (better best_now here)) (value l here)) (l (w.local so_far))
                    ∙ which (c.masks m.number p) (best_to p) l f.best_is f.seen_is f.fits there_is fit;
                seen_is = ap (λ z. nat_eq z 0) (there w ready seen flag_now one ∙ ap₂ bit_or (elsewhere w ready so_far seen new at apart) member_then) ∙ marks (c.masks m.number p) (best_to p) (l (w.local seen)) f.seen_is;
                fits = low_one (c.masks m.number p) (best_to p) f.fits fit;
              };
        }
      where
        more : Option ℕ → Bool → Option ℕ
        more acc b = and_this (best (op_bits (plain_of o) bt)) acc (if b then Some (c.vectors x.number p) else None)

        which : (b : Bool) (acc : Option ℕ) (l : ℕ → ℕ) → l (w.local so_far) ≡ or_zero acc → nat_eq (l (w.local seen)) 0 ≡ is_none acc → or_zero acc < 2 ^ width bt
            → value l (lane_at bt (vector_local w x) p) ≡ c.vectors x.number p → c.vectors x.number p < 2 ^ width bt
            → (if b then chosen (l (w.local seen)) (value l (better (Local (w.local so_far)) (lane_at bt (vector_local w x) p))) (value l (lane_at bt (vector_local w x) p)) else l (w.local so_far)) ≡ or_zero (more acc b)
        which true None l e f g lane fit =
            ap (λ z. if z then value l (lane_at bt (vector_local w x) p) else value l (better (Local (w.local so_far)) (lane_at bt (vector_local w x) p))) f ∙ lane
        which true (Some a) l e f g lane fit =
            ap (λ z. if z then value l (lane_at bt (vector_local w x) p) else value l (better (Local (w.local so_far)) (lane_at bt (vector_local w x) p))) f
            ∙ plain_is o bt l (Local (w.local so_far)) (lane_at bt (vector_local w x) p) a (c.vectors x.number p) num e lane g fit
        which false acc l e f g lane fit = e

        marks : (b : Bool) (acc : Option ℕ) (v : ℕ) → nat_eq v 0 ≡ is_none acc → nat_eq (bit_or v (flags 8 b)) 0 ≡ is_none (more acc b)
        marks true None v e = seen_more v
        marks true (Some a) v e = seen_more v
        marks false acc v e = ap (λ z. nat_eq z 0) (or_zero_r v) ∙ e

        low_one : (b : Bool) (acc : Option ℕ) → or_zero acc < 2 ^ width bt → c.vectors x.number p < 2 ^ width bt → or_zero (more acc b) < 2 ^ width bt
        low_one true None g fit = fit
        low_one true (Some a) g fit = op_fits o bt a (c.vectors x.number p)
        low_one false acc g fit = g

    abbrev pub Never : Option Report → State → Type 0
    Never r u = ⊥

    pub best_falls : (d : Register) (r : Reduction) → d.class ≡ class.Scalar → elem w d ≡ bt → slice_get w.routine.code pc ≡ Some (instr.Scalar d (scalar.Reduce r x m))
        → reduced r bt (gang w) (on (c.masks m.number) (c.vectors x.number)) ≡ or_zero (best_to (gang w)) → Good (pc + 1) c (run fuel call (best_of w d better x m) s)
    best_falls d r cl de has machine = by (each_part fuel call (best_step w bt better x m) Best Never (gang w) (λ p low u f. inl (step_best p low u f)) begun none)
      where
        zero_state : State
        zero_state = set_local (w.local so_far) (value s.locals (constant (size_of bt) 0)) s

        begun : State
        begun = set_local (w.local seen) (0 % 2 ^ 32) zero_state

        none : Best 0 begun
        none =
            record {
              locals = begun.locals;
              is = refl;
              alike = λ y kept. elsewhere w ready seen y (0 % 2 ^ 32) zero_state (λ e. subst IsKept e kept) ∙ elsewhere w ready so_far y (value s.locals (constant (size_of bt) 0)) s (λ e. subst IsKept e kept);
              best_is = elsewhere w ready seen so_far (0 % 2 ^ 32) zero_state (λ e. apart (sym e)) ∙ there w ready so_far (value s.locals (constant (size_of bt) 0)) s ∙ zero_of (size_of bt) s.locals;
              seen_is = ap (λ z. nat_eq z 0) (there w ready seen (0 % 2 ^ 32) zero_state);
              fits = pow_pos (width bt);
            }

        after : State → Result
        after u = run fuel call (wasm.Set (w.local (place.Scalar d.number)) (Local (w.local so_far))) u

        by : Kept (Best (gang w)) (run fuel call (each (gang w) (best_step w bt better x m)) begun) ⊎ Told Never (run fuel call (each (gang w) (best_step w bt better x m)) begun) → Good (pc + 1) c (run fuel call (best_of w d better x m) s)
        by (inl kept) =
            let f = kept.holds in
            let u : State = record s { locals = f.locals } in
            subst (Good (pc + 1) c) (sym (ap (λ r. then_to r after) (kept.fell ∙ ap Fell f.is) ∙ ap (λ z. Fell (set_local (w.local (place.Scalar d.number)) z u)) f.best_is))
            (falls_scalar w ready fuel n k call pc c s st (instr.Scalar d (scalar.Reduce r x m)) d (or_zero (best_to (gang w))) u has cl (ap (λ z. Go (set_scalar c d z)) machine)
            (subst (λ t. or_zero (best_to (gang w)) < 2 ^ width t) (sym de) f.fits) f.alike refl st.keeps)
        by (inr told) = absurd told.holds

  pub reduces : (d : Register) (r : Reduction) (x m : Register) → d.class ≡ class.Scalar → slice_get w.routine.code pc ≡ Some (instr.Scalar d (scalar.Reduce r x m)) → IsVector w x (elem w x) → IsReduction w r (elem w x) (elem w d)
      → Good (pc + 1) c (run fuel call (scalar_code w d (scalar.Reduce r x m)) s)
  reduces d reduction.Add x m cl has xv h =
      reduces_to d reduction.Add x m (reduced reduction.Add (elem w x) (gang w) (on (c.masks m.number) (c.vectors x.number))) cl has (sum_is w c s.locals st.holds x m xv (gang w) (omega arith)) refl
      (subst (λ t. reduced reduction.Add (elem w x) (gang w) (on (c.masks m.number) (c.vectors x.number)) < 2 ^ width t) (sym h.1) (wrap_to-lt (width (widened (elem w x))) (sum_to w c s.locals st.holds x m xv (gang w))))
  reduces d reduction.Min x m cl has xv h = best_falls plain.Min x m h.0 xv d reduction.Min cl h.1 has refl
  reduces d reduction.Max x m cl has xv h = best_falls plain.Max x m h.0 xv d reduction.Max cl h.1 has refl
  reduces d reduction.Equal x m cl has xv h =
      reduces_to d reduction.Equal x m (reduced reduction.Equal (elem w x) (gang w) (on (c.masks m.number) (c.vectors x.number))) cl has (equal_is w c s.locals st.holds x m xv (gang w) (omega arith)) refl
      (bool_in d (reduce_equal (gang w) (on (c.masks m.number) (c.vectors x.number))) h.1)
  reduces d reduction.Any x m cl has xv h =
      reduces_to d reduction.Any x m (reduced reduction.Any (elem w x) (gang w) (on (c.masks m.number) (c.vectors x.number))) cl has
      (any_is w c s.locals st.holds x m (record { class_is = xv.class_is; elem_is = h.0 }) h.0 (gang w) (omega arith)) refl (bool_in d (any_of is_true (gang w) (on (c.masks m.number) (c.vectors x.number))) h.1)
  reduces d reduction.All x m cl has xv h =
      reduces_to d reduction.All x m (reduced reduction.All (elem w x) (gang w) (on (c.masks m.number) (c.vectors x.number))) cl has
      (all_is w c s.locals st.holds x m (record { class_is = xv.class_is; elem_is = h.0 }) h.0 (gang w) (omega arith)) refl (bool_in d (all_of is_true (gang w) (on (c.masks m.number) (c.vectors x.number))) h.1)
