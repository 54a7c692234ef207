-- The code of each instruction is valid, where the locals of a function have their types.
use Rattle.std.proofs.Common.{◌≡◌, ℕ, zero, suc, ◌+◌, ◌-◌, ◌*◌, ◌/◌, ◌%◌, ◌^◌, ◌<◌, ◌≤◌, Option, Some, None, List, [], ◌∷◌, Bool, true, false, ◌&&◌, refl, sym, ap, ◌∙◌, subst, arith, lit≤}
use Rattle.std.specs.Prelude.{nat_lt, nat_eq, not, if◌then◌else◌, ◌++◌, map}
use Rattle.std.proofs.lemmas.Bool.{ltb-true, ltb-false, lt-ltb, ne_eqb, cond-true, cond-false}
use Rattle.isp_base.specs.Ranks.{widened as sum_type}
use Rattle.isp_base.specs.Types.{gang_width}
use Rattle.isp_base.specs.Values.{width}
use Rattle.isp_base.specs.declared.types.Elem.{Elem}
use Rattle.isp_base.specs.declared.types.Elem.TheVariants.{Bool as Truth, I8, U8, I16, U16, I32, U32, I64, U64}
use Rattle.isp_base.specs.declared.types.Gang.{Gang}
use Rattle.isp_base.specs.declared.types.Gang.TheVariants.{W4, W8, W16, W32}
use Rattle.isp_base.specs.Values.{wrap}
use Rattle.isp_base.specs.declared.operators.UnaryOp.{UnaryOp}
use Rattle.isp_base.specs.declared.operators.UnaryOp.TheVariants as unary
use Rattle.isp_code.specs.Fine.{AllFine, CallFine, CallsFine, IsThere, IsWanted, IsGiven}
use Rattle.isp_code.specs.Registers.{is_per_lane}
use Rattle.isp_code.specs.declared.instr.Call.{Call}
use Rattle.isp_code.specs.Operands.{operands, scalar_operands, vector_operands, mask_operands, divided, unary_want, result_operands, any_register}
use Rattle.isp_code.specs.declared.function.Returns.{Returns}
use Rattle.isp_code.specs.declared.function.Returns.TheVariants.{Nothing, Scalar as GivesScalar, Vector as GivesVector}
use Rattle.isp_code.specs.declared.instr.Instr.{Instr}
use Rattle.isp_code.specs.declared.instr.Instr.TheVariants as instr
use Rattle.isp_code.specs.declared.instr.JumpTest.TheVariants as jump
use Rattle.isp_code.specs.declared.instr.MaskInstr.{MaskInstr}
use Rattle.isp_code.specs.declared.instr.MaskInstr.TheVariants as mask
use Rattle.isp_code.specs.declared.instr.VectorInstr.{VectorInstr}
use Rattle.isp_code.specs.declared.instr.VectorInstr.TheVariants as vector
use Rattle.isp_code.specs.declared.operand.Operand.TheVariants.{Any as AnyRegister, Mask as MaskOperand, Place as PlaceOperand}
use Rattle.isp_code.specs.declared.operand.Want.TheVariants.{Integer, Like}
use Rattle.isp_code.specs.declared.register.Class.{Class}
use Rattle.isp_code.specs.declared.instr.Reduction.{Reduction}
use Rattle.isp_code.specs.declared.instr.Reduction.TheVariants as reduction
use Rattle.isp_code.specs.declared.instr.ScalarInstr.{ScalarInstr}
use Rattle.isp_code.specs.declared.instr.ScalarInstr.TheVariants as scalar
use Rattle.isp_code.specs.declared.operand.Operand.{Operand}
use Rattle.isp_wasm.specs.Thin.{IsUnary, IsReduction}
use Rattle.isp_wasm.proofs.Operands.{integer}
use Rattle.isp_code.specs.declared.instr.Division.{Division}
use Rattle.isp_code.specs.declared.instr.Division.TheVariants as division
use Rattle.isp_code.specs.declared.instr.Exchange.{Exchange}
use Rattle.isp_code.specs.declared.instr.Exchange.TheVariants as exchange
use Rattle.isp_code.specs.declared.instr.MaskOp.{MaskOp}
use Rattle.isp_code.specs.declared.instr.MaskOp.TheVariants as mask_op
use Rattle.isp_code.specs.declared.instr.Plain.{Plain}
use Rattle.isp_code.specs.declared.instr.Plain.TheVariants as plain
use Rattle.isp_code.specs.declared.instr.Scan.{Scan}
use Rattle.isp_code.specs.declared.instr.Scan.TheVariants as scan
use Rattle.isp_code.specs.declared.register.Class.TheVariants as class
use Rattle.isp_code.specs.declared.register.Register.{Register}
use Rattle.isp_forms.specs.Writes.{mask_under, is_pure}
use Rattle.isp_forms.specs.declared.form.Form.{Form}
use Rattle.isp_forms.specs.declared.form.Form.TheVariants.{Kept, Free, Useless, KeptBy, FreeBy}
use Rattle.isp_wasm_meaning.specs.Meaning.{count}
use Rattle.isp_wasm_meaning.specs.Module.{ValueType, V128, Function}
use Rattle.isp_wasm_meaning.specs.Module as valued
use Rattle.isp_wasm_meaning.specs.Syntax as wasm
use Rattle.isp_wasm_meaning.specs.Syntax.{Size, Shape, I8x16, I16x8, I32x4, I64x2, Add, Sub, Mul, And, Or, Xor, Eq, Ne, LtU, LtS, Eqz, Ctz, Wrap, ExtendU, Splat, Extract, Bitmask, Of, BitsOf, CompareLanes, Bits, Replace}
use Rattle.isp_wasm_meaning.specs.Syntax.{Expr, Const32, Const64, Const128, Local, One, Two, Select, Code, Skip, Then, Set, Load, Store, Divide, If, Br, Return, SetGlobal, Clear}
use Rattle.isp_wasm_meaning.specs.Valid.{is_type, sized, held, has_type, of_type, global_type, changes, is_label, gives, is_valid}
use Rattle.isp_wasm.specs.Places.{Setting, gang, parts, parts_for, elem, shape, shape_of, size_of, bytes_of, Counter, Scalar as ScalarAt, Vector as VectorAt, Mask as MaskAt, Base, Count, Fresh, Spare, Depth, Top}
use Rattle.isp_wasm.specs.Words.{constant, below, whole_expr, plain_expr, unary_expr, compare_expr, convert_expr}
use Rattle.isp_wasm.specs.Rows.{as_cell, lane_at, widened, by_lane, ones, compare_row, present, shift_row}
use Rattle.isp_wasm.specs.Templates.{each, scalar_local, vector_local, mask_local, set_lanes, set_mask, is_member, lanes_as_bits, lowest_of, lane_or, lane_or_zero, picked, first_value, folded, modulo, plus, exchange_expr, of_both, scan_expr, reduce_expr, scalar_code, vector_of, known_code, vector_code}
use Rattle.isp_wasm.specs.Templates.{select_lanes, put_lanes, vector_line, fills_parts, run_is_there, load_parts, load_row, store_part, store_row, all_at_once}
use Rattle.isp_wasm.specs.Templates.{best_step, best_of, fault, element_from, address_at, opened_bytes, base_if, base_at, lane_address, clear_if, is_there, spare, lane_loop, set_lane, lane_loads, lane_checks, lane_stores, own_index, run_index, rank_expr, packed_index, set_count, checked}
use Rattle.isp_wasm.specs.Templates.{mask_bits, mask_of, numbers_part, range_count, quotients, code_of, magnitude_expr, division_of, turns_sign, quotient_to, jump_to, return_code, call_code, print_value, print_byte, print_comma, print_item, print_list}
use Rattle.isp_wasm.proofs.Opening.{some_lanes as some_gang}
use Rattle.isp_wasm.proofs.Typed.{both, same, one, two, select, bitselect, number, unary_typed, compare_typed, plain_typed, whole_typed, below_typed, convert_typed, zero_typed, negated, magnitude_typed, low, lane_typed, cell_typed, source, widened_typed, part_low, unary_row_typed, compare_row_typed, shift_row_typed, plain_row_typed, present_typed, narrowed_typed, convert_row_typed, by_lane_typed}

-- ---- how many parts

pub gang_low : (g : Gang) → gang_width g ≤ 32
gang_low W4 = lit≤ tt
gang_low W8 = lit≤ tt
gang_low W16 = lit≤ tt
gang_low W32 = lit≤ tt

pub fresh_low : (lanes : ℕ) (s : Shape) (j : ℕ) → j < parts_for lanes s → j < parts_for lanes I64x2
fresh_low n I8x16 j h = omega (arith, h)
fresh_low n I16x8 j h = omega (arith, h)
fresh_low n I32x4 j h = omega (arith, h)
fresh_low n I64x2 j h = h

pub source_low : (lanes : ℕ) (s : Shape) (j : ℕ) → j < parts_for lanes s → source s j < parts_for lanes I8x16
source_low n I8x16 j h = h
source_low n I16x8 j h = omega (arith, h)
source_low n I32x4 j h = omega (arith, h)
source_low n I64x2 j h = omega (arith, h)

pub few_parts : (lanes : ℕ) (j : ℕ) → lanes ≤ 32 → j < parts_for lanes I8x16 → j < 2
few_parts n j le h = omega (arith, le, h)

some_lanes : (s : Shape) → 0 < count s
some_lanes I8x16 = lit≤ tt
some_lanes I16x8 = lit≤ tt
some_lanes I32x4 = lit≤ tt
some_lanes I64x2 = lit≤ tt

held_is : (t : Elem) → held (bytes_of t) ≡ Some (sized (size_of t))
held_is Truth = refl
held_is I8 = refl
held_is U8 = refl
held_is I16 = refl
held_is U16 = refl
held_is I32 = refl
held_is U32 = refl
held_is I64 = refl
held_is U64 = refl

-- the locals of what a function has
pub record HasTypes (w : Setting) (local : ℕ → Option ValueType) : Type 0 where
  pub counter : local (w.local Counter) ≡ Some valued.I32
  pub scalars : (x : Register) → IsThere w.routine class.Scalar x → local (w.local (ScalarAt x.number)) ≡ Some (sized (size_of (elem w x)))
  pub vectors : (x : Register) → IsThere w.routine class.Vector x → (j : ℕ) → j < parts w (shape w x) → local (w.local (VectorAt x.number j)) ≡ Some V128
  pub masks : (k : Register) → IsThere w.routine class.Mask k → (j : ℕ) → j < 2 → local (w.local (MaskAt k.number j)) ≡ Some V128
  pub bases : (a : Register) → IsThere w.routine class.Array a → local (w.local (Base a.number)) ≡ Some valued.I32
  pub counts : (a : Register) → IsThere w.routine class.Array a → local (w.local (Count a.number)) ≡ Some valued.I64
  pub fresh : (j : ℕ) → j < parts w I64x2 → local (w.local (Fresh j)) ≡ Some V128
  pub spares : (t : Size) → local (w.local (Spare t 0)) ≡ Some (sized t)
  pub seen : local (w.local (Spare wasm.I32 1)) ≡ Some valued.I32
  pub depth : local (w.local Depth) ≡ Some valued.I32
  pub top_is : local (w.local Top) ≡ Some valued.I32

module _ (w : Setting) (local : ℕ → Option ValueType) (functions : List Function) (result : Option ValueType) (typed : HasTypes w local) where
  abbrev pub T : Expr → ValueType → Type 0
  T e t = has_type local e t ≡ true

  abbrev pub V : Expr → Elem → Type 0
  V e t = T e (sized (size_of t))

  abbrev pub C : ℕ → Code → Type 0
  C d c = is_valid local functions result d c ≡ true

  abbrev pub Is : Register → Type 0
  Is x = IsThere w.routine class.Scalar x

  abbrev pub IsV : Register → Type 0
  IsV x = IsThere w.routine class.Vector x

  abbrev pub IsM : Register → Type 0
  IsM x = IsThere w.routine class.Mask x

  abbrev pub IsA : Register → Type 0
  IsA x = IsThere w.routine class.Array x

  -- ---- code

  pub then_valid : (d : ℕ) (a b : Code) → C d a → C d b → C d (Then a b)
  then_valid d a b p q = both (is_valid local functions result d a) (is_valid local functions result d b) p q

  pub if_valid : (d : ℕ) (c : Expr) (a b : Code) → T c valued.I32 → C (suc d) a → C (suc d) b → C d (If c a b)
  if_valid d c a b h p q =
      both (has_type local c valued.I32) (is_valid local functions result (suc d) a && is_valid local functions result (suc d) b) h (both (is_valid local functions result (suc d) a) (is_valid local functions result (suc d) b) p q)

  pub set_valid : (d x : ℕ) (e : Expr) (t : ValueType) → local x ≡ Some t → T e t → C d (Set x e)
  set_valid d x e t at h = ap (of_type local e) at ∙ h

  pub each_valid : (d n : ℕ) (body : ℕ → Code) → ((i : ℕ) → i < n → C d (body i)) → C d (each n body)
  each_valid d zero body h = refl
  each_valid d (suc n) body h = then_valid d (each n body) (body n) (each_valid d n body (λ i l. h i (omega (arith, l)))) (h n (omega arith))

  pub local_typed : (x : ℕ) (t : ValueType) → local x ≡ Some t → T (Local x) t
  local_typed x t at = ap (λ o. is_type o t) at ∙ same t

  load_valid : (d : ℕ) (t : Elem) (x : ℕ) (a : Expr) → local x ≡ Some (sized (size_of t)) → T a valued.I32 → C d (Load (bytes_of t) x a 0)
  load_valid d t x a at h =
      both (of_type local (Local x) (held (bytes_of t))) (has_type local a valued.I32 && nat_lt 0 (2 ^ 32)) (ap (of_type local (Local x)) (held_is t) ∙ local_typed x (sized (size_of t)) at)
      (both (has_type local a valued.I32) (nat_lt 0 (2 ^ 32)) h refl)

  store_valid : (d : ℕ) (t : Elem) (a e : Expr) → T a valued.I32 → V e t → C d (Store (bytes_of t) a 0 e)
  store_valid d t a e h k =
      both (of_type local e (held (bytes_of t))) (has_type local a valued.I32 && nat_lt 0 (2 ^ 32)) (ap (of_type local e) (held_is t) ∙ k) (both (has_type local a valued.I32) (nat_lt 0 (2 ^ 32)) h refl)

  -- ---- registers

  pub scalar_at : (x : Register) → Is x → (t : Elem) → elem w x ≡ t → local (w.local (ScalarAt x.number)) ≡ Some (sized (size_of t))
  scalar_at x is t e = typed.scalars x is ∙ ap (λ t. Some (sized (size_of t))) e

  pub scalar_typed : (x : Register) → Is x → (t : Elem) → elem w x ≡ t → V (scalar_local w x) t
  scalar_typed x is t e = local_typed (w.local (ScalarAt x.number)) (sized (size_of t)) (scalar_at x is t e)

  pub to_scalar : (d : ℕ) (x : Register) → Is x → (t : Elem) → elem w x ≡ t → (e : Expr) → V e t → C d (Set (w.local (ScalarAt x.number)) e)
  to_scalar d x is t same e h = set_valid d (w.local (ScalarAt x.number)) e (sized (size_of t)) (scalar_at x is t same) h

  pub vector_typed : (x : Register) → IsV x → (t : Elem) → elem w x ≡ t → (j : ℕ) → j < parts w (shape_of t) → T (vector_local w x j) V128
  vector_typed x is t e j l = local_typed (w.local (VectorAt x.number j)) V128 (typed.vectors x is j (subst (λ t. j < parts w (shape_of t)) (sym e) l))

  pub mask_typed : (k : Register) → IsM k → (j : ℕ) → j < 2 → T (mask_local w k j) V128
  mask_typed k is j l = local_typed (w.local (MaskAt k.number j)) V128 (typed.masks k is j l)

  pub mask_part_typed : (k : Register) → IsM k → (j : ℕ) → j < parts w I8x16 → T (mask_local w k j) V128
  mask_part_typed k is j l = mask_typed k is j (few_parts (gang w) j (gang_low w.code.gang) l)

  pub member_typed : (k : Register) → IsM k → (p : ℕ) → p < gang w → T (is_member w k p) valued.I32
  member_typed k is p q = one local (Extract I8x16 (p % 16)) (mask_local w k (p / 16)) (low local p 16 (lit≤ tt)) (mask_part_typed k is (p / 16) (part_low local w I8x16 p q))

  pub bits_typed : (k : Register) → IsM k → T (lanes_as_bits w k) valued.I32
  bits_typed k is =
      two local (Of wasm.I32 Add) (One (Bitmask I8x16) (mask_local w k 0)) (Two (Of wasm.I32 Mul) (One (Bitmask I8x16) (mask_local w k 1)) (Const32 (2 ^ 16))) refl
      (one local (Bitmask I8x16) (mask_local w k 0) refl (mask_typed k is 0 (lit≤ tt)))
      (two local (Of wasm.I32 Mul) (One (Bitmask I8x16) (mask_local w k 1)) (Const32 (2 ^ 16)) refl (one local (Bitmask I8x16) (mask_local w k 1) refl (mask_typed k is 1 (lit≤ tt))) refl)

  pub lowest_typed : (k : Register) → IsM k → T (lowest_of w k) valued.I32
  lowest_typed k is = let h = bits_typed k is in select local (lanes_as_bits w k) (One (Ctz wasm.I32) (lanes_as_bits w k)) (Const32 0) valued.I32 h (one local (Ctz wasm.I32) (lanes_as_bits w k) refl h) refl

  -- ---- lanes

  pub lane_of : (x : Register) → IsV x → (t : Elem) → elem w x ≡ t → (p : ℕ) → p < gang w → V (lane_at t (vector_local w x) p) t
  lane_of x is t e p q = lane_typed local t (vector_local w x) p (vector_typed x is t e (p / count (shape_of t)) (part_low local w (shape_of t) p q))

  module _ (x k : Register) (xs : IsV x) (ks : IsM k) where
    pub lane_or_typed : (other : Expr) → V other (elem w x) → (p : ℕ) → p < gang w → V (lane_or w x k other p) (elem w x)
    lane_or_typed other h p q =
        select local (is_member w k p) (lane_at (elem w x) (vector_local w x) p) other (sized (size_of (elem w x))) (member_typed k ks p q) (lane_of x xs (elem w x) refl p q) h

    pub or_zero_typed : (p : ℕ) → p < gang w → V (lane_or_zero w x k p) (elem w x)
    or_zero_typed p q = lane_or_typed (constant (size_of (elem w x)) 0) (zero_typed local (elem w x)) p q

    pub first_typed : (n p : ℕ) → p + n ≤ gang w → V (first_value w x k n p) (elem w x)
    first_typed zero p h = zero_typed local (elem w x)
    first_typed (suc n) p h =
        select local (is_member w k p) (lane_at (elem w x) (vector_local w x) p) (first_value w x k n (suc p)) (sized (size_of (elem w x))) (member_typed k ks p (omega (arith, h)))
        (lane_of x xs (elem w x) refl p (omega (arith, h))) (first_typed n (suc p) (omega (arith, h)))

  pub picked_typed : (t : Size) (i : Expr) (f : ℕ → Expr) (n : ℕ) → T i valued.I32 → ((j : ℕ) → j < n → T (f j) (sized t)) → T (picked w t i f n) (sized t)
  picked_typed t i f zero h k = number local t 0
  picked_typed t i f (suc n) h k =
      select local (Two (wasm.Compare wasm.I32 Eq) i (Const32 n)) (f n) (picked w t i f n) (sized t) (two local (wasm.Compare wasm.I32 Eq) i (Const32 n) refl h refl) (k n (omega arith))
      (picked_typed t i f n h (λ j l. k j (omega (arith, l))))

  pub folded_typed : (t : ValueType) (f : Expr → Expr → Expr) (e : Expr) (x : ℕ → Expr) (n : ℕ) → ((a b : Expr) → T a t → T b t → T (f a b) t) → T e t → ((i : ℕ) → i < n → T (x i) t) → T (folded w f e x n) t
  folded_typed t f e x zero step h k = h
  folded_typed t f e x (suc n) step h k = step (folded w f e x n) (x n) (folded_typed t f e x n step h (λ i l. k i (omega (arith, l)))) (k n (omega arith))

  pub modulo_typed : (n : ℕ) (i : Expr) → T i valued.I32 → T (modulo w n i) valued.I32
  modulo_typed n i h = two local (BitsOf wasm.I32 And) i (Const32 (n - 1)) refl h refl

  pub plus_typed : (i : Expr) (p : ℕ) → T i valued.I32 → T (plus w i p) valued.I32
  plus_typed i p h = two local (Of wasm.I32 Add) i (Const32 p) refl h refl

  pub exchange_typed : (e : Exchange) (x i k : Register) → IsV x → Is i → elem w i ≡ I32 → IsM k → (p : ℕ) → V (exchange_expr w e x i k p) (elem w x)
  exchange_typed exchange.Broadcast x i k xs is same ks p =
      picked_typed (size_of (elem w x)) (modulo w (gang w) (scalar_local w i)) (lane_or_zero w x k) (gang w) (modulo_typed (gang w) (scalar_local w i) (scalar_typed i is I32 same)) (or_zero_typed x k xs ks)
  exchange_typed exchange.Rotate x i k xs is same ks p =
      picked_typed (size_of (elem w x)) (modulo w (gang w) (plus w (scalar_local w i) p)) (lane_or_zero w x k) (gang w)
      (modulo_typed (gang w) (plus w (scalar_local w i) p) (plus_typed (scalar_local w i) p (scalar_typed i is I32 same))) (or_zero_typed x k xs ks)
  exchange_typed exchange.Shift x i k xs is same ks p =
      picked_typed (size_of (elem w x)) (plus w (scalar_local w i) p) (lane_or_zero w x k) (gang w) (plus_typed (scalar_local w i) p (scalar_typed i is I32 same)) (or_zero_typed x k xs ks)

  pub of_both_typed : (x y k : Register) → IsV x → IsV y → elem w y ≡ elem w x → IsM k → (p : ℕ) → p < 2 * gang w → V (of_both w x y k p) (elem w x)
  of_both_typed x y k xs ys same ks p h = by (nat_lt p (gang w)) refl
    where
      by : (b : Bool) → nat_lt p (gang w) ≡ b → V (if b then lane_or_zero w x k p else lane_or_zero w y k (p - gang w)) (elem w x)
      by true is = or_zero_typed x k xs ks p (ltb-true p (gang w) is)
      by false is = subst (V (lane_or_zero w y k (p - gang w))) same (or_zero_typed y k ys ks (p - gang w) (let le = ltb-false p (gang w) is in omega (arith, h, le)))

  pub scan_typed : (o : Scan) (x k : Register) → IsV x → IsM k → (p : ℕ) → p < gang w → V (scan_expr w o x k p) (elem w x)
  scan_typed scan.Add x k xs ks p q =
      folded_typed (sized (size_of (elem w x))) (plain_expr plain.Add (elem w x)) (constant (size_of (elem w x)) 0) (lane_or_zero w x k) p (λ a b h k. plain_typed local plain.Add (elem w x) a b h k) (zero_typed local (elem w x))
      (λ i l. or_zero_typed x k xs ks i (omega (arith, l, q)))
  scan_typed scan.Or x k xs ks p q =
      folded_typed (sized (size_of (elem w x))) (plain_expr plain.Or (elem w x)) (constant (size_of (elem w x)) 0) (lane_or_zero w x k) p (λ a b h k. plain_typed local plain.Or (elem w x) a b h k) (zero_typed local (elem w x))
      (λ i l. or_zero_typed x k xs ks i (omega (arith, l, q)))
  scan_typed scan.And x k xs ks p q =
      let all = constant (size_of (elem w x)) (2 ^ width (elem w x) - 1) in
      let h = number local (size_of (elem w x)) (2 ^ width (elem w x) - 1) in
      folded_typed (sized (size_of (elem w x))) (plain_expr plain.And (elem w x)) all (lane_or w x k all) p (λ a b h k. plain_typed local plain.And (elem w x) a b h k) h
      (λ i l. lane_or_typed x k xs ks all h i (omega (arith, l, q)))

  -- ---- memory

  pub fault_valid : (d kind q : ℕ) (p : Expr) → T p valued.I32 → C d (fault w kind q p)
  fault_valid d kind q p h = h

  pub element_typed : (from : Expr) → T from valued.I32 → (a : Register) (x : Expr) → T x valued.I64 → T (element_from w from a x) valued.I32
  element_typed from is a x h =
      two local (Of wasm.I32 Add) from (Two (Of wasm.I32 Mul) (One Wrap x) (Const32 (bytes_of (elem w a)))) refl is
      (two local (Of wasm.I32 Mul) (One Wrap x) (Const32 (bytes_of (elem w a))) refl (one local Wrap x refl h) refl)

  pub address_typed : (a : Register) → IsA a → (x : Expr) → T x valued.I64 → T (address_at w a x) valued.I32
  address_typed a is x h = element_typed (Local (w.local (Base a.number))) (local_typed (w.local (Base a.number)) valued.I32 (typed.bases a is)) a x h

  pub base_typed : (b : Bool) (a : Register) → IsA a → (p : ℕ) → T (base_if w b a p) valued.I32
  base_typed true a is p =
      two local (Of wasm.I32 Add) (Local (w.local (Base a.number))) (Const32 (p * opened_bytes w a)) refl (local_typed (w.local (Base a.number)) valued.I32 (typed.bases a is)) refl
  base_typed false a is p = local_typed (w.local (Base a.number)) valued.I32 (typed.bases a is)

  pub lane_address_typed : (a : Register) → IsA a → (p : ℕ) (x : Expr) → T x valued.I64 → T (lane_address w a p x) valued.I32
  lane_address_typed a is p x h = element_typed (base_at w a p) (base_typed (is_per_lane w.routine a) a is p) a x h

  pub there_typed : (a : Register) → IsA a → (x : Expr) → T x valued.I64 → T (is_there w a x) valued.I32
  there_typed a is x h = two local (wasm.Compare wasm.I64 LtU) x (Local (w.local (Count a.number))) refl h (local_typed (w.local (Count a.number)) valued.I64 (typed.counts a is))

  pub lane_loop_valid : (d : ℕ) (k : Register) (body : ℕ → Code) → IsM k → ((p : ℕ) → p < gang w → C (suc d) (body p)) → C d (lane_loop w k body)
  lane_loop_valid d k body ks h = each_valid d (gang w) (λ p. If (is_member w k p) (body p) Skip) (λ p q. if_valid d (is_member w k p) (body p) Skip (member_typed k ks p q) (h p q) refl)

  pub clear_valid : (d : ℕ) (b : Bool) (a k : Register) → IsA a → IsM k → C d (clear_if w b a k)
  clear_valid d false a k is ks = both (has_type local (Local (w.local (Base a.number))) valued.I32) true (local_typed (w.local (Base a.number)) valued.I32 (typed.bases a is)) refl
  clear_valid d true a k is ks =
      lane_loop_valid d k (λ p. Clear (base_at w a p) (Const32 (opened_bytes w a))) ks
      (λ p l. both (has_type local (base_at w a p) valued.I32) true (base_typed (is_per_lane w.routine a) a is p) refl)

  pub set_lane_valid : (d : ℕ) (x : Register) → IsV x → (p : ℕ) → p < gang w → (e : Expr) → V e (elem w x) → C d (set_lane w x p e)
  set_lane_valid d x xs p q e h =
      let s = shape w x in
      let l = part_low local w s p q in
      set_valid d (w.local (VectorAt x.number (p / count s))) (Two (Replace s (p % count s)) (vector_local w x (p / count s)) (as_cell (elem w x) e)) V128 (typed.vectors x xs (p / count s) l)
      (two local (Replace s (p % count s)) (vector_local w x (p / count s)) (as_cell (elem w x) e) (low local p (count s) (some_lanes s)) (vector_typed x xs (elem w x) refl (p / count s) l) (cell_typed local (elem w x) e h))

  pub loads_valid : (d : ℕ) (x a : Register) (index : ℕ → Expr) (k : Register) (q : ℕ) → IsV x → IsA a → elem w a ≡ elem w x → IsM k → ((p : ℕ) → p < gang w → T (index p) valued.I64) → C d (lane_loads w x a index k q)
  loads_valid d x a index k q xs as' same ks h =
      lane_loop_valid d k (λ p. If (is_there w a (index p)) (Then (Load (bytes_of (elem w a)) (spare w (elem w a)) (lane_address w a p (index p)) 0) (set_lane w x p (Local (spare w (elem w a))))) (fault w 1 q (Const32 p))) ks
      (λ p l. if_valid (suc d) (is_there w a (index p)) (Then (Load (bytes_of (elem w a)) (spare w (elem w a)) (lane_address w a p (index p)) 0) (set_lane w x p (Local (spare w (elem w a))))) (fault w 1 q (Const32 p)) (there_typed a as' (index p) (h p l))
      (then_valid (suc (suc d)) (Load (bytes_of (elem w a)) (spare w (elem w a)) (lane_address w a p (index p)) 0) (set_lane w x p (Local (spare w (elem w a))))
      (load_valid (suc (suc d)) (elem w a) (spare w (elem w a)) (lane_address w a p (index p)) (typed.spares (size_of (elem w a))) (lane_address_typed a as' p (index p) (h p l)))
      (set_lane_valid (suc (suc d)) x xs p l (Local (spare w (elem w a))) (subst (V (Local (spare w (elem w a)))) same (local_typed (spare w (elem w a)) (sized (size_of (elem w a))) (typed.spares (size_of (elem w a)))))))
      refl)

  pub checks_valid : (d : ℕ) (a : Register) (index : ℕ → Expr) (k : Register) (q : ℕ) → IsA a → IsM k → ((p : ℕ) → p < gang w → T (index p) valued.I64) → C d (lane_checks w a index k q)
  checks_valid d a index k q as' ks h =
      lane_loop_valid d k (λ p. If (is_there w a (index p)) Skip (fault w 1 q (Const32 p))) ks (λ p l. if_valid (suc d) (is_there w a (index p)) Skip (fault w 1 q (Const32 p)) (there_typed a as' (index p) (h p l)) refl refl)

  pub stores_valid : (d : ℕ) (a : Register) (index : ℕ → Expr) (y k : Register) → IsA a → IsV y → elem w y ≡ elem w a → IsM k → ((p : ℕ) → p < gang w → T (index p) valued.I64) → C d (lane_stores w a index y k)
  stores_valid d a index y k as' ys same ks h =
      lane_loop_valid d k (λ p. Store (bytes_of (elem w a)) (lane_address w a p (index p)) 0 (lane_at (elem w a) (vector_local w y) p)) ks
      (λ p l. store_valid (suc d) (elem w a) (lane_address w a p (index p)) (lane_at (elem w a) (vector_local w y) p) (lane_address_typed a as' p (index p) (h p l)) (lane_of y ys (elem w a) same p l))

  pub own_typed : (i : Register) → IsV i → elem w i ≡ I64 → (p : ℕ) → p < gang w → T (own_index w i p) valued.I64
  own_typed i is same p q = lane_of i is I64 same p q

  pub run_typed : (i : Register) → Is i → elem w i ≡ I64 → (p : ℕ) → p < gang w → T (run_index w i p) valued.I64
  run_typed i is same p q = two local (Of wasm.I64 Add) (scalar_local w i) (Const64 p) refl (scalar_typed i is I64 same) refl

  pub rank_typed : (k : Register) → IsM k → (n : ℕ) → n ≤ gang w → T (rank_expr w k n) valued.I64
  rank_typed k ks zero h = refl
  rank_typed k ks (suc p) h =
      two local (Of wasm.I64 Add) (rank_expr w k p) (One ExtendU (Two (BitsOf wasm.I32 And) (is_member w k p) (Const32 1))) refl (rank_typed k ks p (omega (arith, h)))
      (one local ExtendU (Two (BitsOf wasm.I32 And) (is_member w k p) (Const32 1)) refl (two local (BitsOf wasm.I32 And) (is_member w k p) (Const32 1) refl (member_typed k ks p (omega (arith, h))) refl))

  pub packed_typed : (i k : Register) → Is i → elem w i ≡ I64 → IsM k → (p : ℕ) → p < gang w → T (packed_index w i k p) valued.I64
  packed_typed i k is same ks p q = two local (Of wasm.I64 Add) (scalar_local w i) (rank_expr w k p) refl (scalar_typed i is I64 same) (rank_typed k ks p (omega (arith, q)))

  pub count_valid : (d : ℕ) (x k : Register) → Is x → elem w x ≡ I32 → IsM k → C d (set_count w x k)
  count_valid d x k is same ks = to_scalar d x is I32 same (One Wrap (rank_expr w k (gang w))) (one local Wrap (rank_expr w k (gang w)) refl (rank_typed k ks (gang w) (omega arith)))

  pub checked_valid : (d : ℕ) (a i k : Register) (q : ℕ) → IsA a → Is i → elem w i ≡ I64 → IsM k → C d (checked w a i k q)
  checked_valid d a i k q as' is same ks = if_valid d (is_there w a (scalar_local w i)) Skip (fault w 1 q (lowest_of w k)) (there_typed a as' (scalar_local w i) (scalar_typed i is I64 same)) refl (lowest_typed k ks)

  -- ---- what is written under a mask

  pub select_valid : (d : ℕ) (x k : Register) → IsV x → IsM k → C d (select_lanes w x k)
  select_valid d x k xs ks =
      let s = shape w x in
      each_valid d (parts w s) (λ j. Set (w.local (VectorAt x.number j)) (wasm.Bitselect (Local (w.local (Fresh j))) (vector_local w x j) (widened s (mask_local w k) j)))
      (λ j l. set_valid d (w.local (VectorAt x.number j)) (wasm.Bitselect (Local (w.local (Fresh j))) (vector_local w x j) (widened s (mask_local w k) j)) V128 (typed.vectors x xs j l)
      (bitselect local (Local (w.local (Fresh j))) (vector_local w x j) (widened s (mask_local w k) j) (local_typed (w.local (Fresh j)) V128 (typed.fresh j (fresh_low (gang w) s j l))) (vector_typed x xs (elem w x) refl j l)
      (widened_typed local s (mask_local w k) j (mask_part_typed k ks (source s j) (source_low (gang w) s j l)))))

  pub put_valid : (form : Form) (d : ℕ) (x k : Register) → IsV x → IsM k → C d (put_lanes w form x k)
  put_valid Kept d x k xs ks = select_valid d x k xs ks
  put_valid Useless d x k xs ks = select_valid d x k xs ks
  put_valid (KeptBy b) d x k xs ks = select_valid d x k xs ks
  put_valid (FreeBy b) d x k xs ks = select_valid d x k xs ks
  put_valid Free d x k xs ks =
      let s = shape w x in
      each_valid d (parts w s) (λ j. Set (w.local (VectorAt x.number j)) (Local (w.local (Fresh j))))
      (λ j l. set_valid d (w.local (VectorAt x.number j)) (Local (w.local (Fresh j))) V128 (typed.vectors x xs j l) (local_typed (w.local (Fresh j)) V128 (typed.fresh j (fresh_low (gang w) s j l))))

  pub lanes_valid : (form : Form) (d : ℕ) (x k : Register) (new : ℕ → Expr) → IsV x → IsM k → ((j : ℕ) → j < parts w (shape w x) → T (new j) V128) → C d (set_lanes w form x k new)
  lanes_valid form d x k new xs ks h =
      let s = shape w x in
      then_valid d (each (parts w s) (λ j. Set (w.local (Fresh j)) (new j))) (put_lanes w form x k)
      (each_valid d (parts w s) (λ j. Set (w.local (Fresh j)) (new j)) (λ j l. set_valid d (w.local (Fresh j)) (new j) V128 (typed.fresh j (fresh_low (gang w) s j l)) (h j l))) (put_valid form d x k xs ks)

  -- ---- elements in a row, all at once

  offset_low : (s : Shape) (j : ℕ) → j < parts w s → nat_lt (j * 16) (2 ^ 32) ≡ true
  offset_low s j l = lt-ltb (j * 16) (2 ^ 32) (let few = fresh_low (gang w) s j l in let le = gang_low w.code.gang in omega (arith, few, le))

  parts_valid : (d : ℕ) (a i : Register) (s : Shape) → IsA a → Is i → elem w i ≡ I64 → C d (load_parts w a i (parts w s))
  parts_valid d a i s as' is same =
      each_valid d (parts w s) (λ j. Load 16 (w.local (Fresh j)) (address_at w a (scalar_local w i)) (j * 16))
      (λ j l. both (is_type (local (w.local (Fresh j))) V128) (has_type local (address_at w a (scalar_local w i)) valued.I32 && nat_lt (j * 16) (2 ^ 32)) (local_typed (w.local (Fresh j)) V128 (typed.fresh j (fresh_low (gang w) s j l)))
      (both (has_type local (address_at w a (scalar_local w i)) valued.I32) (nat_lt (j * 16) (2 ^ 32)) (address_typed a as' (scalar_local w i) (scalar_typed i is I64 same)) (offset_low s j l)))

  pub row_loads_valid : (form : Form) (d : ℕ) (x a i k : Register) → IsV x → IsA a → Is i → elem w i ≡ I64 → IsM k → C d (load_row w form x a i k)
  row_loads_valid form d x a i k xs as' is same ks = then_valid d (load_parts w a i (parts w (shape w x))) (put_lanes w form x k) (parts_valid d a i (shape w x) as' is same) (put_valid form d x k xs ks)

  pub row_stores_valid : (d : ℕ) (a i y k : Register) → IsA a → Is i → elem w i ≡ I64 → IsV y → IsM k → C d (store_row w a i y k)
  row_stores_valid d a i y k as' is same ys ks =
      let s = shape w y in
      let new : ℕ → Expr = λ j. wasm.Bitselect (vector_local w y j) (Local (w.local (Fresh j))) (widened s (mask_local w k) j) in
      then_valid d (load_parts w a i (parts w s)) (each (parts w s) (store_part w a i y k)) (parts_valid d a i s as' is same)
      (each_valid d (parts w s) (store_part w a i y k)
      (λ j l. both (has_type local (new j) V128) (has_type local (address_at w a (scalar_local w i)) valued.I32 && nat_lt (j * 16) (2 ^ 32))
      (bitselect local (vector_local w y j) (Local (w.local (Fresh j))) (widened s (mask_local w k) j) (vector_typed y ys (elem w y) refl j l) (local_typed (w.local (Fresh j)) V128 (typed.fresh j (fresh_low (gang w) s j l)))
      (widened_typed local s (mask_local w k) j (mask_part_typed k ks (source s j) (source_low (gang w) s j l))))
      (both (has_type local (address_at w a (scalar_local w i)) valued.I32) (nat_lt (j * 16) (2 ^ 32)) (address_typed a as' (scalar_local w i) (scalar_typed i is I64 same)) (offset_low s j l))))

  run_there_typed : (a i : Register) → IsA a → Is i → elem w i ≡ I64 → T (run_is_there w a i) valued.I32
  run_there_typed a i as' is same =
      let some = some_gang w.code.gang in
      two local (BitsOf wasm.I32 And) (is_there w a (run_index w i 0)) (is_there w a (run_index w i (gang w - 1))) refl (there_typed a as' (run_index w i 0) (run_typed i is same 0 some))
      (there_typed a as' (run_index w i (gang w - 1)) (run_typed i is same (gang w - 1) (omega (arith, some))))

  pub at_once_valid : (d : ℕ) (b : Bool) (a i : Register) (row lanes : Code) → IsA a → Is i → elem w i ≡ I64 → C (suc d) row → ((d : ℕ) → C d lanes) → C d (all_at_once w b (run_is_there w a i) row lanes)
  at_once_valid d true a i row lanes as' is same h k = if_valid d (run_is_there w a i) row lanes (run_there_typed a i as' is same) h (k (suc d))
  at_once_valid d false a i row lanes as' is same h k = k d

  pub widened_bools : (t : Register) → IsV t → elem w t ≡ Truth → (s : Shape) (j : ℕ) → j < parts w s → T (widened s (vector_local w t) j) V128
  widened_bools t ts same s j l = widened_typed local s (vector_local w t) j (vector_typed t ts Truth same (source s j) (source_low (gang w) s j l))

  pub mask_valid : (d : ℕ) (x : Register) (new : ℕ → Expr) → IsM x → ((j : ℕ) → j < parts w I8x16 → T (new j) V128) → C d (set_mask w x new)
  mask_valid d x new xs h =
      then_valid d (each (parts w I8x16) (λ j. Set (w.local (Fresh j)) (new j))) (each (parts w I8x16) (λ j. Set (w.local (MaskAt x.number j)) (Local (w.local (Fresh j)))))
      (each_valid d (parts w I8x16) (λ j. Set (w.local (Fresh j)) (new j)) (λ j l. set_valid d (w.local (Fresh j)) (new j) V128 (typed.fresh j (fresh_low (gang w) I8x16 j l)) (h j l)))
      (each_valid d (parts w I8x16) (λ j. Set (w.local (MaskAt x.number j)) (Local (w.local (Fresh j))))
      (λ j l. set_valid d (w.local (MaskAt x.number j)) (Local (w.local (Fresh j))) V128 (typed.masks x xs j (few_parts (gang w) j (gang_low w.code.gang) l)) (local_typed (w.local (Fresh j)) V128 (typed.fresh j (fresh_low (gang w) I8x16 j l)))))

  -- ---- quotients

  sign_typed : (o : Division) (t : Elem) (x y : Expr) → V x t → V y t → T (turns_sign w o t x y) valued.I32
  sign_typed division.Div t x y h k =
      two local (wasm.Compare wasm.I32 Ne) (below t x (constant (size_of t) 0)) (below t y (constant (size_of t) 0)) refl (below_typed local t x (constant (size_of t) 0) h (zero_typed local t))
      (below_typed local t y (constant (size_of t) 0) k (zero_typed local t))
  sign_typed division.Rem t x y h k = below_typed local t x (constant (size_of t) 0) h (zero_typed local t)

  pub quotient_valid : (d : ℕ) (o : Division) (t : Elem) (x y : Expr) (put : Expr → Code) (q : ℕ) (p : Expr) → V x t → V y t → T p valued.I32 → ((e : Expr) → V e t → C (suc d) (put e)) → C d (quotient_to w o t x y put q p)
  quotient_valid d o t x y put q p h k l putting =
      let s = size_of t in
      let at = typed.spares s in
      let got = Local (w.local (Spare s 0)) in
      let g = local_typed (w.local (Spare s 0)) (sized s) at in
      let answer = Select (turns_sign w o t x y) (whole_expr t Sub (constant s 0) got) got in
      let division = Divide s (division_of w o) (w.local (Spare s 0)) (magnitude_expr w t x) (magnitude_expr w t y) in
      if_valid d (One (Eqz s) y) (fault w 0 q p) (Then division (put answer)) (one local (Eqz s) y refl k) l
      (then_valid (suc d) division (put answer)
      (both (has_type local got (sized s)) (has_type local (magnitude_expr w t x) (sized s) && has_type local (magnitude_expr w t y) (sized s)) g
      (both (has_type local (magnitude_expr w t x) (sized s)) (has_type local (magnitude_expr w t y) (sized s)) (magnitude_typed local t x h) (magnitude_typed local t y k)))
      (putting answer (select local (turns_sign w o t x y) (whole_expr t Sub (constant s 0) got) got (sized s) (sign_typed o t x y h k) (negated local t got g) g)))

  -- ---- jumps

  pub label : (r : Option ValueType) (d k : ℕ) → k < d → is_label local r d k ≡ true
  label None d k h = lt-ltb k (suc d) (omega (arith, h))
  label (Some t) d k h = lt-ltb k d h

  pub jump_valid : (d k to : ℕ) → k < d → C d (jump_to w k to)
  jump_valid d k to h =
      then_valid d (Set (w.local Counter) (Const32 (w.rung_at to))) (Br k) (set_valid d (w.local Counter) (Const32 (w.rung_at to)) valued.I32 typed.counter refl) (label result d k h)

  -- ---- instructions whose operands are as the table asks

  abbrev pub Fine : List Operand → Type 0
  Fine os = AllFine w.code w.routine os

  unary_is : (o : UnaryOp) (t : Elem) → IsWanted w.routine (unary_want o) t → IsUnary o t
  unary_is unary.Not t h = h
  unary_is unary.Negate t h = integer t h
  unary_is unary.Invert t h = integer t h
  unary_is unary.Absolute t h = integer t h

  -- one that is worked out by an expression
  abbrev pub IsFolded : Reduction → Type 0
  IsFolded reduction.Min = ⊥
  IsFolded reduction.Max = ⊥
  IsFolded r = Unit {0}

  reduce_typed : (r : Reduction) (x k : Register) → IsV x → IsM k → (t : Elem) → IsReduction w r (elem w x) t → IsFolded r → V (reduce_expr w r x k) t
  reduce_typed reduction.Min x k xs ks t is folds = absurd folds
  reduce_typed reduction.Max x k xs ks t is folds = absurd folds
  reduce_typed reduction.Add x k xs ks t is folds =
      let u = sum_type (elem w x) in
      let term = λ (p : ℕ). Select (is_member w k p) (convert_expr (elem w x) u (lane_at (elem w x) (vector_local w x) p)) (constant (size_of u) 0) in
      subst (V (reduce_expr w reduction.Add x k)) (sym is.1)
      (folded_typed (sized (size_of u)) (whole_expr u Add) (constant (size_of u) 0) term (gang w) (λ a b h k. whole_typed local u Add a b h k) (zero_typed local u)
      (λ p q. select local (is_member w k p) (convert_expr (elem w x) u (lane_at (elem w x) (vector_local w x) p)) (constant (size_of u) 0) (sized (size_of u)) (member_typed k ks p q)
      (convert_typed local (elem w x) u (lane_at (elem w x) (vector_local w x) p) (lane_of x xs (elem w x) refl p q)) (zero_typed local u)))
  reduce_typed reduction.Equal x k xs ks t is folds =
      let s = size_of (elem w x) in
      let first = first_value w x k (gang w) 0 in
      let term = λ (p : ℕ). Select (is_member w k p) (Two (wasm.Compare s Eq) (lane_at (elem w x) (vector_local w x) p) first) (Const32 1) in
      subst (V (reduce_expr w reduction.Equal x k)) (sym is.1)
      (folded_typed valued.I32 (Two (BitsOf wasm.I32 And)) (Const32 1) term (gang w) (λ a b h k. two local (BitsOf wasm.I32 And) a b refl h k) refl
      (λ p q. select local (is_member w k p) (Two (wasm.Compare s Eq) (lane_at (elem w x) (vector_local w x) p) first) (Const32 1) valued.I32 (member_typed k ks p q)
      (two local (wasm.Compare s Eq) (lane_at (elem w x) (vector_local w x) p) first refl (lane_of x xs (elem w x) refl p q) (first_typed x k xs ks (gang w) 0 (omega arith))) refl))
  reduce_typed reduction.Any x k xs ks t is folds =
      subst (V (reduce_expr w reduction.Any x k)) (sym is.1)
      (folded_typed valued.I32 (Two (BitsOf wasm.I32 Or)) (Const32 0) (lane_or w x k (Const32 0)) (gang w) (λ a b h k. two local (BitsOf wasm.I32 Or) a b refl h k) refl
      (λ p q. subst (V (lane_or w x k (Const32 0) p)) is.0 (lane_or_typed x k xs ks (Const32 0) (subst (V (Const32 0)) (sym is.0) refl) p q)))
  reduce_typed reduction.All x k xs ks t is folds =
      subst (V (reduce_expr w reduction.All x k)) (sym is.1)
      (folded_typed valued.I32 (Two (BitsOf wasm.I32 And)) (Const32 1) (lane_or w x k (Const32 1)) (gang w) (λ a b h k. two local (BitsOf wasm.I32 And) a b refl h k) refl
      (λ p q. subst (V (lane_or w x k (Const32 1) p)) is.0 (lane_or_typed x k xs ks (Const32 1) (subst (V (Const32 1)) (sym is.0) refl) p q)))

  -- the least or the greatest
  best_valid : (n : ℕ) (d x k : Register) (better : Expr → Expr → Expr) → Is d → IsV x → elem w x ≡ elem w d → IsM k → ((a b : Expr) → V a (elem w x) → V b (elem w x) → V (better a b) (elem w x)) → C n (best_of w d better x k)
  best_valid n d x k better ds xs same_elem ks step =
      let t = elem w x in
      let s = size_of t in
      let best = Local (w.local (Spare s 0)) in
      let some = Local (w.local (Spare wasm.I32 1)) in
      let b = local_typed (w.local (Spare s 0)) (sized s) (typed.spares s) in
      let m = local_typed (w.local (Spare wasm.I32 1)) valued.I32 typed.seen in
      let last = Set (w.local (ScalarAt d.number)) best in
      then_valid n (Set (w.local (Spare s 0)) (constant s 0)) (Then (Set (w.local (Spare wasm.I32 1)) (Const32 0)) (Then (each (gang w) (best_step w t better x k)) last))
      (set_valid n (w.local (Spare s 0)) (constant s 0) (sized s) (typed.spares s) (zero_typed local t))
      (then_valid n (Set (w.local (Spare wasm.I32 1)) (Const32 0)) (Then (each (gang w) (best_step w t better x k)) last) (set_valid n (w.local (Spare wasm.I32 1)) (Const32 0) valued.I32 typed.seen refl)
      (then_valid n (each (gang w) (best_step w t better x k)) last
      (each_valid n (gang w) (best_step w t better x k)
      (λ p q. (let here = lane_at t (vector_local w x) p in
      let h = lane_of x xs t refl p q in
      let member = member_typed k ks p q in
      then_valid n (Set (w.local (Spare s 0)) (Select (is_member w k p) (Select some (better best here) here) best)) (Set (w.local (Spare wasm.I32 1)) (Two (BitsOf wasm.I32 Or) some (is_member w k p)))
      (set_valid n (w.local (Spare s 0)) (Select (is_member w k p) (Select some (better best here) here) best) (sized s) (typed.spares s)
      (select local (is_member w k p) (Select some (better best here) here) best (sized s) member (select local some (better best here) here (sized s) m (step best here b h) h) b))
      (set_valid n (w.local (Spare wasm.I32 1)) (Two (BitsOf wasm.I32 Or) some (is_member w k p)) valued.I32 typed.seen (two local (BitsOf wasm.I32 Or) some (is_member w k p) refl m member)))))
      (to_scalar n d ds (elem w d) refl best (subst (V best) same_elem b))))

  scalars_valid : (n : ℕ) (d : Register) (i : ScalarInstr) → Fine (scalar_operands d i) → C n (scalar_code w d i)
  scalars_valid n d (scalar.Constant z) f = to_scalar n d ((f.0).0) (elem w d) refl (constant (size_of (elem w d)) (wrap (elem w d) z)) (number local (size_of (elem w d)) (wrap (elem w d) z))
  scalars_valid n d (scalar.Copy x) f = to_scalar n d ((f.0).0) (elem w d) refl (scalar_local w x) (scalar_typed x ((f.1).0).0 (elem w d) ((f.1).0).1)
  scalars_valid n d (scalar.Convert x) f =
      to_scalar n d ((f.0).0) (elem w d) refl (convert_expr (elem w x) (elem w d) (scalar_local w x)) (convert_typed local (elem w x) (elem w d) (scalar_local w x) (scalar_typed x ((f.1).0).0 (elem w x) refl))
  scalars_valid n d (scalar.Unary o x) f =
      to_scalar n d ((f.0).0) (elem w d) refl (unary_expr o (elem w d) (scalar_local w x)) (unary_typed local o (elem w d) (scalar_local w x) (unary_is o (elem w d) (f.0).1) (scalar_typed x ((f.1).0).0 (elem w d) ((f.1).0).1))
  scalars_valid n d (scalar.Binary o x y) f =
      to_scalar n d ((f.0).0) (elem w d) refl (plain_expr o (elem w d) (scalar_local w x) (scalar_local w y))
      (plain_typed local o (elem w d) (scalar_local w x) (scalar_local w y) (scalar_typed x ((f.1).0).0 (elem w d) ((f.1).0).1) (scalar_typed y (((f.1).1).0).0 (elem w d) (((f.1).1).0).1))
  scalars_valid n d (scalar.Compare o x y) f =
      to_scalar n d ((f.0).0) Truth (f.0).1 (compare_expr o (elem w x) (scalar_local w x) (scalar_local w y))
      (compare_typed local o (elem w x) (scalar_local w x) (scalar_local w y) (scalar_typed x ((f.1).0).0 (elem w x) refl) (scalar_typed y (((f.1).1).0).0 (elem w x) (((f.1).1).0).1))
  scalars_valid n d (scalar.Select t x y) f =
      to_scalar n d ((f.0).0) (elem w d) refl (Select (scalar_local w t) (scalar_local w x) (scalar_local w y))
      (select local (scalar_local w t) (scalar_local w x) (scalar_local w y) (sized (size_of (elem w d))) (scalar_typed t ((f.1).0).0 Truth ((f.1).0).1)
      (scalar_typed x (((f.1).1).0).0 (elem w d) (((f.1).1).0).1) (scalar_typed y ((((f.1).1).1).0).0 (elem w d) ((((f.1).1).1).0).1))
  scalars_valid n d (scalar.First k) f = to_scalar n d ((f.0).0) I64 (f.0).1 (One ExtendU (lowest_of w k)) (one local ExtendU (lowest_of w k) refl (lowest_typed k (f.1).0))
  scalars_valid n d (scalar.Load a i k q) f =
      let same_elem = ((f.1).0).2 in
      then_valid n (checked w a i k q) (Load (bytes_of (elem w a)) (w.local (ScalarAt d.number)) (address_at w a (scalar_local w i)) 0)
      (checked_valid n a i k q ((f.1).0).0 (((f.1).1).0).0 (((f.1).1).0).1 (((f.1).1).1).0)
      (load_valid n (elem w a) (w.local (ScalarAt d.number)) (address_at w a (scalar_local w i)) (scalar_at d ((f.0).0) (elem w a) (sym same_elem)) (address_typed a ((f.1).0).0 (scalar_local w i) (scalar_typed i (((f.1).1).0).0 I64 (((f.1).1).0).1)))
  scalars_valid n d (scalar.Reduce reduction.Add x k) f =
      to_scalar n d ((f.0).0) (elem w d) refl (reduce_expr w reduction.Add x k) (reduce_typed reduction.Add x k ((f.1).0).0 ((f.1).1).0 (elem w d) (integer (elem w x) (((f.1).0).1).0, sym (((f.1).0).1).1) tt)
  scalars_valid n d (scalar.Reduce reduction.Equal x k) f =
      to_scalar n d ((f.0).0) (elem w d) refl (reduce_expr w reduction.Equal x k) (reduce_typed reduction.Equal x k ((f.1).0).0 ((f.1).1).0 (elem w d) (integer (elem w x) ((f.1).0).1, (f.0).1) tt)
  scalars_valid n d (scalar.Reduce reduction.Any x k) f =
      to_scalar n d ((f.0).0) (elem w d) refl (reduce_expr w reduction.Any x k) (reduce_typed reduction.Any x k ((f.1).0).0 ((f.1).1).0 (elem w d) (((f.1).0).1, (f.0).1) tt)
  scalars_valid n d (scalar.Reduce reduction.All x k) f =
      to_scalar n d ((f.0).0) (elem w d) refl (reduce_expr w reduction.All x k) (reduce_typed reduction.All x k ((f.1).0).0 ((f.1).1).0 (elem w d) (((f.1).0).1, (f.0).1) tt)
  scalars_valid n d (scalar.Reduce reduction.Min x k) f =
      best_valid n d x k (plain_expr plain.Min (elem w x)) ((f.0).0) ((f.1).0).0 ((f.1).0).1 ((f.1).1).0 (λ a b h k. plain_typed local plain.Min (elem w x) a b h k)
  scalars_valid n d (scalar.Reduce reduction.Max x k) f =
      best_valid n d x k (plain_expr plain.Max (elem w x)) ((f.0).0) ((f.1).0).0 ((f.1).0).1 ((f.1).1).0 (λ a b h k. plain_typed local plain.Max (elem w x) a b h k)
  scalars_valid n d (scalar.Extract x i k) f =
      to_scalar n d ((f.0).0) (elem w d) refl (picked w (size_of (elem w x)) (modulo w (gang w) (scalar_local w i)) (lane_or_zero w x k) (gang w))
      (subst (V (picked w (size_of (elem w x)) (modulo w (gang w) (scalar_local w i)) (lane_or_zero w x k) (gang w))) ((f.1).0).1
      (picked_typed (size_of (elem w x)) (modulo w (gang w) (scalar_local w i)) (lane_or_zero w x k) (gang w)
      (modulo_typed (gang w) (scalar_local w i) (scalar_typed i (((f.1).1).0).0 I32 (((f.1).1).0).1)) (or_zero_typed x k ((f.1).0).0 (((f.1).1).1).0)))

  -- ---- vectors

  -- a vector of the type of another one
  like : (x d : Register) → IsV x → elem w x ≡ elem w d → (j : ℕ) → j < parts w (shape w d) → T (vector_local w x j) V128
  like x d xs e j l = vector_typed x xs (elem w d) e j l

  by_lanes : (d x : Register) → elem w x ≡ elem w d → (f : ℕ → Expr) → ((p : ℕ) → p < gang w → V (f p) (elem w x)) → (j : ℕ) → T (by_lane w (elem w d) f j) V128
  by_lanes d x e f h j = by_lane_typed local w (elem w d) f (λ p q. subst (V (f p)) e (h p q)) j

  row_valid : (form : Form) (n : ℕ) (d : Register) (i : VectorInstr) → IsV d → IsM (mask_under i) → ((j : ℕ) → j < parts w (shape w d) → T (vector_of w d i j) V128) → C n (set_lanes w form d (mask_under i) (vector_of w d i))
  row_valid form n d i ds ks h = lanes_valid form n d (mask_under i) (vector_of w d i) ds ks h

  plains_valid : (form : Form) (n : ℕ) (d : Register) (o : Plain) (x y k : Register) → Fine (vector_operands d (vector.Binary o x y k)) → C n (set_lanes w form d k (vector_of w d (vector.Binary o x y k)))
  plains_valid form n d o x y k f =
      row_valid form n d (vector.Binary o x y k) (f.0).0 (((f.1).1).1).0
      (λ j l. plain_row_typed local w o (elem w d) (vector_local w x) (vector_local w y) (integer (elem w d) (f.0).1) (like x d ((f.1).0).0 ((f.1).0).1) (like y d (((f.1).1).0).0 (((f.1).1).0).1) j l)

  shifts_valid : (form : Form) (b n : ℕ) (d : Register) (o : Plain) (x y k : Register) → Fine (vector_operands d (vector.Binary o x y k)) → C n (set_lanes w form d k (shift_row o (elem w d) (vector_local w x) b))
  shifts_valid form b n d o x y k f =
      lanes_valid form n d k (shift_row o (elem w d) (vector_local w x) b) (f.0).0 (((f.1).1).1).0
      (λ j l. shift_row_typed local o (elem w d) (vector_local w x) b j (like x d ((f.1).0).0 ((f.1).0).1 j l))

  knowns_valid : (form : Form) (b n : ℕ) (d : Register) (o : Plain) (x y k : Register) → Fine (vector_operands d (vector.Binary o x y k)) → C n (known_code w form b d o x y k)
  knowns_valid form b n d plain.Shl x y k f = shifts_valid form b n d plain.Shl x y k f
  knowns_valid form b n d plain.Shr x y k f = shifts_valid form b n d plain.Shr x y k f
  knowns_valid form b n d o x y k f = plains_valid Kept n d o x y k f

  binaries_valid : (form : Form) (n : ℕ) (d : Register) (o : Plain) (x y k : Register) → Fine (vector_operands d (vector.Binary o x y k)) → C n (vector_code w form d (vector.Binary o x y k))
  binaries_valid Kept n d o x y k f = plains_valid Kept n d o x y k f
  binaries_valid Free n d o x y k f = plains_valid Free n d o x y k f
  binaries_valid Useless n d o x y k f = plains_valid Useless n d o x y k f
  binaries_valid (KeptBy b) n d o x y k f = knowns_valid Kept b n d o x y k f
  binaries_valid (FreeBy b) n d o x y k f = knowns_valid Free b n d o x y k f

  vectors_valid : (form : Form) (n : ℕ) (d : Register) (i : VectorInstr) → Fine (vector_operands d i) → C n (vector_code w form d i)
  vectors_valid form n d (vector.Copy x k) f = row_valid form n d (vector.Copy x k) (f.0).0 ((f.1).1).0 (λ j l. like x d ((f.1).0).0 ((f.1).0).1 j l)
  vectors_valid form n d (vector.Convert x k) f =
      row_valid form n d (vector.Convert x k) (f.0).0 ((f.1).1).0 (λ j l. convert_row_typed local w (elem w x) (elem w d) (vector_local w x) (like x x ((f.1).0).0 refl) j)
  vectors_valid form n d (vector.Unary o x k) f =
      row_valid form n d (vector.Unary o x k) (f.0).0 ((f.1).1).0 (λ j l. unary_row_typed local o (elem w d) (vector_local w x) j (like x d ((f.1).0).0 ((f.1).0).1 j l))
  vectors_valid form n d (vector.Binary o x y k) f = binaries_valid form n d o x y k f
  vectors_valid form n d (vector.Compare o x y k) f =
      row_valid form n d (vector.Compare o x y k) (f.0).0 (((f.1).1).1).0
      (λ j l. narrowed_typed local (shape w x) (present w (shape w x) (compare_row o (elem w x) (vector_local w x) (vector_local w y))) j
      (present_typed local w (shape w x) (compare_row o (elem w x) (vector_local w x) (vector_local w y))
      (λ i m. compare_row_typed local o (elem w x) (vector_local w x) (vector_local w y) i (like x x ((f.1).0).0 refl i m) (like y x (((f.1).1).0).0 (((f.1).1).0).1 i m))))
  vectors_valid form n d (vector.Select t x y k) f =
      row_valid form n d (vector.Select t x y k) (f.0).0 ((((f.1).1).1).1).0
      (λ j l. bitselect local (vector_local w x j) (vector_local w y j) (widened (shape w d) (vector_local w t) j) (like x d (((f.1).1).0).0 (((f.1).1).0).1 j l) (like y d ((((f.1).1).1).0).0 ((((f.1).1).1).0).1 j l)
      (widened_bools t ((f.1).0).0 ((f.1).0).1 (shape w d) j l))
  vectors_valid form n d (vector.Splat x k) f =
      row_valid form n d (vector.Splat x k) (f.0).0 ((f.1).1).0
      (λ j l. one local (Splat (shape w d)) (as_cell (elem w d) (scalar_local w x)) refl (cell_typed local (elem w d) (scalar_local w x) (scalar_typed x ((f.1).0).0 (elem w d) ((f.1).0).1)))
  vectors_valid form n d (vector.Index k) f = row_valid form n d (vector.Index k) (f.0).0 (f.1).0 (λ j l. refl)
  vectors_valid form n d (vector.Scan o x k) f =
      row_valid form n d (vector.Scan o x k) (f.0).0 ((f.1).1).0 (λ j l. by_lanes d x ((f.1).0).1 (scan_expr w o x k) (scan_typed o x k ((f.1).0).0 ((f.1).1).0) j)
  vectors_valid form n d (vector.Exchange e x i k) f =
      row_valid form n d (vector.Exchange e x i k) (f.0).0 (((f.1).1).1).0
      (λ j l. by_lanes d x ((f.1).0).1 (exchange_expr w e x i k) (λ p q. exchange_typed e x i k ((f.1).0).0 (((f.1).1).0).0 (((f.1).1).0).1 (((f.1).1).1).0 p) j)
  vectors_valid form n d (vector.Shuffle x i k) f =
      row_valid form n d (vector.Shuffle x i k) (f.0).0 (((f.1).1).1).0
      (λ j l. by_lanes d x ((f.1).0).1 (λ p. picked w (size_of (elem w x)) (modulo w (gang w) (lane_or_zero w i k p)) (lane_or_zero w x k) (gang w))
      (λ p q. picked_typed (size_of (elem w x)) (modulo w (gang w) (lane_or_zero w i k p)) (lane_or_zero w x k) (gang w)
      (modulo_typed (gang w) (lane_or_zero w i k p) (subst (V (lane_or_zero w i k p)) (((f.1).1).0).1 (or_zero_typed i k (((f.1).1).0).0 (((f.1).1).1).0 p q)))
      (or_zero_typed x k ((f.1).0).0 (((f.1).1).1).0)) j)
  vectors_valid form n d (vector.ShuffleTwo x y i k) f =
      let ks = ((((f.1).1).1).1).0 in
      let is = (((f.1).1).1).0 in
      row_valid form n d (vector.ShuffleTwo x y i k) (f.0).0 ks
      (λ j l. by_lanes d x ((f.1).0).1 (λ p. picked w (size_of (elem w x)) (modulo w (2 * gang w) (lane_or_zero w i k p)) (of_both w x y k) (2 * gang w))
      (λ p q. picked_typed (size_of (elem w x)) (modulo w (2 * gang w) (lane_or_zero w i k p)) (of_both w x y k) (2 * gang w)
      (modulo_typed (2 * gang w) (lane_or_zero w i k p) (subst (V (lane_or_zero w i k p)) is.1 (or_zero_typed i k is.0 ks p q)))
      (of_both_typed x y k ((f.1).0).0 (((f.1).1).0).0 ((((f.1).1).0).1 ∙ sym ((f.1).0).1) ks)) j)
  vectors_valid form n d (vector.Insert x i y k) f =
      let ks = ((((f.1).1).1).1).0 in
      let ys = (((f.1).1).1).0 in
      row_valid form n d (vector.Insert x i y k) (f.0).0 ks
      (λ j l. by_lanes d x ((f.1).0).1 (λ p. Select (Two (wasm.Compare wasm.I32 Eq) (modulo w (gang w) (scalar_local w i)) (Const32 p)) (scalar_local w y) (lane_or_zero w x k p))
      (λ p q. select local (Two (wasm.Compare wasm.I32 Eq) (modulo w (gang w) (scalar_local w i)) (Const32 p)) (scalar_local w y) (lane_or_zero w x k p) (sized (size_of (elem w x)))
      (two local (wasm.Compare wasm.I32 Eq) (modulo w (gang w) (scalar_local w i)) (Const32 p) refl (modulo_typed (gang w) (scalar_local w i) (scalar_typed i (((f.1).1).0).0 I32 (((f.1).1).0).1)) refl)
      (scalar_typed y ys.0 (elem w x) (ys.1 ∙ sym ((f.1).0).1)) (or_zero_typed x k ((f.1).0).0 ks p q)) j)
  vectors_valid form n d (vector.Gather a i k q) f =
      loads_valid n d a (own_index w i) k q (f.0).0 ((f.1).0).0 ((f.1).0).2 (((f.1).1).1).0 (own_typed i (((f.1).1).0).0 (((f.1).1).0).1)
  vectors_valid form n d (vector.LoadRun a i k q) f =
      let xs = (f.0).0 in
      let as' = ((f.1).0).0 in
      let is = ((f.1).1).0 in
      let ks = (((f.1).1).1).0 in
      at_once_valid n (fills_parts w (elem w d)) a i (load_row w form d a i k) (lane_loads w d a (run_index w i) k q) as' is.0 is.1 (row_loads_valid form (suc n) d a i k xs as' is.0 is.1 ks)
      (λ n. loads_valid n d a (run_index w i) k q xs as' ((f.1).0).2 ks (run_typed i is.0 is.1))

  -- where nothing is done
  left_out_valid : (b : Bool) (n : ℕ) (d : Register) (i : VectorInstr) → Fine (vector_operands d i) → C n (if b then Skip else vector_code w Kept d i)
  left_out_valid true n d i f = refl
  left_out_valid false n d i f = vectors_valid Kept n d i f

  vector_line_valid : (form : Form) (n : ℕ) (d : Register) (i : VectorInstr) → Fine (vector_operands d i) → C n (vector_line w form d i)
  vector_line_valid Kept n d i f = vectors_valid Kept n d i f
  vector_line_valid Free n d i f = vectors_valid Free n d i f
  vector_line_valid (KeptBy b) n d i f = vectors_valid (KeptBy b) n d i f
  vector_line_valid (FreeBy b) n d i f = vectors_valid (FreeBy b) n d i f
  vector_line_valid Useless n d i f = left_out_valid (is_pure i) n d i f

  -- ---- masks

  bits_of_masks : (o : MaskOp) (x y : ℕ → Expr) (j : ℕ) → T (x j) V128 → T (y j) V128 → T (mask_bits w o x y j) V128
  bits_of_masks mask_op.And x y j h k = two local (Bits And) (x j) (y j) refl h k
  bits_of_masks mask_op.Or x y j h k = two local (Bits Or) (x j) (y j) refl h k
  bits_of_masks mask_op.AndNot x y j h k = two local (Bits And) (x j) (Two (Bits Xor) (y j) ones) refl h (two local (Bits Xor) (y j) ones refl k refl)

  range_typed : (x y : Register) → Is x → elem w x ≡ I64 → Is y → elem w y ≡ I64 → T (range_count w x y) valued.I64
  range_typed x y xs e ys g =
      let a = scalar_local w x in
      let b = scalar_local w y in
      let h = scalar_typed x xs I64 e in
      let k = scalar_typed y ys I64 g in
      let n = Two (Of wasm.I64 Sub) b a in
      let m = two local (Of wasm.I64 Sub) b a refl k h in
      select local (Two (wasm.Compare wasm.I64 LtS) a b) (Select (Two (wasm.Compare wasm.I64 LtU) n (Const64 (gang w))) n (Const64 (gang w))) (Const64 0) valued.I64 (two local (wasm.Compare wasm.I64 LtS) a b refl h k)
      (select local (Two (wasm.Compare wasm.I64 LtU) n (Const64 (gang w))) n (Const64 (gang w)) valued.I64 (two local (wasm.Compare wasm.I64 LtU) n (Const64 (gang w)) refl m refl) m refl) refl

  masks_valid : (n : ℕ) (d : Register) (i : MaskInstr) → Fine (mask_operands d i) → C n (set_mask w d (mask_of w i))
  masks_valid n d (mask.Copy x) f = mask_valid n d (mask_of w (mask.Copy x)) f.0 (mask_part_typed x (f.1).0)
  masks_valid n d (mask.Binary o x y) f =
      mask_valid n d (mask_of w (mask.Binary o x y)) f.0 (λ j l. bits_of_masks o (mask_local w x) (mask_local w y) j (mask_part_typed x (f.1).0 j l) (mask_part_typed y ((f.1).1).0 j l))
  masks_valid n d mask.Full f = mask_valid n d (mask_of w mask.Full) f.0 (λ j l. refl)
  masks_valid n d mask.Off f = mask_valid n d (mask_of w mask.Off) f.0 (λ j l. refl)
  masks_valid n d (mask.Test x y) f =
      mask_valid n d (mask_of w (mask.Test x y)) f.0 (λ j l. two local (Bits And) (vector_local w x j) (mask_local w y j) refl (vector_typed x ((f.1).0).0 Truth ((f.1).0).1 j l) (mask_part_typed y ((f.1).1).0 j l))
  masks_valid n d (mask.Lowest x) f =
      mask_valid n d (mask_of w (mask.Lowest x)) f.0
      (λ j l. two local (Bits And) (Two (CompareLanes I8x16 Eq) (Const128 (numbers_part w j)) (One (Splat I8x16) (lowest_of w x))) (mask_local w x j) refl
      (two local (CompareLanes I8x16 Eq) (Const128 (numbers_part w j)) (One (Splat I8x16) (lowest_of w x)) refl refl (one local (Splat I8x16) (lowest_of w x) refl (lowest_typed x (f.1).0))) (mask_part_typed x (f.1).0 j l))
  masks_valid n d (mask.Range x y) f =
      mask_valid n d (mask_of w (mask.Range x y)) f.0
      (λ j l. two local (CompareLanes I8x16 LtS) (Const128 (numbers_part w j)) (One (Splat I8x16) (One Wrap (range_count w x y))) refl refl
      (one local (Splat I8x16) (One Wrap (range_count w x y)) refl (one local Wrap (range_count w x y) refl (range_typed x y ((f.1).0).0 ((f.1).0).1 (((f.1).1).0).0 (((f.1).1).0).1))))

  -- ---- all

  quotients_valid : (n : ℕ) (a : Class) (o : Division) (d x y k : Register) (q : ℕ) → d.class ≡ a
      → Fine (divided a d Integer ∷ divided a x (Like d) ∷ divided a y (Like d) ∷ MaskOperand k ∷ PlaceOperand q ∷ []) → C n (quotients w a o d x y k q)
  quotients_valid n class.Scalar o d x y k q e f =
      quotient_valid n o (elem w d) (scalar_local w x) (scalar_local w y) (Set (w.local (ScalarAt d.number))) q (lowest_of w k) (scalar_typed x ((f.1).0).0 (elem w d) ((f.1).0).1) (scalar_typed y (((f.1).1).0).0 (elem w d) (((f.1).1).0).1)
      (lowest_typed k (((f.1).1).1).0) (λ e h. to_scalar (suc n) d (f.0).0 (elem w d) refl e h)
  quotients_valid n class.Vector o d x y k q e f =
      lane_loop_valid n k (λ p. quotient_to w o (elem w d) (lane_at (elem w d) (vector_local w x) p) (lane_at (elem w d) (vector_local w y) p) (set_lane w d p) q (Const32 p)) (((f.1).1).1).0
      (λ p l. quotient_valid (suc n) o (elem w d) (lane_at (elem w d) (vector_local w x) p) (lane_at (elem w d) (vector_local w y) p) (set_lane w d p) q (Const32 p)
      (lane_of x ((f.1).0).0 (elem w d) ((f.1).0).1 p l) (lane_of y (((f.1).1).0).0 (elem w d) (((f.1).1).0).1 p l) refl (λ e h. set_lane_valid (suc (suc n)) d (f.0).0 p l e h))
  quotients_valid n class.Mask o d x y k q e f = absurd (let other : class.Mask ≡ class.Scalar = sym e ∙ ((f.0).0).0 in cc)
  quotients_valid n class.Array o d x y k q e f = absurd (let other : class.Array ≡ class.Scalar = sym e ∙ ((f.0).0).0 in cc)

  jump_if : (n k to : ℕ) (c : Expr) → k < n → T c valued.I32 → C n (If c (jump_to w (suc k) to) Skip)
  jump_if n k to c h typed_c = if_valid n c (jump_to w (suc k) to) Skip typed_c (jump_valid (suc n) (suc k) to (omega (arith, h))) refl

  -- what a function gives back
  abbrev pub Gives : Returns → Type 0
  Gives Nothing = result ≡ None
  Gives (GivesScalar t) = result ≡ Some (sized (size_of t))
  Gives (GivesVector t) = result ≡ None

  -- what the host writes
  print_valid : (n : ℕ) (t : Elem) (e : Expr) → V e t → C n (print_value w t e)
  print_valid n Truth e h = h
  print_valid n I8 e h = convert_typed local I8 I64 e h
  print_valid n I16 e h = convert_typed local I16 I64 e h
  print_valid n I32 e h = convert_typed local I32 I64 e h
  print_valid n I64 e h = convert_typed local I64 I64 e h
  print_valid n U8 e h = convert_typed local U8 U64 e h
  print_valid n U16 e h = convert_typed local U16 U64 e h
  print_valid n U32 e h = convert_typed local U32 U64 e h
  print_valid n U64 e h = convert_typed local U64 U64 e h

  comma_valid : (n p : ℕ) → C n (print_comma w p)
  comma_valid n zero = refl
  comma_valid n (suc p) = refl

  list_valid : (n : ℕ) (x k : Register) → IsV x → IsM k → C n (print_list w x k)
  list_valid n x k xs ks =
      then_valid n (print_byte w 91) (Then (each (gang w) (print_item w x k)) (print_byte w 93)) refl
      (then_valid n (each (gang w) (print_item w x k)) (print_byte w 93)
      (each_valid n (gang w) (print_item w x k)
      (λ p l. then_valid n (print_comma w p) (If (is_member w k p) (print_value w (elem w x) (lane_at (elem w x) (vector_local w x) p)) (print_byte w 95)) (comma_valid n p)
      (if_valid n (is_member w k p) (print_value w (elem w x) (lane_at (elem w x) (vector_local w x) p)) (print_byte w 95) (member_typed k ks p l)
      (print_valid (suc n) (elem w x) (lane_at (elem w x) (vector_local w x) p) (lane_of x xs (elem w x) refl p l)) refl)))
      refl)

  scalar_back : (t : Elem) (a : Class) (x : ℕ) → result ≡ Some (sized (size_of t)) → IsThere w.routine class.Scalar (record { class = a; number = x }) → elem w (record { class = a; number = x }) ≡ t → (n : ℕ)
      → C n (return_code w a (record { class = a; number = x }))
  scalar_back t class.Scalar x e is same n = ap (λ r. gives local r (Some (scalar_local w (record { class = class.Scalar; number = x })))) e ∙ scalar_typed (record { class = class.Scalar; number = x }) is t same
  scalar_back t class.Vector x e is same n = absurd (let other = is.0 in cc)
  scalar_back t class.Mask x e is same n = absurd (let other = is.0 in cc)
  scalar_back t class.Array x e is same n = absurd (let other = is.0 in cc)

  -- there are as many globals as a vector has parts
  pub global_at : (j : ℕ) → j < 16 → (changes (suc j) ≡ true) × (global_type (suc j) ≡ Some V128)
  global_at j l = (
    ap not (ne_eqb (suc j) 0 (λ e. omega (arith, e))),
    cond-false (nat_eq (suc j) 0) (Some valued.I32) (if nat_lt (suc j) 17 then Some V128 else (if nat_eq (suc j) 17 then Some valued.I32 else None)) (ne_eqb (suc j) 0 (λ e. omega (arith, e)))
        ∙ cond-true (nat_lt (suc j) 17) (Some V128) (if nat_eq (suc j) 17 then Some valued.I32 else None) (lt-ltb (suc j) 17 (omega (arith, l))),
  )

  pub few_results : (s : Shape) (j : ℕ) → j < parts w s → j < 16
  few_results s j l = let fresh = fresh_low (gang w) s j l in let gang_is = gang_low w.code.gang in omega (arith, fresh, gang_is)

  vector_back : (t : Elem) (a : Class) (x : ℕ) → result ≡ None → IsThere w.routine class.Vector (record { class = a; number = x }) → elem w (record { class = a; number = x }) ≡ t → (n : ℕ)
      → C n (return_code w a (record { class = a; number = x }))
  vector_back t class.Vector x e is same n =
      let r : Register = record { class = class.Vector; number = x } in
      then_valid n (each (parts w (shape w r)) (λ j. SetGlobal (suc j) (vector_local w r j))) (Return None)
      (each_valid n (parts w (shape w r)) (λ j. SetGlobal (suc j) (vector_local w r j))
      (λ j l. (let at = global_at j (few_results (shape w r) j l) in
      both (changes (suc j)) (of_type local (vector_local w r j) (global_type (suc j))) at.0 (ap (of_type local (vector_local w r j)) at.1 ∙ vector_typed r is (elem w r) refl j l))))
      (ap (λ z. gives local z None) e)
  vector_back t class.Scalar x e is same n = absurd (let other = is.0 in cc)
  vector_back t class.Mask x e is same n = absurd (let other = is.0 in cc)
  vector_back t class.Array x e is same n = absurd (let other = is.0 in cc)

  gives_valid : (g : Returns) (x : Option Register) → Gives g → IsGiven w.routine g x → (n : ℕ) (form : Form) → C n (code_of w 0 form (instr.Return x))
  gives_valid Nothing None e is n form = ap (λ r. gives local r None) e
  gives_valid Nothing (Some x) e is n form = absurd is
  gives_valid (GivesScalar t) None e is n form = absurd is
  gives_valid (GivesScalar t) (Some x) e is n form = scalar_back t x.class x.number e is.0 is.1 n
  gives_valid (GivesVector t) None e is n form = absurd is
  gives_valid (GivesVector t) (Some x) e is n form = vector_back t x.class x.number e is.0 is.1 n

  -- the mask of a call is one
  mask_last : (xs : List Register) (k : Register) → AllFine w.code w.routine (map any_register xs ++ MaskOperand k ∷ []) → IsM k
  mask_last [] k f = f.0
  mask_last (x ∷ xs) k f = mask_last xs k f.1

  mask_of_call : (c : Call) (x : Option Register) → AllFine w.code w.routine (result_operands x ++ (AnyRegister c.mask ∷ PlaceOperand c.place ∷ (map any_register c.arguments ++ MaskOperand c.mask ∷ []))) → IsM c.mask
  mask_of_call c None f = mask_last c.arguments c.mask (f.1).1
  mask_of_call c (Some x) f = mask_last c.arguments c.mask ((f.1).1).1

  -- after so many labels, of which the last is the loop's
  pub line_valid : Gives w.routine.returns → (n k : ℕ) → k < n → (i : Instr) → ((c : Call) → i ≡ instr.Call c → CallFine w.code w.routine c → IsM c.mask → C n (call_code w c)) → Fine (operands i) → CallsFine w.code w.routine i → (form : Form) → C n (code_of w k form i)
  line_valid g n k h (instr.Scalar d i) called f fits form = scalars_valid n d i f
  line_valid g n k h (instr.Vector d i) called f fits form = vector_line_valid form n d i f
  line_valid g n k h (instr.Mask d i) called f fits form = masks_valid n d i f
  line_valid g n k h (instr.Divide o d x y m q) called f fits form = quotients_valid n d.class o d x y m q refl f
  line_valid g n k h (instr.Store a i y m q) called f fits form =
      then_valid n (checked w a i m q) (Store (bytes_of (elem w a)) (address_at w a (scalar_local w i)) 0 (scalar_local w y)) (checked_valid n a i m q (f.0).0 ((f.1).0).0 ((f.1).0).1 (((f.1).1).1).0)
      (store_valid n (elem w a) (address_at w a (scalar_local w i)) (scalar_local w y) (address_typed a (f.0).0 (scalar_local w i) (scalar_typed i ((f.1).0).0 I64 ((f.1).0).1)) (scalar_typed y (((f.1).1).0).0 (elem w a) (((f.1).1).0).1))
  line_valid g n k h (instr.Scatter a i y m q) called f fits form =
      let ks = (((f.1).1).1).0 in
      then_valid n (lane_checks w a (own_index w i) m q) (lane_stores w a (own_index w i) y m) (checks_valid n a (own_index w i) m q (f.0).0 ks (own_typed i ((f.1).0).0 ((f.1).0).1))
      (stores_valid n a (own_index w i) y m (f.0).0 (((f.1).1).0).0 (((f.1).1).0).1 ks (own_typed i ((f.1).0).0 ((f.1).0).1))
  line_valid g n k h (instr.StoreRun a i y m q) called f fits form =
      let ks = (((f.1).1).1).0 in
      let as' = (f.0).0 in
      let is = (f.1).0 in
      let ys = ((f.1).1).0 in
      at_once_valid n (fills_parts w (elem w y)) a i (store_row w a i y m) (Then (lane_checks w a (run_index w i) m q) (lane_stores w a (run_index w i) y m)) as' is.0 is.1 (row_stores_valid (suc n) a i y m as' is.0 is.1 ys.0 ks)
      (λ n. then_valid n (lane_checks w a (run_index w i) m q) (lane_stores w a (run_index w i) y m) (checks_valid n a (run_index w i) m q as' ks (run_typed i is.0 is.1))
      (stores_valid n a (run_index w i) y m as' ys.0 ys.1 ks (run_typed i is.0 is.1)))
  line_valid g n k h (instr.PackedStore d a i y m q) called f fits form =
      let ks = ((((f.1).1).1).1).0 in
      let index = packed_typed i m (((f.1).1).0).0 (((f.1).1).0).1 ks in
      then_valid n (lane_checks w a (packed_index w i m) m q) (Then (lane_stores w a (packed_index w i m) y m) (set_count w d m)) (checks_valid n a (packed_index w i m) m q ((f.1).0).0 ks index)
      (then_valid n (lane_stores w a (packed_index w i m) y m) (set_count w d m) (stores_valid n a (packed_index w i m) y m ((f.1).0).0 ((((f.1).1).1).0).0 ((((f.1).1).1).0).1 ks index) (count_valid n d m (f.0).0 (f.0).1 ks))
  line_valid g n k h (instr.PackedLoad d a i y m q) called f fits form =
      let ks = ((((f.1).1).1).1).0 in
      then_valid n (lane_loads w y a (packed_index w i m) m q) (set_count w d m)
      (loads_valid n y a (packed_index w i m) m q ((((f.1).1).1).0).0 ((f.1).0).0 (sym ((((f.1).1).1).0).1) ks (packed_typed i m (((f.1).1).0).0 (((f.1).1).0).1 ks)) (count_valid n d m (f.0).0 (f.0).1 ks)
  line_valid g n k h (instr.Jump to) called f fits form = jump_valid n k to h
  line_valid g n k h (instr.JumpIf jump.False x to) called f fits form = jump_if n k to (One (Eqz wasm.I32) (scalar_local w x)) h (one local (Eqz wasm.I32) (scalar_local w x) refl (scalar_typed x (f.0).0 Truth (f.0).1))
  line_valid g n k h (instr.JumpIf jump.True x to) called f fits form = jump_if n k to (scalar_local w x) h (scalar_typed x (f.0).0 Truth (f.0).1)
  line_valid g n k h (instr.JumpIf jump.Off x to) called f fits form = jump_if n k to (One (Eqz wasm.I32) (lanes_as_bits w x)) h (one local (Eqz wasm.I32) (lanes_as_bits w x) refl (bits_typed x f.0))
  line_valid g n k h (instr.JumpIf jump.On x to) called f fits form = jump_if n k to (lanes_as_bits w x) h (bits_typed x f.0)
  line_valid g n k h (instr.JumpIf jump.All x to) called f fits form =
      jump_if n k to (Two (wasm.Compare wasm.I32 Eq) (lanes_as_bits w x) (Const32 (2 ^ gang w - 1))) h (two local (wasm.Compare wasm.I32 Eq) (lanes_as_bits w x) (Const32 (2 ^ gang w - 1)) refl (bits_typed x f.0) refl)
  line_valid g n k h (instr.Say t) called f fits form = refl
  line_valid g n k h (instr.Fail x q) called f fits form = if_valid n (lanes_as_bits w x) (fault w 2 q (lowest_of w x)) Skip (bits_typed x f.0) (lowest_typed x f.0) refl
  line_valid g n k h (instr.Return x) called f fits form = gives_valid w.routine.returns x g f.0 n form
  line_valid g n k h (instr.Clear a m) called f fits form = clear_valid n (is_per_lane w.routine a) a m (f.0).0 (f.1).0
  line_valid g n k h (instr.PrintScalar x) called f fits form = print_valid n (elem w x) (scalar_local w x) (scalar_typed x (f.0).0 (elem w x) refl)
  line_valid g n k h (instr.PrintVector x m) called f fits form = list_valid n x m (f.0).0 (f.1).0
  line_valid g n k h (instr.Call c) called f fits form = called c refl fits (mask_of_call c c.result f)
