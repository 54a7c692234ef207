-- Operands that are as the table asks are those that templates ask for.
use Rattle.std.proofs.Common.{◌≡◌, ◌≢◌, ◌⊎◌, inl, inr, List, [], ◌∷◌, Bool, true, false, refl, sym, ◌∙◌, subst}
use Rattle.isp_base.specs.declared.operators.UnaryOp.{UnaryOp}
use Rattle.isp_base.specs.declared.operators.UnaryOp.TheVariants as unary
use Rattle.isp_base.specs.declared.types.Elem.{Elem}
use Rattle.isp_base.specs.declared.types.Elem.TheVariants.{Bool as Truth, I8, U8, I16, U16, I32, U32, I64, U64}
use Rattle.isp_code.specs.Fine.{AllFine, OperandFine, IsThere, IsWanted}
use Rattle.isp_code.specs.Operands.{operands, scalar_operands, vector_operands, mask_operands, divided, unary_want}
use Rattle.isp_code.specs.Registers.{is_per_lane, is_local}
use Rattle.isp_code.specs.declared.instr.Instr.{Instr}
use Rattle.isp_code.specs.declared.instr.Instr.TheVariants as instr
use Rattle.isp_code.specs.declared.instr.JumpTest.TheVariants as jump
use Rattle.isp_code.specs.declared.instr.MaskInstr.{MaskInstr}
use Rattle.isp_code.specs.declared.instr.MaskInstr.TheVariants as mask
use Rattle.isp_code.specs.declared.instr.Reduction.TheVariants as reduction
use Rattle.isp_code.specs.declared.instr.ScalarInstr.{ScalarInstr}
use Rattle.isp_code.specs.declared.instr.ScalarInstr.TheVariants as scalar
use Rattle.isp_code.specs.declared.instr.VectorInstr.{VectorInstr}
use Rattle.isp_code.specs.declared.instr.VectorInstr.TheVariants as vector
use Rattle.isp_code.specs.declared.operand.Operand.{Operand}
use Rattle.isp_code.specs.declared.operand.Operand.TheVariants.{Scalar, Vector, Mask as MaskRegister, Place}
use Rattle.isp_code.specs.declared.operand.Want.TheVariants.{Is, Integer, Like}
use Rattle.isp_code.specs.declared.register.Class.{Class}
use Rattle.isp_code.specs.declared.register.Class.TheVariants as class
use Rattle.isp_code.specs.declared.register.Register.{Register}
use Rattle.isp_wasm.specs.Places.{Setting, elem}
use Rattle.isp_wasm.specs.Thin.{IsInteger, IsUnary, IsScalar, IsVector, IsArray, IsOwn, IsEither, IsOpened, IsThin, IsThinScalar, IsThinVector, IsThinMask, IsThinDivision}
use Rattle.isp_wasm.specs.Lines.{HasArrays, HasTemplate, FineIsThin}

pub integer : (t : Elem) → t ≢ Truth → IsInteger t
integer Truth h = absurd (h refl)
integer I8 h = tt
integer U8 h = tt
integer I16 h = tt
integer U16 h = tt
integer I32 h = tt
integer U32 h = tt
integer I64 h = tt
integer U64 h = tt

module _ (w : Setting) (has : HasArrays w) where
  abbrev pub Fine : Operand → Type 0
  Fine = OperandFine w.code w.routine

  abbrev pub Fines : List Operand → Type 0
  Fines = AllFine w.code w.routine

  scalar_like : (x d : Register) → Fine (Scalar x (Like d)) → IsScalar w x (elem w d)
  scalar_like x d o = record { class_is = (o.0).0; elem_is = o.1 }

  scalar_of : (x : Register) (t : Elem) → Fine (Scalar x (Is t)) → IsScalar w x t
  scalar_of x t o = record { class_is = (o.0).0; elem_is = o.1 }

  any_scalar : (x : Register) → IsThere w.routine class.Scalar x → IsScalar w x (elem w x)
  any_scalar x o = record { class_is = o.0; elem_is = refl }

  vector_like : (x d : Register) → Fine (Vector x (Like d)) → IsVector w x (elem w d)
  vector_like x d o = record { class_is = (o.0).0; elem_is = o.1 }

  vector_of : (x : Register) (t : Elem) → Fine (Vector x (Is t)) → IsVector w x t
  vector_of x t o = record { class_is = (o.0).0; elem_is = o.1 }

  any_vector : (x : Register) → IsThere w.routine class.Vector x → IsVector w x (elem w x)
  any_vector x o = record { class_is = o.0; elem_is = refl }

  array_as : (a : Register) (t : Elem) → IsThere w.routine class.Array a → is_per_lane w.routine a ≡ false → elem w a ≡ t → IsArray w a t
  array_as a t o shared e = subst (IsArray w a) e (has.shared a o shared)

  either_as : (a : Register) (t : Elem) → IsThere w.routine class.Array a → elem w a ≡ t → IsEither w a t
  either_as a t o e = by (is_per_lane w.routine a) refl
    where
      by : (b : Bool) → is_per_lane w.routine a ≡ b → IsEither w a t
      by true own = inr (subst (IsOwn w a) e (has.own a o own))
      by false shared = inl (array_as a t o shared e)

  opened_as : (a : Register) → IsThere w.routine class.Array a → is_local w.routine a ≡ true → IsOpened w a ⊎ IsOwn w a (elem w a)
  opened_as a o local = by (is_per_lane w.routine a) refl
    where
      by : (b : Bool) → is_per_lane w.routine a ≡ b → IsOpened w a ⊎ IsOwn w a (elem w a)
      by true own = inr (has.own a o own)
      by false shared = inl (has.opened a o shared local)

  unary_is : (o : UnaryOp) (t : Elem) → IsWanted w.routine (unary_want o) t → IsUnary o t
  unary_is unary.Not t h = h
  unary_is unary.Negate t h = integer t h
  unary_is unary.Invert t h = integer t h
  unary_is unary.Absolute t h = integer t h

  scalars : (d : Register) (i : ScalarInstr) → Fines (scalar_operands d i) → (d.class ≡ class.Scalar) × IsThinScalar w (elem w d) i
  scalars d (scalar.Constant z) f = (((f.0).0).0, tt)
  scalars d (scalar.Copy x) f = (((f.0).0).0, scalar_like x d (f.1).0)
  scalars d (scalar.Convert x) f = (((f.0).0).0, any_scalar x ((f.1).0).0)
  scalars d (scalar.Unary o x) f = (((f.0).0).0, (unary_is o (elem w d) (f.0).1, scalar_like x d (f.1).0))
  scalars d (scalar.Binary o x y) f = (((f.0).0).0, (integer (elem w d) (f.0).1, scalar_like x d (f.1).0, scalar_like y d ((f.1).1).0))
  scalars d (scalar.Compare o x y) f = (((f.0).0).0, ((f.0).1, any_scalar x ((f.1).0).0, scalar_like y x ((f.1).1).0))
  scalars d (scalar.Select c x y) f = (((f.0).0).0, (scalar_of c Truth (f.1).0, scalar_like x d ((f.1).1).0, scalar_like y d (((f.1).1).1).0))
  scalars d (scalar.First k) f = (((f.0).0).0, (f.0).1)
  scalars d (scalar.Load a i k q) f = (((f.0).0).0, (scalar_of i I64 ((f.1).1).0, array_as a (elem w d) ((f.1).0).0 ((f.1).0).1 ((f.1).0).2))
  scalars d (scalar.Extract x i k) f = (((f.0).0).0, (vector_like x d (f.1).0, scalar_of i I32 ((f.1).1).0))
  scalars d (scalar.Reduce reduction.Add x k) f = (((f.0).0).0, (any_vector x ((f.1).0).0, (integer (elem w x) (((f.1).0).1).0, sym (((f.1).0).1).1)))
  scalars d (scalar.Reduce reduction.Min x k) f =
      (((f.0).0).0, (any_vector x ((f.1).0).0, (subst IsInteger (sym ((f.1).0).1) (integer (elem w d) (f.0).1), sym ((f.1).0).1)))
  scalars d (scalar.Reduce reduction.Max x k) f =
      (((f.0).0).0, (any_vector x ((f.1).0).0, (subst IsInteger (sym ((f.1).0).1) (integer (elem w d) (f.0).1), sym ((f.1).0).1)))
  scalars d (scalar.Reduce reduction.Equal x k) f = (((f.0).0).0, (any_vector x ((f.1).0).0, (integer (elem w x) ((f.1).0).1, (f.0).1)))
  scalars d (scalar.Reduce reduction.Any x k) f = (((f.0).0).0, (any_vector x ((f.1).0).0, (((f.1).0).1, (f.0).1)))
  scalars d (scalar.Reduce reduction.All x k) f = (((f.0).0).0, (any_vector x ((f.1).0).0, (((f.1).0).1, (f.0).1)))

  vectors : (d : Register) (i : VectorInstr) → Fines (vector_operands d i) → (d.class ≡ class.Vector) × IsThinVector w (elem w d) i
  vectors d (vector.Copy x k) f = (((f.0).0).0, vector_like x d (f.1).0)
  vectors d (vector.Convert x k) f = (((f.0).0).0, any_vector x ((f.1).0).0)
  vectors d (vector.Unary o x k) f = (((f.0).0).0, (unary_is o (elem w d) (f.0).1, vector_like x d (f.1).0))
  vectors d (vector.Binary o x y k) f = (((f.0).0).0, (integer (elem w d) (f.0).1, vector_like x d (f.1).0, vector_like y d ((f.1).1).0))
  vectors d (vector.Compare o x y k) f = (((f.0).0).0, ((f.0).1, any_vector x ((f.1).0).0, vector_like y x ((f.1).1).0))
  vectors d (vector.Select c x y k) f = (((f.0).0).0, (vector_of c Truth (f.1).0, vector_like x d ((f.1).1).0, vector_like y d (((f.1).1).1).0))
  vectors d (vector.Splat x k) f = (((f.0).0).0, scalar_like x d (f.1).0)
  vectors d (vector.Index k) f = (((f.0).0).0, (f.0).1)
  vectors d (vector.Gather a i k q) f = (((f.0).0).0, (either_as a (elem w d) ((f.1).0).0 ((f.1).0).2, vector_of i I64 ((f.1).1).0))
  vectors d (vector.LoadRun a i k q) f = (((f.0).0).0, (array_as a (elem w d) ((f.1).0).0 ((f.1).0).1 ((f.1).0).2, scalar_of i I64 ((f.1).1).0))
  vectors d (vector.Scan o x k) f = (((f.0).0).0, (integer (elem w d) (f.0).1, vector_like x d (f.1).0))
  vectors d (vector.Exchange e x i k) f = (((f.0).0).0, (vector_like x d (f.1).0, scalar_of i I32 ((f.1).1).0))
  vectors d (vector.Shuffle x i k) f = (((f.0).0).0, (vector_like x d (f.1).0, vector_of i I32 ((f.1).1).0))
  vectors d (vector.ShuffleTwo x y i k) f = (((f.0).0).0, (vector_like x d (f.1).0, vector_like y d ((f.1).1).0, vector_of i I32 (((f.1).1).1).0))
  vectors d (vector.Insert x i y k) f = (((f.0).0).0, (vector_like x d (f.1).0, scalar_of i I32 ((f.1).1).0, scalar_like y d (((f.1).1).1).0))

  masks : (d : Register) (i : MaskInstr) → Fines (mask_operands d i) → IsThinMask w i
  masks d (mask.Copy x) f = tt
  masks d (mask.Binary o x y) f = tt
  masks d mask.Full f = tt
  masks d mask.Off f = tt
  masks d (mask.Test x y) f = vector_of x Truth (f.1).0
  masks d (mask.Lowest x) f = tt
  masks d (mask.Range x y) f = (scalar_of x I64 (f.1).0, scalar_of y I64 ((f.1).1).0)

  quotient : (a : Class) (d x y : Register) (os : List Operand) → d.class ≡ a → Fines (divided a d Integer ∷ divided a x (Like d) ∷ divided a y (Like d) ∷ os) → IsThinDivision w a (elem w d) x y
  quotient class.Scalar d x y os e f = (integer (elem w d) (f.0).1, scalar_like x d (f.1).0, scalar_like y d ((f.1).1).0)
  quotient class.Vector d x y os e f = (integer (elem w d) (f.0).1, vector_like x d (f.1).0, vector_like y d ((f.1).1).0)
  quotient class.Mask d x y os e f = absurd (let other : class.Mask ≡ class.Scalar = sym e ∙ ((f.0).0).0 in cc)
  quotient class.Array d x y os e f = absurd (let other : class.Array ≡ class.Scalar = sym e ∙ ((f.0).0).0 in cc)

  thin : (i : Instr) → HasTemplate w i → Fines (operands i) → IsThin w i
  thin (instr.Scalar d i) t f = scalars d i f
  thin (instr.Vector d i) t f = vectors d i f
  thin (instr.Mask d i) t f = masks d i f
  thin (instr.Divide o d x y k q) t f = quotient d.class d x y (MaskRegister k ∷ Place q ∷ []) refl f
  thin (instr.Store a i y k q) t f = (scalar_of i I64 (f.1).0, array_as a (elem w a) (f.0).0 (f.0).1 refl, scalar_like y a ((f.1).1).0)
  thin (instr.Scatter a i y k q) t f = (either_as a (elem w y) (f.0).0 (sym (((f.1).1).0).1), vector_of i I64 (f.1).0, any_vector y (((f.1).1).0).0)
  thin (instr.StoreRun a i y k q) t f = (array_as a (elem w y) (f.0).0 (f.0).1 (sym (((f.1).1).0).1), scalar_of i I64 (f.1).0, any_vector y (((f.1).1).0).0)
  thin (instr.PackedStore d a i y k q) t f =
      (scalar_of d I32 f.0, array_as a (elem w y) ((f.1).0).0 ((f.1).0).1 (sym ((((f.1).1).1).0).1), scalar_of i I64 ((f.1).1).0, any_vector y ((((f.1).1).1).0).0)
  thin (instr.PackedLoad d a i y k q) t f =
      (scalar_of d I32 f.0, array_as a (elem w y) ((f.1).0).0 ((f.1).0).1 (sym ((((f.1).1).1).0).1), scalar_of i I64 ((f.1).1).0, (((((f.1).1).1).0).0).0)
  thin (instr.Jump to) t f = t
  thin (instr.JumpIf jump.False x to) t f = (scalar_of x Truth f.0, t)
  thin (instr.JumpIf jump.True x to) t f = (scalar_of x Truth f.0, t)
  thin (instr.JumpIf jump.Off x to) t f = t
  thin (instr.JumpIf jump.On x to) t f = t
  thin (instr.JumpIf jump.All x to) t f = t
  thin (instr.Say n) t f = tt
  thin (instr.Fail x q) t f = tt
  thin (instr.Return x) t f = f.0
  thin (instr.Clear a k) t f = opened_as a (f.0).0 (f.0).1
  thin (instr.PrintScalar x) t f = any_scalar x (f.0).0
  thin (instr.PrintVector x k) t f = any_vector x (f.0).0
  thin (instr.Call c) t f = t

pub fine_is_thin : FineIsThin
fine_is_thin w has i t f = thin w has i t f
