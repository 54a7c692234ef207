-- Which code is covered: the forms of instructions that are translated, with what the verifier says of their operands.
use Rattle.std.specs.Prelude.{◌≡◌, ◌⊎◌, ℕ, suc, ◌+◌, ◌-◌, ◌*◌, ◌^◌, ◌<◌, Option, Some, None, true, false, slice_get}
use Rattle.isp_base.specs.declared.operators.UnaryOp.{UnaryOp}
use Rattle.isp_base.specs.declared.operators.UnaryOp.TheVariants as unary
use Rattle.isp_base.specs.declared.types.Elem.{Elem}
use Rattle.isp_base.specs.declared.types.Elem.TheVariants.{Bool as Truth, I32, I64}
use Rattle.isp_code.specs.Fine.{CallFine, IsGiven}
use Rattle.isp_code.specs.Lines.{local_size}
use Rattle.isp_code.specs.Registers.{passed, is_per_lane}
use Rattle.isp_code.specs.declared.instr.Instr.{Instr}
use Rattle.isp_code.specs.declared.instr.Instr.TheVariants as instr
use Rattle.isp_code.specs.declared.instr.JumpTest.TheVariants as jump
use Rattle.isp_code.specs.declared.instr.MaskInstr.{MaskInstr}
use Rattle.isp_code.specs.declared.instr.MaskInstr.TheVariants as mask
use Rattle.isp_base.specs.Ranks.{widened as sum_type}
use Rattle.isp_code.specs.declared.instr.Reduction.{Reduction}
use Rattle.isp_code.specs.declared.instr.Reduction.TheVariants as reduction
use Rattle.isp_code.specs.declared.instr.ScalarInstr.{ScalarInstr}
use Rattle.isp_code.specs.declared.instr.ScalarInstr.TheVariants as scalar
use Rattle.isp_code.specs.declared.instr.VectorInstr.{VectorInstr}
use Rattle.isp_code.specs.declared.instr.VectorInstr.TheVariants as vector
use Rattle.isp_code.specs.declared.register.Class.{Class}
use Rattle.isp_code.specs.declared.register.Class.TheVariants as class
use Rattle.isp_code.specs.declared.register.Register.{Register}
use Rattle.isp_wasm.specs.Places.{Setting, gang, elem, bytes_of}
use Rattle.isp_wasm.specs.Lanes.{store_at}

-- not a bool
abbrev pub IsInteger : Elem → Type 0
IsInteger Truth = ⊥
IsInteger t = Unit {0}

-- `not` is for bools, the other operators on one value for integers
abbrev pub IsUnary : UnaryOp → Elem → Type 0
IsUnary unary.Not t = t ≡ Truth
IsUnary o t = IsInteger t

module _ (w : Setting) where
  -- a register of a class and a type
  pub record IsScalar (x : Register) (t : Elem) : Type 0 where
    pub class_is : x.class ≡ class.Scalar
    pub elem_is : elem w x ≡ t

  pub record IsVector (x : Register) (t : Elem) : Type 0 where
    pub class_is : x.class ≡ class.Vector
    pub elem_is : elem w x ≡ t

  -- an array that all lanes share
  pub record IsArray (a : Register) (t : Elem) : Type 0 where
    pub shared : is_per_lane w.routine a ≡ false
    pub elem_is : elem w a ≡ t
    pub stored_as : w.elems (w.home.named a.number) ≡ t
    pub low : w.home.named a.number < w.home.opened

  -- an array of which each lane has its own, one after the other
  pub record IsOwn (a : Register) (t : Elem) : Type 0 where
    pub own : is_per_lane w.routine a ≡ true
    pub elem_is : elem w a ≡ t
    pub stored_as : (p : ℕ) → p < gang w → w.elems (store_at w a.number p) ≡ t
    pub size_is : (p : ℕ) → p < gang w → w.sizes (store_at w a.number p) ≡ local_size (slice_get w.routine.locals (a.number - passed w.routine))
    pub start_is : (p : ℕ) → p < gang w
        → w.begins (store_at w a.number p) ≡ w.begins (store_at w a.number 0) + p * (local_size (slice_get w.routine.locals (a.number - passed w.routine)) * bytes_of (elem w a))
    pub few : local_size (slice_get w.routine.locals (a.number - passed w.routine)) * bytes_of (elem w a) < 2 ^ 32

  abbrev pub IsEither : Register → Elem → Type 0
  IsEither a t = IsArray a t ⊎ IsOwn a t

  -- one that all lanes share and the function opens
  pub record IsOpened (a : Register) : Type 0 where
    pub array : IsArray a (elem w a)
    pub size_is : w.sizes (w.home.named a.number) ≡ local_size (slice_get w.routine.locals (a.number - passed w.routine))
    pub few : local_size (slice_get w.routine.locals (a.number - passed w.routine)) * bytes_of (elem w a) < 2 ^ 32

  -- a rung begins there
  pub record IsHead (to : ℕ) : Type 0 where
    pub low : w.rung_at to < w.rungs
    pub here : w.heads (w.rung_at to) ≡ to

  -- what a reduction makes of values of a type
  abbrev pub IsReduction : Reduction → (from to : Elem) → Type 0
  IsReduction reduction.Add t u = IsInteger t × (u ≡ sum_type t)
  IsReduction reduction.Min t u = IsInteger t × (u ≡ t)
  IsReduction reduction.Max t u = IsInteger t × (u ≡ t)
  IsReduction reduction.Equal t u = IsInteger t × (u ≡ Truth)
  IsReduction reduction.Any t u = (t ≡ Truth) × (u ≡ Truth)
  IsReduction reduction.All t u = (t ≡ Truth) × (u ≡ Truth)

  abbrev pub IsThinScalar : Elem → ScalarInstr → Type 0
  IsThinScalar t (scalar.Constant z) = Unit {0}
  IsThinScalar t (scalar.Copy x) = IsScalar x t
  IsThinScalar t (scalar.Convert x) = IsScalar x (elem w x)
  IsThinScalar t (scalar.Unary o x) = IsUnary o t × IsScalar x t
  IsThinScalar t (scalar.Binary o x y) = IsInteger t × IsScalar x t × IsScalar y t
  IsThinScalar t (scalar.Compare o x y) = (t ≡ Truth) × IsScalar x (elem w x) × IsScalar y (elem w x)
  IsThinScalar t (scalar.Select c x y) = IsScalar c Truth × IsScalar x t × IsScalar y t
  IsThinScalar t (scalar.First k) = t ≡ I64
  IsThinScalar t (scalar.Load a i k q) = IsScalar i I64 × IsArray a t
  IsThinScalar t (scalar.Reduce r x k) = IsVector x (elem w x) × IsReduction r (elem w x) t
  IsThinScalar t (scalar.Extract x i k) = IsVector x t × IsScalar i I32

  abbrev pub IsThinVector : Elem → VectorInstr → Type 0
  IsThinVector t (vector.Copy x k) = IsVector x t
  IsThinVector t (vector.Convert x k) = IsVector x (elem w x)
  IsThinVector t (vector.Unary o x k) = IsUnary o t × IsVector x t
  IsThinVector t (vector.Binary o x y k) = IsInteger t × IsVector x t × IsVector y t
  IsThinVector t (vector.Compare o x y k) = (t ≡ Truth) × IsVector x (elem w x) × IsVector y (elem w x)
  IsThinVector t (vector.Select c x y k) = IsVector c Truth × IsVector x t × IsVector y t
  IsThinVector t (vector.Splat x k) = IsScalar x t
  IsThinVector t (vector.Index k) = t ≡ I32
  IsThinVector t (vector.Gather a i k q) = IsEither a t × IsVector i I64
  IsThinVector t (vector.LoadRun a i k q) = IsArray a t × IsScalar i I64
  IsThinVector t (vector.Scan o x k) = IsInteger t × IsVector x t
  IsThinVector t (vector.Exchange e x i k) = IsVector x t × IsScalar i I32
  IsThinVector t (vector.Shuffle x i k) = IsVector x t × IsVector i I32
  IsThinVector t (vector.ShuffleTwo x y i k) = IsVector x t × IsVector y t × IsVector i I32
  IsThinVector t (vector.Insert x i y k) = IsVector x t × IsScalar i I32 × IsScalar y t

  abbrev pub IsThinMask : MaskInstr → Type 0
  IsThinMask (mask.Test x y) = IsVector x Truth
  IsThinMask (mask.Range x y) = IsScalar x I64 × IsScalar y I64
  IsThinMask i = Unit {0}

  -- a quotient, of scalars or in lanes
  abbrev pub IsThinDivision : Class → (t : Elem) (x y : Register) → Type 0
  IsThinDivision class.Scalar t x y = IsInteger t × IsScalar x t × IsScalar y t
  IsThinDivision class.Vector t x y = IsInteger t × IsVector x t × IsVector y t
  IsThinDivision c t x y = ⊥

  -- an instruction that is covered
  abbrev pub IsThin : Instr → Type 0
  IsThin (instr.Scalar d i) = (d.class ≡ class.Scalar) × IsThinScalar (elem w d) i
  IsThin (instr.Vector d i) = (d.class ≡ class.Vector) × IsThinVector (elem w d) i
  IsThin (instr.Mask d i) = IsThinMask i
  IsThin (instr.Store a i y k q) = IsScalar i I64 × IsArray a (elem w a) × IsScalar y (elem w a)
  IsThin (instr.Divide o d x y k q) = IsThinDivision d.class (elem w d) x y
  IsThin (instr.Scatter a i y k q) = IsEither a (elem w y) × IsVector i I64 × IsVector y (elem w y)
  IsThin (instr.StoreRun a i y k q) = IsArray a (elem w y) × IsScalar i I64 × IsVector y (elem w y)
  IsThin (instr.PackedStore d a i y k q) = IsScalar d I32 × IsArray a (elem w y) × IsScalar i I64 × IsVector y (elem w y)
  IsThin (instr.PackedLoad d a i y k q) = IsScalar d I32 × IsArray a (elem w y) × IsScalar i I64 × (y.class ≡ class.Vector)
  IsThin (instr.Jump to) = IsHead to
  IsThin (instr.JumpIf jump.False x to) = IsScalar x Truth × IsHead to
  IsThin (instr.JumpIf jump.True x to) = IsScalar x Truth × IsHead to
  IsThin (instr.JumpIf jump.Off x to) = IsHead to
  IsThin (instr.JumpIf jump.On x to) = IsHead to
  IsThin (instr.JumpIf jump.All x to) = IsHead to
  IsThin (instr.Say t) = Unit {0}
  IsThin (instr.Fail x q) = Unit {0}
  IsThin (instr.PrintScalar x) = IsScalar x (elem w x)
  IsThin (instr.PrintVector x k) = IsVector x (elem w x)
  IsThin (instr.Call k) = CallFine w.code w.routine k
  IsThin (instr.Return x) = IsGiven w.routine w.routine.returns x
  IsThin (instr.Clear a k) = IsOpened a ⊎ IsOwn a (elem w a)

  -- where control does not go on to the next instruction
  abbrev pub IsLast : Option Instr → Type 0
  IsLast (Some (instr.Jump to)) = Unit {0}
  IsLast (Some (instr.Return x)) = Unit {0}
  IsLast o = ⊥

  -- all code has rungs, and the last one ends so
  pub record IsCovered : Type 0 where
    pub there : (pc : ℕ) → pc < w.heads w.rungs → slice_get w.routine.code pc ≡ None → ⊥
    pub ends : (k pc : ℕ) → suc k ≡ w.rungs → pc + 1 ≡ w.heads w.rungs → IsLast (slice_get w.routine.code pc)

  abbrev pub AllThin : Type 0
  AllThin = (pc : ℕ) (i : Instr) → slice_get w.routine.code pc ≡ Some i → IsThin i
