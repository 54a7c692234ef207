-- Which member of a set a trap names: the lowest that offends. There is a trap exactly where one offends.
use Rattle.std.specs.Prelude.{◌≡◌, ℕ, ◌<◌, List, Bool, true, ℤ}
use Rattle.isp_base.specs.Access.{is_outside, is_zero}
use Rattle.isp_base.specs.Cross.{packed_outside}
use Rattle.isp_base.specs.Maps.{holds}
use Rattle.isp_base.specs.Sets.{Mask, any}
use Rattle.isp_base.specs.Types.{gang_width}
use Rattle.isp_base.specs.declared.operators.BinOp.{BinOp}
use Rattle.isp_base.specs.declared.trap.TrapKind.{TrapKind}
use Rattle.isp_base.specs.declared.trap.TrapKind.TheVariants.{Divide, Index, Assert, Depth}
use Rattle.isp_base.specs.declared.types.Elem.{Elem}
use Rattle.isp_base.specs.declared.types.Span.{Span}
use Rattle.isp_base.specs.declared.types.Ty.{Ty}
use Rattle.isp_typed.specs.declared.variable.ArrayVariable.{ArrayVariable}
use Rattle.isp_typed.specs.Typed.{TExpr, t_place, t_binary, t_packed_store, t_packed_load, t_element, TBase, elem_of, TArguments, t_called, t_call, t_assign, t_update, t_assert, Program}
use Rattle.isp_meaning.specs.Calls.{calls_at}
use Rattle.isp_meaning.specs.Expressions.{Passed, base_array, first_element, arguments}
use Rattle.isp_meaning.specs.Outcomes.{Val, Gives, Fails, Stops, Res, Went, Trapped, Cut}
use Rattle.isp_meaning.specs.Payloads.{Payload, is_false, spread}
use Rattle.isp_meaning.specs.Simple.{simple}
use Rattle.isp_meaning.specs.State.{State, Frame, tick, extent}
use Rattle.isp_meaning_laws.specs.Members.{value_over, run_over}

-- the lowest member that offends
pub record IsLowest (gang : ℕ) (a : Mask) (offends : ℕ → Type 0) (p : ℕ) : Type 0 where
  pub below : p < gang
  pub member : a p ≡ true
  pub does : offends p
  pub lowest : (q : ℕ) → q < p → a q ≡ true → offends q → ⊥

-- no member does
abbrev pub Nobody : ℕ → Mask → (ℕ → Type 0) → Type 0
Nobody gang a offends = (q : ℕ) → q < gang → a q ≡ true → offends q → ⊥

module _ (gang : ℕ) (a : Mask) (offends : ℕ → Type 0) (kind : TrapKind) (place : Span) where
  -- It traps, so, there, in the lowest that offends; where none offends it gives a value.
  abbrev pub ByLowest : {A : Type 0} → Val A → Type 0
  ByLowest (Gives x s) = Nobody gang a offends
  ByLowest (Fails t s) = (t.kind ≡ kind) × (t.place ≡ place) × IsLowest gang a offends t.instance
  ByLowest (Stops s) = ⊥

  abbrev pub ByLowestThen : Res → Type 0
  ByLowestThen (Went s g b c r) = Nobody gang a offends
  ByLowestThen (Trapped t s) = (t.kind ≡ kind) × (t.place ≡ place) × IsLowest gang a offends t.instance
  ByLowestThen (Cut s) = ⊥

-- what an instance has of a value passes a test
abbrev pub Passes : (ℕ → Bool) → Mask → Payload → ℕ → Type 0
Passes f a m q = holds f (spread a m q) ≡ true

-- Where the parts came to values, over any set. An instance offends by a divisor of zero, an index outside the array, or a test that is
-- false.
pub record TheLowestIsNamed : Type 0 where
  pub division : (program : Program) (most levels : ℕ) (frame : Frame) (op : BinOp) (x y : TExpr) (t : Ty) (sp : Span) (a : Mask) (s s1 s2 : State) (m n : Payload)
      → value_over program most levels frame x a (tick s) ≡ Gives m s1 → value_over program most levels frame y a s1 ≡ Gives n s2
      → ByLowest (gang_width program.gang) a (Passes (is_zero op t.elem) a n) Divide sp (value_over program most levels frame (t_binary op x y t sp) a s)
  pub read : (program : Program) (most levels : ℕ) (frame : Frame) (b : ArrayVariable) (i : TExpr) (t : Ty) (at : Span) (a : Mask) (s s1 : State) (j : Payload)
      → value_over program most levels frame i a (tick s) ≡ Gives j s1
      → ByLowest (gang_width program.gang) a (Passes (is_outside (elem_of i) (extent frame b)) a j) Index at (value_over program most levels frame (t_place (t_element b i t at)) a s)
  pub assigned : (program : Program) (most levels : ℕ) (frame : Frame) (b : ArrayVariable) (i x : TExpr) (t : Ty) (at sp : Span) (a : Mask) (s s1 s2 : State) (j m : Payload)
      → value_over program most levels frame i a (tick (tick s)) ≡ Gives j s1 → value_over program most levels frame x a s1 ≡ Gives m s2
      → ByLowest (gang_width program.gang) a (Passes (is_outside (elem_of i) (extent frame b)) a j) Index at
      (simple (gang_width program.gang) frame (calls_at program most levels) (t_assign (t_element b i t at) x sp) a s)
  -- `op=` with an operand that is zero: the indices come first
  pub updated_index : (program : Program) (most levels : ℕ) (frame : Frame) (op : BinOp) (e : Elem) (b : ArrayVariable) (i x : TExpr) (t : Ty) (at sp : Span) (a : Mask)
      (s s1 s2 : State) (j y : Payload) (q : ℕ)
      → value_over program most levels frame i a (tick (tick s)) ≡ Gives j s1 → value_over program most levels frame x a s1 ≡ Gives y s2
      → q < gang_width program.gang → a q ≡ true → Passes (is_outside (elem_of i) (extent frame b)) a j q
      → ByLowest (gang_width program.gang) a (Passes (is_outside (elem_of i) (extent frame b)) a j) Index at
      (simple (gang_width program.gang) frame (calls_at program most levels) (t_update op e (t_element b i t at) x sp) a s)
  pub updated_division : (program : Program) (most levels : ℕ) (frame : Frame) (op : BinOp) (e : Elem) (b : ArrayVariable) (i x : TExpr) (t : Ty) (at sp : Span) (a : Mask)
      (s s1 s2 : State) (j y : Payload)
      → value_over program most levels frame i a (tick (tick s)) ≡ Gives j s1 → value_over program most levels frame x a s1 ≡ Gives y s2
      → Nobody (gang_width program.gang) a (Passes (is_outside (elem_of i) (extent frame b)) a j)
      → ByLowest (gang_width program.gang) a (Passes (is_zero op e) a y) Divide sp
      (simple (gang_width program.gang) frame (calls_at program most levels) (t_update op e (t_element b i t at) x sp) a s)
  pub asserted : (program : Program) (most levels : ℕ) (frame : Frame) (x : TExpr) (c sp : Span) (a : Mask) (s s1 : State) (m : Payload)
      → value_over program most levels frame x a (tick s) ≡ Gives m s1
      → ByLowestThen (gang_width program.gang) a (Passes is_false a m) Assert c (run_over program most levels frame (t_assert x c sp) a s)
  -- the packed calls, whose elements count up from z by the members
  pub packed_store : (program : Program) (most levels : ℕ) (frame : Frame) (b : TBase) (x : TExpr) (sp : Span) (a : Mask) (s s1 s2 : State) (z : ℤ) (m : Payload)
      → first_element (gang_width program.gang) frame (calls_at program most levels) b a (tick s) ≡ Gives z s1
      → value_over program most levels frame x a s1 ≡ Gives m s2
      → ByLowest (gang_width program.gang) a (λ q. packed_outside (extent frame (base_array b)) z a q ≡ true) Index sp
      (value_over program most levels frame (t_packed_store b x sp) a s)
  pub packed_load : (program : Program) (most levels : ℕ) (frame : Frame) (b : TBase) (v : ℕ) (sp : Span) (a : Mask) (s s1 : State) (z : ℤ)
      → first_element (gang_width program.gang) frame (calls_at program most levels) b a (tick s) ≡ Gives z s1
      → ByLowest (gang_width program.gang) a (λ q. packed_outside (extent frame (base_array b)) z a q ≡ true) Index sp
      (value_over program most levels frame (t_packed_load b v sp) a s)
  -- a call too many, after its arguments: in the lowest member of all
  pub too_deep : (program : Program) (most : ℕ) (frame : Frame) (f : ℕ) (xs : TArguments) (t : Ty) (sp : Span) (a : Mask) (s s1 : State) (ps : List Passed)
      → any (gang_width program.gang) a ≡ true
      → arguments (gang_width program.gang) frame (calls_at program most 0) xs a (tick s) ≡ Gives ps s1
      → ByLowest (gang_width program.gang) a (λ q. Unit {0}) Depth sp (value_over program most 0 frame (t_call (t_called f xs sp) t) a s)
