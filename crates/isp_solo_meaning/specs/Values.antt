-- What an expression answers in one instance. A shared array has what the run stored there, or else what it began with.
use Rattle.std.specs.Prelude.{ℕ, ◌%◌, ◌^◌, List, [], ◌∷◌, get_or, if◌then◌else◌}
use Rattle.isp_base.specs.Access.{is_outside, element, is_zero}
use Rattle.isp_base.specs.Maps.{or_old}
use Rattle.isp_base.specs.Traps.{trap}
use Rattle.isp_base.specs.Unary.{unary_bits}
use Rattle.isp_base.specs.Values.{width, op_bits, compare_bits}
use Rattle.isp_base.specs.declared.operators.BinOp.TheVariants as op
use Rattle.isp_base.specs.declared.operators.UnaryOp.TheVariants.{Absolute}
use Rattle.isp_base.specs.declared.types.Elem.{Elem}
use Rattle.isp_base.specs.declared.types.Rate.{Rate}
use Rattle.isp_base.specs.declared.types.Rate.TheVariants.{Uniform, Varying}
use Rattle.isp_base.specs.declared.types.Span.{Span}
use Rattle.isp_base.specs.declared.trap.TrapKind.TheVariants.{Divide, Index}
use Rattle.isp_typed.specs.declared.library.Library.{Library}
use Rattle.isp_typed.specs.declared.library.Library.TheVariants as library
use Rattle.isp_typed.specs.declared.variable.ArrayVariable.{ArrayVariable}
use Rattle.isp_typed.specs.Typed.{TExpr, t_constant, t_program_index, t_place, t_convert, t_cast, t_unary, t_binary, t_compare, t_logic, t_choose, t_call, t_library, t_packed_store, t_packed_load, TPlace, t_variable}
use Rattle.isp_typed.specs.Typed.{t_element, TArgument, t_by_value, t_by_name, TCall, t_called, TArguments, t_no_arguments, t_argument_then, TExprs, t_no_exprs, t_expr_then, elem_of, place_span}
use Rattle.isp_meaning.specs.State.{Frame, extent}
use Rattle.isp_meaning.specs.Payloads.{One, is_true, converted}
use Rattle.isp_meaning.specs.Expressions.{Passed, Values, Store, needs}
use Rattle.isp_solo_meaning.specs.Alone.{Alone, variable, noted}
use Rattle.isp_solo_meaning.specs.Answers.{Answer, Has, Bad, and_then, unless, choose}
use Rattle.isp_solo_meaning.specs.Places.{Spot, AVariable, AnElement}

-- what a call gives: of a function by its number, at a place in the text, with what is handed over, from a caller's frame
abbrev pub OwnCalls : Type 0
OwnCalls = ℕ → Span → List Passed → Frame → Alone → Answer ℕ

-- the library's functions that do not look across the gang; the others give 0, as no independent entry calls them
abbrev pub by_instance : Library → Elem → (x y z : ℕ) → ℕ
by_instance library.Min t x y z = op_bits op.Min t x y
by_instance library.Max t x y z = op_bits op.Max t x y
by_instance library.Clamp t x y z = op_bits op.Min t (op_bits op.Max t x y) z
by_instance library.Abs t x y z = unary_bits Absolute t x
by_instance library.Select t x y z = if is_true x then y else z
by_instance library.ReduceAdd t x y z = 0
by_instance library.ReduceMin t x y z = 0
by_instance library.ReduceMax t x y z = 0
by_instance library.ReduceEqual t x y z = 0
by_instance library.Any t x y z = 0
by_instance library.All t x y z = 0
by_instance library.None t x y z = 0
by_instance library.ScanAdd t x y z = 0
by_instance library.ScanAnd t x y z = 0
by_instance library.ScanOr t x y z = 0
by_instance library.Broadcast t x y z = 0
by_instance library.Rotate t x y z = 0
by_instance library.Shift t x y z = 0
by_instance library.Shuffle t x y z = 0
by_instance library.ShuffleTwo t x y z = 0
by_instance library.Extract t x y z = 0
by_instance library.Insert t x y z = 0

-- m: the shared arrays that the run begins with        p: the instance
module _ (m : ℕ → ℕ → ℕ) (p : ℕ) (frame : Frame) where
  -- what an array has at an element; of a shared one it is noted
  abbrev pub found : Rate → ArrayVariable → ℕ → Alone → Answer ℕ
  found Uniform b e s = Has (or_old (s.wrote (frame.named b.number) e) (m (frame.named b.number) e)) (noted (frame.named b.number) e s)
  found Varying b e s = Has (s.own b.number e) s

  -- what is held at a place; an index that is outside traps, and nothing is noted
  abbrev pub held : Span → Spot → Alone → Answer ℕ
  held place (AVariable v t) s = Has (variable t.rate v s) s
  held place (AnElement b t i) s = choose (is_outside t (extent frame b) i) (Bad (trap Index place p)) (found b.ty.rate b (element t i)) s

  module _ (calls : OwnCalls) where
    abbrev mutual
      pub answer : TExpr → Alone → Answer ℕ
      answer (t_constant v sp) s = Has (v.bits % 2 ^ width v.elem) s
      answer (t_program_index sp) s = Has p s
      answer (t_place q) s = and_then (spot q s) (λ r s1. held (place_span q) r s1)
      answer (t_convert e x) s = and_then (answer x s) (λ i s1. Has (converted (elem_of x) e i) s1)
      answer (t_cast x t sp) s = answer x s
      answer (t_unary op x t sp) s = and_then (answer x s) (λ i s1. Has (unary_bits op t.elem i) s1)
      -- the operands from left to right
      answer (t_binary op x y t sp) s =
          and_then (answer x s) (λ i s1. and_then (answer y s1) (λ j s2. unless (is_zero op t.elem j) Divide sp p s2 (op_bits op t.elem i j)))
      answer (t_compare c x y r sp) s =
          and_then (answer x s) (λ i s1. and_then (answer y s1) (λ j s2. Has (compare_bits c (elem_of x) i j) s2))
      -- a later operand where it is needed
      answer (t_logic l x y r sp) s = and_then (answer x s) (λ i s1. choose (needs l i) (answer y) (Has i) s1)
      answer (t_choose c x y t sp) s = and_then (answer c s) (λ i s1. choose (is_true i) (answer x) (answer y) s1)
      answer (t_call c t) s = answer_call c s
      answer (t_library f e xs t sp) s =
          and_then (answers xs s) (λ is s1. Has (by_instance f e (get_or is 0 0) (get_or is 1 0) (get_or is 2 0)) s1)
      -- no independent entry has packed calls
      answer (t_packed_store b x sp) s = Has 0 s
      answer (t_packed_load b v sp) s = Has 0 s

      -- the place is known once its index is
      pub spot : TPlace → Alone → Answer Spot
      spot (t_variable v t sp) s = Has (AVariable v t) s
      spot (t_element b i t sp) s = and_then (answer i s) (λ j s1. Has (AnElement b (elem_of i) j) s1)

      pub answers : TExprs → Alone → Answer (List ℕ)
      answers t_no_exprs s = Has [] s
      answers (t_expr_then x xs) s = and_then (answer x s) (λ i s1. and_then (answers xs s1) (λ is s2. Has (i ∷ is) s2))

      -- the arguments from left to right, then the call
      pub answer_call : TCall → Alone → Answer ℕ
      answer_call (t_called f xs sp) s = and_then (arguments xs s) (λ ps s1. calls f sp ps frame s1)

      pub arguments : TArguments → Alone → Answer (List Passed)
      arguments t_no_arguments s = Has [] s
      arguments (t_argument_then x xs) s = and_then (passed x s) (λ m s1. and_then (arguments xs s1) (λ ms s2. Has (m ∷ ms) s2))

      pub passed : TArgument → Alone → Answer Passed
      passed (t_by_value x) s = and_then (answer x s) (λ i s1. Has (Values (One i)) s1)
      passed (t_by_name b sp) s = Has (Store (frame.named b.number)) s
