-- Which variables an expression may write: those that packed loads in it read into. What a called function writes is its
-- own.
--     VariablesStay     a value changes no variable but those that a packed load in it writes
use Rattle.std.specs.Prelude.{◌≡◌, ℕ, Bool, false, ◌||◌, nat_eq}
use Rattle.isp_base.specs.Sets.{Mask}
use Rattle.isp_base.specs.Types.{gang_width}
use Rattle.isp_typed.specs.Typed.{Program, TExpr, t_constant, t_program_index, t_place, t_convert, t_cast, t_unary, t_binary, t_compare, t_logic, t_choose, t_call}
use Rattle.isp_typed.specs.Typed.{t_library, t_packed_store, t_packed_load, TPlace, t_variable, t_element, TBase, t_whole, t_from, TArgument, t_by_value, t_by_name, TCall}
use Rattle.isp_typed.specs.Typed.{t_called, TArguments, t_no_arguments, t_argument_then, TExprs, t_no_exprs, t_expr_then}
use Rattle.isp_meaning.specs.Calls.{calls_at}
use Rattle.isp_meaning.specs.Expressions.{value}
use Rattle.isp_meaning.specs.Outcomes.{Val, Gives, Fails, Stops}
use Rattle.isp_meaning.specs.State.{State, Frame}

-- ---- sets of variables, by their numbers

abbrev pub no_variable : ℕ → Bool
no_variable v = false

abbrev pub either : (ℕ → Bool) → (ℕ → Bool) → ℕ → Bool
either b c v = b v || c v

-- the variables that packed loads write
abbrev mutual
  pub loads : TExpr → ℕ → Bool
  loads (t_constant v sp) = no_variable
  loads (t_program_index sp) = no_variable
  loads (t_place q) = place_loads q
  loads (t_convert e x) = loads x
  loads (t_cast x t sp) = loads x
  loads (t_unary o x t sp) = loads x
  loads (t_binary o x y t sp) = either (loads x) (loads y)
  loads (t_compare c x y r sp) = either (loads x) (loads y)
  loads (t_logic l x y r sp) = either (loads x) (loads y)
  loads (t_choose c x y t sp) = either (loads c) (either (loads x) (loads y))
  loads (t_call c t) = call_loads c
  loads (t_library f e xs t sp) = all_load xs
  loads (t_packed_store b x sp) = either (base_loads b) (loads x)
  loads (t_packed_load b v sp) = either (base_loads b) (λ w. nat_eq w v)

  pub place_loads : TPlace → ℕ → Bool
  place_loads (t_variable v t sp) = no_variable
  place_loads (t_element b i t sp) = loads i

  pub base_loads : TBase → ℕ → Bool
  base_loads (t_whole b sp) = no_variable
  base_loads (t_from b i sp) = loads i

  pub all_load : TExprs → ℕ → Bool
  all_load t_no_exprs = no_variable
  all_load (t_expr_then x xs) = either (loads x) (all_load xs)

  pub call_loads : TCall → ℕ → Bool
  call_loads (t_called f xs sp) = arguments_load xs

  pub arguments_load : TArguments → ℕ → Bool
  arguments_load t_no_arguments = no_variable
  arguments_load (t_argument_then x xs) = either (argument_loads x) (arguments_load xs)

  pub argument_loads : TArgument → ℕ → Bool
  argument_loads (t_by_value x) = loads x
  argument_loads (t_by_name b sp) = no_variable

-- ---- the law

-- but for some varying ones, the variables are as they were, and so are the arrays of which each instance has its own and
-- what was returned
abbrev pub KeepsVariables : (ℕ → Bool) → State → State → Type 0
KeepsVariables but s s1 =
    (s1.uniforms ≡ s.uniforms) × ((v : ℕ) → but v ≡ false → s1.varying v ≡ s.varying v) × (s1.own ≡ s.own) × (s1.result ≡ s.result) × (s1.results ≡ s.results)

abbrev pub KeepsBy : {A : Type 0} → (ℕ → Bool) → State → Val A → Type 0
KeepsBy but s (Gives x s1) = KeepsVariables but s s1
KeepsBy but s (Fails t s1) = Unit {0}
KeepsBy but s (Stops s1) = Unit {0}

abbrev pub VariablesStay : Type 0
VariablesStay =
    (program : Program) (most left : ℕ) (frame : Frame) (x : TExpr) (a : Mask) (s : State) → KeepsBy (loads x) s (value (gang_width program.gang) frame (calls_at program most left) x a s)
