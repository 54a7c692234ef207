-- Rates: where a uniform value is wanted and a varying one stands (30). One line for each kind of node.
use Rattle.std.specs.Prelude.{◌⊎◌, ℕ, Bool, true, false, List, [], ◌∷◌, Option, Some, None, slice_get}
use Rattle.isp_base.specs.declared.types.Rate.{Rate}
use Rattle.isp_base.specs.declared.types.Rate.TheVariants.{Uniform, Varying}
use Rattle.isp_base.specs.declared.types.Span.{Span}
use Rattle.isp_lex.specs.declared.fault.Fault.{Fault}
use Rattle.isp_lex.specs.declared.fault.Rule.TheVariants.{VaryingToUniform}
use Rattle.isp_lex.specs.Faults.{fault}
use Rattle.isp_typed.specs.declared.library.Part.{Part}
use Rattle.isp_typed.specs.declared.variable.Holds.{Holds}
use Rattle.isp_typed.specs.declared.variable.Holds.TheVariants.{Value, Given, Local}
use Rattle.isp_typed.specs.declared.variable.Variable.{Variable}
use Rattle.isp_typed.specs.Library.{parts, asks_uniform}
use Rattle.isp_typed.specs.Typed.{TExpr, t_constant, t_program_index, t_place, t_convert, t_cast, t_unary, t_binary, t_compare, t_logic, t_choose, t_call, t_library, t_packed_store, t_packed_load, type_of, span_of}
use Rattle.isp_typed.specs.Typed.{TPlace, t_variable, t_element, TBase, t_whole, t_from, TArgument, t_by_value, t_by_name, TCall, t_called, TArguments, t_no_arguments, t_argument_then, TExprs, t_no_exprs, t_expr_then, TFunction}
use Rattle.isp_rates.specs.Breaches.{Unmet}

-- a uniform value may stand anywhere, a varying one where a varying one is wanted
abbrev pub goes_to : Rate → Rate → Bool
goes_to Varying given = true
goes_to Uniform Uniform = true
goes_to Uniform Varying = false

-- what is given has another rate than is wanted
abbrev pub RateBreach : Rate → Rate → Span → Fault → Type 0
RateBreach wanted given s = Unmet (goes_to wanted given) (fault VaryingToUniform s)

-- an expression where a rate is wanted. B are its own breaches: one whose part is faulty has no fault of its own.
abbrev pub DemandBreach : Rate → TExpr → (Fault → Type 0) → Fault → Type 0
DemandBreach wanted x B f = B f ⊎ (((g : Fault) → B g → ⊥) × RateBreach wanted (type_of x).rate (span_of x) f)

-- ---- what a place takes

-- a parameter that is an array takes one for the gang
abbrev pub rate_held : Holds → Rate
rate_held (Value t) = t.rate
rate_held (Given e) = Uniform
rate_held (Local t n) = t.rate

-- the variables of a function, its parameters first
abbrev pub variables_of : List TFunction → ℕ → List Variable
variables_of fs n = held (slice_get fs n)
  where
    held : Option TFunction → List Variable
    held None = []
    held (Some g) = g.variables

-- each argument goes to the next parameter
abbrev pub next_rate : List Variable → Rate
next_rate [] = Varying
next_rate (v ∷ vs) = rate_held v.holds

abbrev pub later : {A : Type 0} → List A → List A
later [] = []
later (a ∷ rest) = rest

-- each value of a library call to the next place of the library's table
abbrev pub part_rate : Part → Rate
part_rate p = rate_asked (asks_uniform p)
  where
    rate_asked : Bool → Rate
    rate_asked true = Uniform
    rate_asked false = Varying

abbrev pub next_part : List Part → Rate
next_part [] = Varying
next_part (p ∷ ps) = part_rate p

-- ---- expressions, in a program of these functions

module _ (fs : List TFunction) where
  abbrev mutual
    pub ExprBreach : TExpr → Fault → Type 0
    ExprBreach (t_constant v s) f = ⊥
    ExprBreach (t_program_index s) f = ⊥
    ExprBreach (t_place p) f = PlaceBreach p f
    ExprBreach (t_convert e x) f = ExprBreach x f
    -- a cast with `uniform` takes a uniform value; one without a rate, and brackets, have the operand's
    ExprBreach (t_cast x t s) f = DemandBreach t.rate x (ExprBreach x) f
    ExprBreach (t_unary op x t s) f = ExprBreach x f
    ExprBreach (t_binary op x y t s) f = ExprBreach x f ⊎ ExprBreach y f
    ExprBreach (t_compare c x y r s) f = ExprBreach x f ⊎ ExprBreach y f
    ExprBreach (t_logic l x y r s) f = ExprBreach x f ⊎ ExprBreach y f
    ExprBreach (t_choose c x y t s) f = ExprBreach c f ⊎ ExprBreach x f ⊎ ExprBreach y f
    ExprBreach (t_call c t) f = CallBreach c f
    -- the values marked uniform in the library's table are uniform
    ExprBreach (t_library g e xs t s) f = ValuesBreach (parts g) xs f
    -- the array of a packed call is one for the gang, and its index is uniform
    ExprBreach (t_packed_store b x s) f = BaseBreach b f ⊎ ExprBreach x f
    ExprBreach (t_packed_load b v s) f = BaseBreach b f

    pub PlaceBreach : TPlace → Fault → Type 0
    PlaceBreach (t_variable v t s) f = ⊥
    -- an index is uniform or varying
    PlaceBreach (t_element a x t s) f = ExprBreach x f

    pub BaseBreach : TBase → Fault → Type 0
    BaseBreach (t_whole a s) f = RateBreach Uniform a.ty.rate s f
    BaseBreach (t_from a x s) f = RateBreach Uniform a.ty.rate s f ⊎ DemandBreach Uniform x (ExprBreach x) f

    -- an argument has the rate of its parameter
    pub ArgumentBreach : Rate → TArgument → Fault → Type 0
    ArgumentBreach wanted (t_by_value x) f = DemandBreach wanted x (ExprBreach x) f
    ArgumentBreach wanted (t_by_name a s) f = RateBreach wanted a.ty.rate s f

    pub CallBreach : TCall → Fault → Type 0
    CallBreach (t_called g xs s) f = ArgumentsBreach (variables_of fs g) xs f

    pub ArgumentsBreach : List Variable → TArguments → Fault → Type 0
    ArgumentsBreach vs t_no_arguments f = ⊥
    ArgumentsBreach vs (t_argument_then x xs) f = ArgumentBreach (next_rate vs) x f ⊎ ArgumentsBreach (later vs) xs f

    pub ValuesBreach : List Part → TExprs → Fault → Type 0
    ValuesBreach ps t_no_exprs f = ⊥
    ValuesBreach ps (t_expr_then x xs) f = DemandBreach (next_part ps) x (ExprBreach x) f ⊎ ValuesBreach (later ps) xs f
