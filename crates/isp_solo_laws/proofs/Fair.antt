-- What the law asks of an expression, one line a node: it looks at no other instance, a uniform variable in it is in scope, a
-- shared array in it is open, and where its type is uniform its parts are.
use Rattle.std.specs.Prelude.{◌≡◌, ℕ, ◌<◌, List, [], ◌∷◌, Option, Some, true, false, slice_get}
use Rattle.isp_base.specs.declared.types.Rate.{Rate}
use Rattle.isp_base.specs.declared.types.Rate.TheVariants.{Uniform}
use Rattle.isp_base.specs.declared.types.Ty.{Ty}
use Rattle.isp_typed.specs.declared.variable.Holds.{Holds}
use Rattle.isp_typed.specs.declared.variable.Holds.TheVariants as holds
use Rattle.isp_typed.specs.declared.variable.Variable.{Variable}
use Rattle.isp_typed.specs.Fine.{params_of, rates_of}
use Rattle.isp_typed.specs.Scoped.{Scope}
use Rattle.isp_typed.specs.Typed.{TExpr, t_constant, t_program_index, t_place, t_convert, t_cast, t_unary, t_binary, t_compare, t_logic, t_choose, t_call, t_library, t_packed_store, t_packed_load, TPlace, t_variable}
use Rattle.isp_typed.specs.Typed.{t_element, TArgument, t_by_value, t_by_name, TCall, t_called, TArguments, t_no_arguments, t_argument_then, TExprs, t_no_exprs, t_expr_then, TFunction, rate_of}
use Rattle.isp_independence.specs.Crossing.{looks_across}
use Rattle.isp_meaning.specs.State.{Frame}
use Rattle.isp_solo_laws.specs.Stands.{IsOpen}

-- where q is uniform, r is
abbrev pub Follows : Rate → Rate → Type 0
Follows q r = q ≡ Uniform → r ≡ Uniform

module _ (frame : Frame) (fs : List TFunction) (IsCallable : ℕ → Type 0) (v : Scope) where
  abbrev mutual
    pub Fair : TExpr → Type 0
    Fair (t_constant c s) = Unit {0}
    Fair (t_program_index s) = Unit {0}
    Fair (t_place q) = FairPlace q
    Fair (t_convert e x) = Fair x
    Fair (t_cast x t s) = Fair x × Follows t.rate (rate_of x)
    Fair (t_unary op x t s) = Fair x × Follows t.rate (rate_of x)
    Fair (t_binary op x y t s) = Fair x × Fair y × Follows t.rate (rate_of x) × Follows t.rate (rate_of y)
    Fair (t_compare c x y r s) = Fair x × Fair y × Follows r (rate_of x) × Follows r (rate_of y)
    Fair (t_logic l x y r s) = Fair x × Fair y × Follows r (rate_of x) × Follows r (rate_of y)
    Fair (t_choose c x y t s) = Fair c × Fair x × Fair y × Follows t.rate (rate_of c) × Follows t.rate (rate_of x) × Follows t.rate (rate_of y)
    Fair (t_call c t) = FairCall c (Some t)
    Fair (t_library f e xs t s) = (looks_across f ≡ false) × FairAll xs × Follows t.rate (rates_of xs)
    Fair (t_packed_store b x s) = ⊥
    Fair (t_packed_load b k s) = ⊥

    pub FairPlace : TPlace → Type 0
    FairPlace (t_variable k t s) = t.rate ≡ Uniform → v k ≡ true
    FairPlace (t_element a i t s) = Fair i × IsOpen frame a.ty.rate a.number × Follows t.rate a.ty.rate × Follows t.rate (rate_of i)

    pub FairAll : TExprs → Type 0
    FairAll t_no_exprs = Unit {0}
    FairAll (t_expr_then x xs) = Fair x × FairAll xs

    -- the function gives this, and each argument suits its parameter
    pub FairCall : TCall → Option Ty → Type 0
    FairCall (t_called k xs s) answer = (g : TFunction) × (slice_get fs k ≡ Some g) × (g.answer ≡ answer) × IsCallable k × FairArguments (params_of g) xs

    pub FairArguments : List Variable → TArguments → Type 0
    FairArguments [] t_no_arguments = Unit {0}
    FairArguments [] (t_argument_then x xs) = ⊥
    FairArguments (u ∷ us) t_no_arguments = ⊥
    FairArguments (u ∷ us) (t_argument_then x xs) = FairArgument u.holds x × FairArguments us xs

    pub FairArgument : Holds → TArgument → Type 0
    FairArgument (holds.Value t) (t_by_value x) = Fair x × Follows t.rate (rate_of x)
    FairArgument (holds.Given e) (t_by_name a s) = frame.named a.number < frame.opened
    FairArgument h x = ⊥
