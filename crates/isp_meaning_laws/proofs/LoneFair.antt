-- What the law asks of a node, one line each: it looks at nobody, a shared array in it is open, and where its type is uniform
-- its parts are.
use Rattle.std.specs.Prelude.{◌≡◌, ℕ, ◌<◌, List, [], ◌∷◌, Option, Some, None, false, slice_get}
use Rattle.isp_base.specs.declared.types.Rate.{Rate}
use Rattle.isp_base.specs.declared.types.Rate.TheVariants.{Uniform, Varying}
use Rattle.isp_base.specs.declared.types.Ty.{Ty}
use Rattle.isp_typed.specs.declared.variable.Holds.{Holds}
use Rattle.isp_typed.specs.declared.variable.Holds.TheVariants as holds
use Rattle.isp_typed.specs.declared.variable.Variable.{Variable}
use Rattle.isp_typed.specs.Fine.{params_of, rates_of}
use Rattle.isp_typed.specs.Typed.{TExpr, t_constant, t_program_index, t_place, t_convert, t_cast, t_unary, t_binary, t_compare, t_logic, t_choose, t_call, t_library}
use Rattle.isp_typed.specs.Typed.{t_packed_store, t_packed_load, TPlace, t_variable, t_element, TArgument, t_by_value, t_by_name, TCall, t_called, TArguments}
use Rattle.isp_typed.specs.Typed.{t_no_arguments, t_argument_then, TExprs, t_no_exprs, t_expr_then, TFunction, rate_of, place_type}
use Rattle.isp_typed.specs.Typed.{TItem, t_plain, t_with_value, t_with_size, TSimple, t_value, t_run, t_assign, t_update, t_step, TFirst, t_first_declare, t_first_simple}
use Rattle.isp_typed.specs.Typed.{TStmt, t_block, t_declare, t_simple, t_if, t_if_else, t_while, t_do, t_for, t_foreach, t_foreach_active, t_foreach_unique}
use Rattle.isp_typed.specs.Typed.{t_unmasked, t_jump, t_return, t_print, t_assert, TBlock, t_braces, TStmts, t_no_stmts, t_stmt_then}
use Rattle.isp_tree.specs.Sound.{IfAny}
use Rattle.isp_independence.specs.Crossing.{looks_across}
use Rattle.isp_meaning.specs.State.{Frame}
use Rattle.isp_meaning_laws.proofs.LoneSims.{Follows}

-- an array that all instances share is one of the open ones
abbrev pub IsOpen : Frame → Rate → ℕ → Type 0
IsOpen frame Uniform k = frame.named k < frame.opened
IsOpen frame Varying k = Unit {0}

module _ (frame : Frame) (fs : List TFunction) (IsCallable : ℕ → Type 0) where
  abbrev mutual
    pub Fair : TExpr → Type 0
    Fair (t_constant c s) = Unit {0}
    Fair (t_program_index s) = Unit {0}
    Fair (t_place q) = FairPlace q
    Fair (t_convert e x) = Fair x
    Fair (t_cast x t s) = Fair x × Follows t.rate (rate_of x)
    Fair (t_unary op x t s) = Fair x × Follows t.rate (rate_of x)
    Fair (t_binary op x y t s) = Fair x × Fair y × Follows t.rate (rate_of x) × Follows t.rate (rate_of y)
    Fair (t_compare c x y r s) = Fair x × Fair y × Follows r (rate_of x) × Follows r (rate_of y)
    Fair (t_logic l x y r s) = Fair x × Fair y × Follows r (rate_of x) × Follows r (rate_of y)
    Fair (t_choose c x y t s) = Fair c × Fair x × Fair y × Follows t.rate (rate_of c) × Follows t.rate (rate_of x) × Follows t.rate (rate_of y)
    Fair (t_call c t) = FairCall c (Some t)
    Fair (t_library f e xs t s) = (looks_across f ≡ false) × FairAll xs × Follows t.rate (rates_of xs)
    Fair (t_packed_store b x s) = ⊥
    Fair (t_packed_load b k s) = ⊥

    pub FairPlace : TPlace → Type 0
    FairPlace (t_variable k t s) = Unit {0}
    FairPlace (t_element a i t s) = Fair i × IsOpen frame a.ty.rate a.number × Follows t.rate a.ty.rate × Follows t.rate (rate_of i)

    pub FairAll : TExprs → Type 0
    FairAll t_no_exprs = Unit {0}
    FairAll (t_expr_then x xs) = Fair x × FairAll xs

    -- the function gives this, and each argument suits its parameter
    pub FairCall : TCall → Option Ty → Type 0
    FairCall (t_called k xs s) answer = (g : TFunction) × (slice_get fs k ≡ Some g) × (g.answer ≡ answer) × IsCallable k × FairArguments (params_of g) xs

    pub FairArguments : List Variable → TArguments → Type 0
    FairArguments [] t_no_arguments = Unit {0}
    FairArguments [] (t_argument_then x xs) = ⊥
    FairArguments (u ∷ us) t_no_arguments = ⊥
    FairArguments (u ∷ us) (t_argument_then x xs) = FairArgument u.holds x × FairArguments us xs

    pub FairArgument : Holds → TArgument → Type 0
    FairArgument (holds.Value t) (t_by_value x) = Fair x × Follows t.rate (rate_of x)
    FairArgument (holds.Given e) (t_by_name a s) = frame.named a.number < frame.opened
    FairArgument h x = ⊥

  -- what is assigned has the rate of its place
  abbrev pub FairSimple : TSimple → Type 0
  FairSimple (t_value x) = Fair x
  FairSimple (t_run c) = FairCall c None
  FairSimple (t_assign q x s) = FairPlace q × Fair x × Follows (place_type q).rate (rate_of x)
  FairSimple (t_update op e q x s) = FairPlace q × Fair x × Follows (place_type q).rate (rate_of x)
  FairSimple (t_step op e q s) = FairPlace q

  abbrev pub FairItem : TItem → Type 0
  FairItem (t_plain k t s) = Unit {0}
  FairItem (t_with_value k t x s) = Fair x × Follows t.rate (rate_of x)
  FairItem (t_with_size b s) = b.ty.rate ≡ Varying

  abbrev pub FairItems : List TItem → Type 0
  FairItems [] = Unit {0}
  FairItems (x ∷ xs) = FairItem x × FairItems xs

  abbrev pub FairFirst : TFirst → Type 0
  FairFirst (t_first_declare xs s) = FairItems xs
  FairFirst (t_first_simple x) = FairSimple x

  -- the answer of the function is that of its frame
  abbrev pub FairReturned : Option Ty → Option TExpr → Type 0
  FairReturned a None = Unit {0}
  FairReturned None (Some x) = ⊥
  FairReturned (Some t) (Some x) = Fair x × Follows t.rate (rate_of x)

  abbrev mutual
    pub FairStmt : TStmt → Type 0
    FairStmt (t_block b) = FairBlock b
    FairStmt (t_declare xs s) = FairItems xs
    FairStmt (t_simple x s) = FairSimple x
    FairStmt (t_if f n e x s) = Fair e × FairStmt x
    FairStmt (t_if_else f n e x y s) = Fair e × FairStmt x × FairStmt y
    FairStmt (t_while f n e x s) = Fair e × FairStmt x
    FairStmt (t_do f n x e s) = Fair e × FairStmt x
    FairStmt (t_for f n i e p m x s) = IfAny FairFirst i × IfAny Fair e × IfAny FairSimple p × FairStmt x
    FairStmt (t_foreach w n rs x s) = ⊥
    FairStmt (t_foreach_active w n i x s) = FairStmt x
    FairStmt (t_foreach_unique w n i t e x s) = Fair e × FairStmt x
    FairStmt (t_unmasked w b s) = ⊥
    FairStmt (t_jump j w s) = Unit {0}
    FairStmt (t_return w x s) = FairReturned frame.answer x
    FairStmt (t_print w text xs s) = ⊥
    FairStmt (t_assert x c s) = Fair x

    pub FairBlock : TBlock → Type 0
    FairBlock (t_braces xs s) = FairStmts xs

    pub FairStmts : TStmts → Type 0
    FairStmts t_no_stmts = Unit {0}
    FairStmts (t_stmt_then x xs) = FairStmt x × FairStmts xs
