-- What holds of each expression in a body, of its parts too.
use Rattle.std.specs.Prelude.{List, [], ◌∷◌}
use Rattle.isp_tree.specs.Sound.{IfAny}
use Rattle.isp_typed.specs.Typed.{TExpr, t_constant, t_program_index, t_place, t_convert, t_cast, t_unary, t_binary, t_compare, t_logic, t_choose, t_call, t_library, t_packed_store, t_packed_load, TPlace, t_variable, t_element}
use Rattle.isp_typed.specs.Typed.{TBase, t_whole, t_from, TArgument, t_by_value, t_by_name, TCall, t_called, TArguments, t_no_arguments, t_argument_then, TExprs, t_no_exprs, t_expr_then}
use Rattle.isp_typed.specs.Typed.{TItem, t_plain, t_with_value, t_with_size, TSimple, t_value, t_run, t_assign, t_update, t_step, TFirst, t_first_declare, t_first_simple, TRange}
use Rattle.isp_typed.specs.Typed.{TStmt, t_block, t_declare, t_simple, t_if, t_if_else, t_while, t_do, t_for, t_foreach, t_foreach_active, t_foreach_unique}
use Rattle.isp_typed.specs.Typed.{t_unmasked, t_jump, t_return, t_print, t_assert, TBlock, t_braces, TStmts, t_no_stmts, t_stmt_then}

module _ (P : TExpr → Type 0) where
  abbrev mutual
    pub ThroughExpr : TExpr → Type 0
    ThroughExpr (t_constant v s) = P (t_constant v s)
    ThroughExpr (t_program_index s) = P (t_program_index s)
    ThroughExpr (t_place p) = P (t_place p) × ThroughPlace p
    ThroughExpr (t_convert e x) = P (t_convert e x) × ThroughExpr x
    ThroughExpr (t_cast x t s) = P (t_cast x t s) × ThroughExpr x
    ThroughExpr (t_unary op x t s) = P (t_unary op x t s) × ThroughExpr x
    ThroughExpr (t_binary op x y t s) = P (t_binary op x y t s) × ThroughExpr x × ThroughExpr y
    ThroughExpr (t_compare c x y r s) = P (t_compare c x y r s) × ThroughExpr x × ThroughExpr y
    ThroughExpr (t_logic l x y r s) = P (t_logic l x y r s) × ThroughExpr x × ThroughExpr y
    ThroughExpr (t_choose c x y t s) = P (t_choose c x y t s) × ThroughExpr c × ThroughExpr x × ThroughExpr y
    ThroughExpr (t_call c t) = P (t_call c t) × ThroughCall c
    ThroughExpr (t_library f e xs t s) = P (t_library f e xs t s) × ThroughValues xs
    ThroughExpr (t_packed_store b x s) = P (t_packed_store b x s) × ThroughBase b × ThroughExpr x
    ThroughExpr (t_packed_load b v s) = P (t_packed_load b v s) × ThroughBase b

    pub ThroughPlace : TPlace → Type 0
    ThroughPlace (t_variable v t s) = Unit {0}
    ThroughPlace (t_element a i t s) = ThroughExpr i

    pub ThroughBase : TBase → Type 0
    ThroughBase (t_whole a s) = Unit {0}
    ThroughBase (t_from a i s) = ThroughExpr i

    pub ThroughArgument : TArgument → Type 0
    ThroughArgument (t_by_value x) = ThroughExpr x
    ThroughArgument (t_by_name a s) = Unit {0}

    pub ThroughCall : TCall → Type 0
    ThroughCall (t_called f xs s) = ThroughArguments xs

    pub ThroughArguments : TArguments → Type 0
    ThroughArguments t_no_arguments = Unit {0}
    ThroughArguments (t_argument_then x xs) = ThroughArgument x × ThroughArguments xs

    pub ThroughValues : TExprs → Type 0
    ThroughValues t_no_exprs = Unit {0}
    ThroughValues (t_expr_then x xs) = ThroughExpr x × ThroughValues xs

  abbrev pub ThroughList : List TExpr → Type 0
  ThroughList [] = Unit {0}
  ThroughList (x ∷ xs) = ThroughExpr x × ThroughList xs

  abbrev pub ThroughItem : TItem → Type 0
  ThroughItem (t_plain v t s) = Unit {0}
  ThroughItem (t_with_value v t x s) = ThroughExpr x
  ThroughItem (t_with_size a s) = Unit {0}

  abbrev pub ThroughItems : List TItem → Type 0
  ThroughItems [] = Unit {0}
  ThroughItems (x ∷ xs) = ThroughItem x × ThroughItems xs

  abbrev pub ThroughSimple : TSimple → Type 0
  ThroughSimple (t_value x) = ThroughExpr x
  ThroughSimple (t_run c) = ThroughCall c
  ThroughSimple (t_assign p x s) = ThroughPlace p × ThroughExpr x
  ThroughSimple (t_update op e p x s) = ThroughPlace p × ThroughExpr x
  ThroughSimple (t_step op e p s) = ThroughPlace p

  abbrev pub ThroughFirst : TFirst → Type 0
  ThroughFirst (t_first_declare xs s) = ThroughItems xs
  ThroughFirst (t_first_simple x) = ThroughSimple x

  abbrev pub ThroughRanges : List TRange → Type 0
  ThroughRanges [] = Unit {0}
  ThroughRanges (r ∷ rs) = ThroughExpr r.start × ThroughExpr r.end × ThroughRanges rs

  abbrev mutual
    pub ThroughStmt : TStmt → Type 0
    ThroughStmt (t_block b) = ThroughBlock b
    ThroughStmt (t_declare xs s) = ThroughItems xs
    ThroughStmt (t_simple x s) = ThroughSimple x
    ThroughStmt (t_if f k e x s) = ThroughExpr e × ThroughStmt x
    ThroughStmt (t_if_else f k e x y s) = ThroughExpr e × ThroughStmt x × ThroughStmt y
    ThroughStmt (t_while f k e x s) = ThroughExpr e × ThroughStmt x
    ThroughStmt (t_do f k x e s) = ThroughStmt x × ThroughExpr e
    ThroughStmt (t_for f k first e step i x s) = IfAny ThroughFirst first × IfAny ThroughExpr e × IfAny ThroughSimple step × ThroughStmt x
    ThroughStmt (t_foreach w k rs x s) = ThroughRanges rs × ThroughStmt x
    ThroughStmt (t_foreach_active w k i x s) = ThroughStmt x
    ThroughStmt (t_foreach_unique w k i t e x s) = ThroughExpr e × ThroughStmt x
    ThroughStmt (t_unmasked w b s) = ThroughBlock b
    ThroughStmt (t_jump j w s) = Unit {0}
    ThroughStmt (t_return w x s) = IfAny ThroughExpr x
    ThroughStmt (t_print w text xs s) = ThroughList xs
    ThroughStmt (t_assert x c s) = ThroughExpr x

    pub ThroughBlock : TBlock → Type 0
    ThroughBlock (t_braces xs s) = ThroughStmts xs

    pub ThroughStmts : TStmts → Type 0
    ThroughStmts t_no_stmts = Unit {0}
    ThroughStmts (t_stmt_then x xs) = ThroughStmt x × ThroughStmts xs
