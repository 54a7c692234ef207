-- What code does beyond its own variables: where it stores in arrays, what it hands to calls, what it calls, and what it prints.
use Rattle.std.specs.Prelude.{ℕ, List, [], ◌∷◌, Option, Some, None}
use Rattle.isp_typed.specs.declared.variable.ArrayVariable.{ArrayVariable}
use Rattle.isp_typed.specs.Typed.{TExpr, t_constant, t_program_index, t_place, t_convert, t_cast, t_unary, t_binary, t_compare, t_logic, t_choose, t_call, t_library, t_packed_store, t_packed_load, TPlace, t_variable, t_element}
use Rattle.isp_typed.specs.Typed.{TBase, t_whole, t_from}
use Rattle.isp_typed.specs.Typed.{TArgument, t_by_value, t_by_name, TCall, t_called, TArguments, t_no_arguments, t_argument_then, TExprs, t_no_exprs, t_expr_then, TItem, t_plain, t_with_value, t_with_size, TSimple, t_value, t_run}
use Rattle.isp_typed.specs.Typed.{t_assign, t_update, t_step}
use Rattle.isp_typed.specs.Typed.{TFirst, t_first_declare, t_first_simple, TRange, TStmt, t_block, t_declare, t_simple, t_if, t_if_else, t_while, t_do, t_for, t_foreach, t_foreach_active, t_foreach_unique, t_unmasked, t_jump}
use Rattle.isp_typed.specs.Typed.{t_return, t_print, t_assert, TBlock, t_braces, TStmts, t_no_stmts, t_stmt_then}
use Rattle.isp_meaning.specs.Expressions.{base_array}

pub data Act : Type 0 where
  -- a store in an element, at an index; in a run of elements, by a packed store; in the whole array, which is declared
  At : ArrayVariable → TExpr → Act
  Packed : ArrayVariable → Act
  Whole : ArrayVariable → Act
  -- an array is handed to a call
  Handed : ArrayVariable → Act
  Called : (function : ℕ) → Act
  Printed : Act

-- P holds of each act that stands in the code, one line a node
module _ (P : Act → Type 0) where
  abbrev mutual
    pub Each : TExpr → Type 0
    Each (t_constant v sp) = Unit {0}
    Each (t_program_index sp) = Unit {0}
    Each (t_place q) = EachPlace q
    Each (t_convert e x) = Each x
    Each (t_cast x t sp) = Each x
    Each (t_unary op x t sp) = Each x
    Each (t_binary op x y t sp) = Each x × Each y
    Each (t_compare c x y r sp) = Each x × Each y
    Each (t_logic l x y r sp) = Each x × Each y
    Each (t_choose c x y t sp) = Each c × Each x × Each y
    Each (t_call c t) = EachCall c
    Each (t_library f e xs t sp) = EachValue xs
    Each (t_packed_store b x sp) = P (Packed (base_array b)) × EachBase b × Each x
    Each (t_packed_load b v sp) = EachBase b

    pub EachPlace : TPlace → Type 0
    EachPlace (t_variable v t sp) = Unit {0}
    EachPlace (t_element b i t sp) = Each i

    pub EachBase : TBase → Type 0
    EachBase (t_whole b sp) = Unit {0}
    EachBase (t_from b i sp) = Each i

    pub EachValue : TExprs → Type 0
    EachValue t_no_exprs = Unit {0}
    EachValue (t_expr_then x xs) = Each x × EachValue xs

    pub EachCall : TCall → Type 0
    EachCall (t_called f xs sp) = P (Called f) × EachArgument xs

    pub EachArgument : TArguments → Type 0
    EachArgument t_no_arguments = Unit {0}
    EachArgument (t_argument_then x xs) = OfArgument x × EachArgument xs

    pub OfArgument : TArgument → Type 0
    OfArgument (t_by_value x) = Each x
    OfArgument (t_by_name b sp) = P (Handed b)

  -- of a place that is assigned
  abbrev pub OfTarget : TPlace → Type 0
  OfTarget (t_variable v t sp) = Unit {0}
  OfTarget (t_element b i t sp) = P (At b i) × Each i

  abbrev pub OfItem : TItem → Type 0
  OfItem (t_plain v t sp) = Unit {0}
  OfItem (t_with_value v t x sp) = Each x
  OfItem (t_with_size b sp) = P (Whole b)

  abbrev pub EachItem : List TItem → Type 0
  EachItem [] = Unit {0}
  EachItem (x ∷ xs) = OfItem x × EachItem xs

  abbrev pub OfSimple : TSimple → Type 0
  OfSimple (t_value x) = Each x
  OfSimple (t_run c) = EachCall c
  OfSimple (t_assign q x sp) = OfTarget q × Each x
  OfSimple (t_update op e q x sp) = OfTarget q × Each x
  OfSimple (t_step op e q sp) = OfTarget q

  abbrev pub OfFirst : Option TFirst → Type 0
  OfFirst None = Unit {0}
  OfFirst (Some (t_first_declare xs sp)) = EachItem xs
  OfFirst (Some (t_first_simple x)) = OfSimple x

  abbrev pub OfStep : Option TSimple → Type 0
  OfStep None = Unit {0}
  OfStep (Some x) = OfSimple x

  abbrev pub OfTest : Option TExpr → Type 0
  OfTest None = Unit {0}
  OfTest (Some x) = Each x

  abbrev pub EachOf : List TExpr → Type 0
  EachOf [] = Unit {0}
  EachOf (x ∷ xs) = Each x × EachOf xs

  abbrev pub EachRange : List TRange → Type 0
  EachRange [] = Unit {0}
  EachRange (r ∷ rs) = Each r.start × Each r.end × EachRange rs

  abbrev mutual
    pub OfStmt : TStmt → Type 0
    OfStmt (t_block b) = OfBlock b
    OfStmt (t_declare xs sp) = EachItem xs
    OfStmt (t_simple x sp) = OfSimple x
    OfStmt (t_if f k e x sp) = Each e × OfStmt x
    OfStmt (t_if_else f k e x y sp) = Each e × OfStmt x × OfStmt y
    OfStmt (t_while f k e x sp) = Each e × OfStmt x
    OfStmt (t_do f k x e sp) = Each e × OfStmt x
    OfStmt (t_for f k first e step i x sp) = OfFirst first × OfTest e × OfStep step × OfStmt x
    OfStmt (t_foreach w k rs x sp) = EachRange rs × OfStmt x
    OfStmt (t_foreach_active w k i x sp) = OfStmt x
    OfStmt (t_foreach_unique w k i t e x sp) = Each e × OfStmt x
    OfStmt (t_unmasked w b sp) = OfBlock b
    OfStmt (t_jump j w sp) = Unit {0}
    OfStmt (t_return w x sp) = OfTest x
    OfStmt (t_print w text xs sp) = P Printed × EachOf xs
    OfStmt (t_assert x c sp) = Each x

    pub OfBlock : TBlock → Type 0
    OfBlock (t_braces xs sp) = EachStmt xs

    pub EachStmt : TStmts → Type 0
    EachStmt t_no_stmts = Unit {0}
    EachStmt (t_stmt_then x xs) = OfStmt x × EachStmt xs
