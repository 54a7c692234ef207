-- Typed trees: what a program says by its names and types. A variable is known by its number among those of its
-- function, a function by its number in the program. A span is the place of a node.
use Rattle.std.specs.Prelude.{ℕ, List, [], ◌∷◌, Bool, Option}
use Rattle.isp_base.specs.declared.types.Elem.{Elem}
use Rattle.isp_base.specs.declared.types.Elem.TheVariants.{Bool as Truth, I32}
use Rattle.isp_base.specs.declared.types.Gang.{Gang}
use Rattle.isp_base.specs.declared.types.Rate.{Rate}
use Rattle.isp_base.specs.declared.types.Rate.TheVariants.{Uniform, Varying}
use Rattle.isp_base.specs.declared.types.Span.{Span}
use Rattle.isp_base.specs.declared.types.Ty.{Ty}
use Rattle.isp_base.specs.declared.types.Value.{Value}
use Rattle.isp_base.specs.declared.operators.BinOp.{BinOp}
use Rattle.isp_base.specs.declared.operators.Compare.{Compare}
use Rattle.isp_base.specs.declared.operators.UnaryOp.{UnaryOp}
use Rattle.isp_base.specs.declared.signature.Parameter.{Parameter}
use Rattle.isp_tree.specs.declared.stmt.Form.{Form}
use Rattle.isp_tree.specs.declared.stmt.Jump.{Jump}
use Rattle.isp_typed.specs.declared.library.Library.{Library}
use Rattle.isp_typed.specs.declared.variable.ArrayVariable.{ArrayVariable}
use Rattle.isp_typed.specs.declared.variable.Logic.{Logic}
use Rattle.isp_typed.specs.declared.variable.Variable.{Variable}

-- ---- expressions: each gives a value

mutual
  pub data TExpr : Type 0 where
    t_constant : (value : Value) (span : Span) → TExpr
    t_program_index : (span : Span) → TExpr
    t_place : TPlace → TExpr
    -- no node of the source
    t_convert : (elem : Elem) (operand : TExpr) → TExpr
    -- a cast or brackets
    t_cast : (operand : TExpr) (ty : Ty) (span : Span) → TExpr
    t_unary : (operator : UnaryOp) (operand : TExpr) (ty : Ty) (span : Span) → TExpr
    t_binary : (operator : BinOp) (left right : TExpr) (ty : Ty) (span : Span) → TExpr
    t_compare : (comparison : Compare) (left right : TExpr) (rate : Rate) (span : Span) → TExpr
    t_logic : (logic : Logic) (left right : TExpr) (rate : Rate) (span : Span) → TExpr
    t_choose : (test then otherwise : TExpr) (ty : Ty) (span : Span) → TExpr
    t_call : TCall → (ty : Ty) → TExpr
    -- the library works in the element type
    t_library : (function : Library) (elem : Elem) (values : TExprs) (ty : Ty) (span : Span) → TExpr
    t_packed_store : (base : TBase) (value : TExpr) (span : Span) → TExpr
    t_packed_load : (base : TBase) (variable : ℕ) (span : Span) → TExpr

  pub data TPlace : Type 0 where
    t_variable : (number : ℕ) (ty : Ty) (span : Span) → TPlace
    t_element : (array : ArrayVariable) (index : TExpr) (ty : Ty) (span : Span) → TPlace

  -- the array of a packed call, from its first element or from an index on; the span is that of its name
  pub data TBase : Type 0 where
    t_whole : (array : ArrayVariable) (span : Span) → TBase
    t_from : (array : ArrayVariable) (index : TExpr) (span : Span) → TBase

  pub data TArgument : Type 0 where
    t_by_value : TExpr → TArgument
    t_by_name : (array : ArrayVariable) (span : Span) → TArgument

  pub data TCall : Type 0 where
    t_called : (function : ℕ) (arguments : TArguments) (span : Span) → TCall

  pub data TArguments : Type 0 where
    t_no_arguments : TArguments
    t_argument_then : TArgument → TArguments → TArguments

  pub data TExprs : Type 0 where
    t_no_exprs : TExprs
    t_expr_then : TExpr → TExprs → TExprs

abbrev pub t_arguments : List TArgument → TArguments
t_arguments [] = t_no_arguments
t_arguments (x ∷ xs) = t_argument_then x (t_arguments xs)

abbrev pub t_exprs : List TExpr → TExprs
t_exprs [] = t_no_exprs
t_exprs (x ∷ xs) = t_expr_then x (t_exprs xs)

abbrev pub ty_of : Rate → Elem → Ty
ty_of r e = record { rate = r; elem = e }

-- the type of what a place holds, and where it stands
abbrev pub place_type : TPlace → Ty
place_type (t_variable v t s) = t
place_type (t_element a i t s) = t

abbrev pub place_span : TPlace → Span
place_span (t_variable v t s) = s
place_span (t_element a i t s) = s

abbrev pub base_array : TBase → ArrayVariable
base_array (t_whole a s) = a
base_array (t_from a x s) = a

abbrev pub call_span : TCall → Span
call_span (t_called f xs s) = s

-- the type of an expression's value, and where it stands
abbrev pub type_of : TExpr → Ty
type_of (t_constant v s) = ty_of Uniform v.elem
type_of (t_program_index s) = ty_of Varying I32
type_of (t_place p) = place_type p
type_of (t_convert e x) = ty_of (type_of x).rate e
type_of (t_cast x t s) = t
type_of (t_unary op x t s) = t
type_of (t_binary op x y t s) = t
type_of (t_compare c x y r s) = ty_of r Truth
type_of (t_logic l x y r s) = ty_of r Truth
type_of (t_choose c x y t s) = t
type_of (t_call c t) = t
type_of (t_library f e xs t s) = t
type_of (t_packed_store b x s) = ty_of Uniform I32
type_of (t_packed_load b v s) = ty_of Uniform I32

abbrev pub elem_of : TExpr → Elem
elem_of x = (type_of x).elem

abbrev pub rate_of : TExpr → Rate
rate_of x = (type_of x).rate

-- varying where one of the two is
abbrev pub rate_or : Rate → Rate → Rate
rate_or Uniform r = r
rate_or Varying r = Varying

abbrev pub span_of : TExpr → Span
span_of (t_constant v s) = s
span_of (t_program_index s) = s
span_of (t_place p) = place_span p
span_of (t_convert e x) = span_of x
span_of (t_cast x t s) = s
span_of (t_unary op x t s) = s
span_of (t_binary op x y t s) = s
span_of (t_compare c x y r s) = s
span_of (t_logic l x y r s) = s
span_of (t_choose c x y t s) = s
span_of (t_call c t) = call_span c
span_of (t_library f e xs t s) = s
span_of (t_packed_store b x s) = s
span_of (t_packed_load b v s) = s

-- ---- declared variables, and what stands before a semicolon

pub data TItem : Type 0 where
  t_plain : (number : ℕ) (ty : Ty) (span : Span) → TItem
  t_with_value : (number : ℕ) (ty : Ty) (value : TExpr) (span : Span) → TItem
  t_with_size : (array : ArrayVariable) (span : Span) → TItem

pub data TSimple : Type 0 where
  t_value : TExpr → TSimple
  t_run : TCall → TSimple
  t_assign : (target : TPlace) (value : TExpr) (span : Span) → TSimple
  t_update : (operator : BinOp) (elem : Elem) (target : TPlace) (value : TExpr) (span : Span) → TSimple
  t_step : (operator : BinOp) (elem : Elem) (target : TPlace) (span : Span) → TSimple

pub data TFirst : Type 0 where
  t_first_declare : (items : List TItem) (span : Span) → TFirst
  t_first_simple : TSimple → TFirst

pub record TRange : Type 0 where
  pub index : ℕ
  pub start : TExpr
  pub end : TExpr
  pub span : Span

-- ---- statements: `before` is how many variables are declared before one, `inside` before the body of a `for`

mutual
  pub data TStmt : Type 0 where
    t_block : TBlock → TStmt
    t_declare : (items : List TItem) (span : Span) → TStmt
    t_simple : TSimple → (span : Span) → TStmt
    t_if : (form : Form) (before : ℕ) (test : TExpr) (then : TStmt) (span : Span) → TStmt
    t_if_else : (form : Form) (before : ℕ) (test : TExpr) (then otherwise : TStmt) (span : Span) → TStmt
    t_while : (form : Form) (before : ℕ) (test : TExpr) (body : TStmt) (span : Span) → TStmt
    t_do : (form : Form) (before : ℕ) (body : TStmt) (test : TExpr) (span : Span) → TStmt
    t_for : (form : Form) (before : ℕ) (first : Option TFirst) (test : Option TExpr) (step : Option TSimple) (inside : ℕ) (body : TStmt) (span : Span) → TStmt
    t_foreach : (keyword : Span) (before : ℕ) (ranges : List TRange) (body : TStmt) (span : Span) → TStmt
    t_foreach_active : (keyword : Span) (before index : ℕ) (body : TStmt) (span : Span) → TStmt
    -- the value is of the type in which operators work on `elem`, the index of `elem` itself
    t_foreach_unique : (keyword : Span) (before index : ℕ) (elem : Elem) (value : TExpr) (body : TStmt) (span : Span) → TStmt
    t_unmasked : (keyword : Span) (body : TBlock) (span : Span) → TStmt
    t_jump : (jump : Jump) (keyword span : Span) → TStmt
    t_return : (keyword : Span) (value : Option TExpr) (span : Span) → TStmt
    t_print : (keyword : Span) (text : List ℕ) (values : List TExpr) (span : Span) → TStmt
    -- the call is what a trap names: from the word to the closing bracket
    t_assert : (test : TExpr) (call : Span) (span : Span) → TStmt

  pub data TBlock : Type 0 where
    t_braces : (statements : TStmts) (span : Span) → TBlock

  pub data TStmts : Type 0 where
    t_no_stmts : TStmts
    t_stmt_then : TStmt → TStmts → TStmts

abbrev pub t_stmts : List TStmt → TStmts
t_stmts [] = t_no_stmts
t_stmts (s ∷ ss) = t_stmt_then s (t_stmts ss)

-- ---- functions: what a caller of an exported one sees are `parameters` and what it gives, rates aside; `params` is
-- where the names of the parameters stand, and the variables begin with them

pub record TFunction : Type 0 where
  pub name : List ℕ
  pub span : Span
  pub exported : Bool
  pub parameters : List Parameter
  pub gives : Option Elem
  pub params : List Span
  pub answer : Option Ty
  pub variables : List Variable
  pub body : TBlock

-- ---- programs: the functions in the order of the text

pub record Program : Type 0 where
  pub gang : Gang
  pub functions : List TFunction
