-- Trees. A span is the place of a node from its first byte to its last; `keyword` is that of a statement's first word.
use Rattle.std.specs.Prelude.{ℕ, Bool, false, true, ◌||◌, List, [], ◌∷◌, Option}
use Rattle.isp_base.specs.declared.types.Span.{Span}
use Rattle.isp_base.specs.declared.types.Value.{Value}
use Rattle.isp_tree.specs.declared.types.Word.{Word}
use Rattle.isp_tree.specs.declared.types.Qualifier.{Qualifier}
use Rattle.isp_tree.specs.declared.types.Qualifier.TheVariants as qualifier
use Rattle.isp_tree.specs.declared.types.Base.{Base}
use Rattle.isp_tree.specs.declared.expr.Prefix.{Prefix}
use Rattle.isp_tree.specs.declared.expr.Operator.{Operator}
use Rattle.isp_tree.specs.declared.stmt.Size.{Size}
use Rattle.isp_tree.specs.declared.stmt.Size.TheVariants as size
use Rattle.isp_tree.specs.declared.stmt.Assignment.{Assignment}
use Rattle.isp_tree.specs.declared.stmt.Change.{Change}
use Rattle.isp_tree.specs.declared.stmt.Form.{Form}
use Rattle.isp_tree.specs.declared.stmt.Tiling.{Tiling}
use Rattle.isp_tree.specs.declared.stmt.Jump.{Jump}
use Rattle.isp_tree.specs.declared.function.Linkage.{Linkage}

-- ---- types

pub record TypeTree : Type 0 where
  pub qualifiers : List Qualifier
  pub base : Option Base
  pub span : Span

-- `signed` or `unsigned`
abbrev pub is_sign : Qualifier → Bool
is_sign qualifier.Const = false
is_sign qualifier.Uniform = false
is_sign qualifier.Varying = false
is_sign qualifier.Signed = true
is_sign qualifier.Unsigned = true

abbrev pub has_sign : List Qualifier → Bool
has_sign [] = false
has_sign (q ∷ qs) = is_sign q || has_sign qs

-- ---- expressions

mutual
  pub data Expr : Type 0 where
    number : (value : Value) (span : Span) → Expr
    truth : (value : Bool) (span : Span) → Expr
    program_index : (span : Span) → Expr
    program_count : (span : Span) → Expr
    place : Place → Expr
    call : (function : Word) (arguments : Arguments) (span : Span) → Expr
    brackets : (inner : Expr) (span : Span) → Expr
    cast : (ty : TypeTree) (operand : Expr) (span : Span) → Expr
    prefix : (operator : Prefix) (operand : Expr) (span : Span) → Expr
    binary : (operator : Operator) (left right : Expr) (span : Span) → Expr
    choose : (test then otherwise : Expr) (span : Span) → Expr

  pub data Place : Type 0 where
    variable : Word → Place
    element : (array : Word) (index : Expr) (span : Span) → Place

  -- a value, or a place after `&`
  pub data Argument : Type 0 where
    by_value : Expr → Argument
    by_reference : (place : Place) (span : Span) → Argument

  pub data Arguments : Type 0 where
    no_arguments : Arguments
    argument_then : Argument → Arguments → Arguments

abbrev pub listed : List Argument → Arguments
listed [] = no_arguments
listed (x ∷ xs) = argument_then x (listed xs)

abbrev pub span_of_place : Place → Span
span_of_place (variable w) = w.span
span_of_place (element w x s) = s

abbrev pub span_of : Expr → Span
span_of (number v s) = s
span_of (truth b s) = s
span_of (program_index s) = s
span_of (program_count s) = s
span_of (place p) = span_of_place p
span_of (call w xs s) = s
span_of (brackets x s) = s
span_of (cast t x s) = s
span_of (prefix p x s) = s
span_of (binary op x y s) = s
span_of (choose x y z s) = s

abbrev pub span_of_argument : Argument → Span
span_of_argument (by_value x) = span_of x
span_of_argument (by_reference p s) = s

-- ---- declarations, and what stands before a semicolon

abbrev pub span_of_size : Size → Span
span_of_size (size.Number v s) = s
span_of_size (size.ProgramCount s) = s

pub data Item : Type 0 where
  plain : Word → Item
  with_value : (word : Word) (value : Expr) (span : Span) → Item
  with_size : (word : Word) (size : Size) (span : Span) → Item

abbrev pub span_of_item : Item → Span
span_of_item (plain w) = w.span
span_of_item (with_value w x s) = s
span_of_item (with_size w n s) = s

pub record Declaration : Type 0 where
  pub ty : TypeTree
  pub items : List Item
  pub span : Span

-- an expression, an assignment, or a step by one
pub data Simple : Type 0 where
  value : Expr → Simple
  assign : (assignment : Assignment) (target value : Expr) (span : Span) → Simple
  change : (change : Change) (target : Expr) (span : Span) → Simple

abbrev pub span_of_simple : Simple → Span
span_of_simple (value x) = span_of x
span_of_simple (assign a t x s) = s
span_of_simple (change c x s) = s

-- the first part of a `for`
pub data First : Type 0 where
  first_declare : Declaration → First
  first_simple : Simple → First

-- one dimension of a `foreach`
pub record Range : Type 0 where
  pub word : Word
  pub start : Expr
  pub end : Expr
  pub span : Span

-- ---- statements

mutual
  pub data Stmt : Type 0 where
    block : Block → Stmt
    empty : (span : Span) → Stmt
    declare : Declaration → (span : Span) → Stmt
    simple : Simple → (span : Span) → Stmt
    if_then : (form : Form) (test : Expr) (then : Stmt) (span : Span) → Stmt
    if_else : (form : Form) (test : Expr) (then otherwise : Stmt) (span : Span) → Stmt
    loop_while : (form : Form) (test : Expr) (body : Stmt) (span : Span) → Stmt
    loop_do : (form : Form) (body : Stmt) (test : Expr) (span : Span) → Stmt
    loop_for : (form : Form) (first : Option First) (test : Option Expr) (step : Option Simple) (body : Stmt) (span : Span) → Stmt
    foreach : (tiling : Tiling) (keyword : Span) (ranges : List Range) (body : Stmt) (span : Span) → Stmt
    foreach_active : (keyword : Span) (word : Word) (body : Stmt) (span : Span) → Stmt
    foreach_unique : (keyword : Span) (word : Word) (value : Expr) (body : Stmt) (span : Span) → Stmt
    unmasked : (keyword : Span) (body : Block) (span : Span) → Stmt
    jump : (jump : Jump) (keyword : Span) (span : Span) → Stmt
    returning : (keyword : Span) (value : Option Expr) (span : Span) → Stmt
    print : (keyword : Span) (text : List ℕ) (text_span : Span) (values : List Expr) (span : Span) → Stmt
    -- the call is what a trap names: from the word to the closing bracket
    assert : (test : Expr) (call_span : Span) (span : Span) → Stmt

  pub data Block : Type 0 where
    braces : (statements : Stmts) (span : Span) → Block

  pub data Stmts : Type 0 where
    no_stmts : Stmts
    stmt_then : Stmt → Stmts → Stmts

abbrev pub all : List Stmt → Stmts
all [] = no_stmts
all (s ∷ ss) = stmt_then s (all ss)

abbrev pub span_of_block : Block → Span
span_of_block (braces ss s) = s

abbrev pub span_of_stmt : Stmt → Span
span_of_stmt (block b) = span_of_block b
span_of_stmt (empty s) = s
span_of_stmt (declare d s) = s
span_of_stmt (simple p s) = s
span_of_stmt (if_then f x a s) = s
span_of_stmt (if_else f x a b s) = s
span_of_stmt (loop_while f x a s) = s
span_of_stmt (loop_do f a x s) = s
span_of_stmt (loop_for f i x p a s) = s
span_of_stmt (foreach t k rs a s) = s
span_of_stmt (foreach_active k w a s) = s
span_of_stmt (foreach_unique k w x a s) = s
span_of_stmt (unmasked k b s) = s
span_of_stmt (jump j k s) = s
span_of_stmt (returning k x s) = s
span_of_stmt (print k t p xs s) = s
span_of_stmt (assert x c s) = s

-- ---- functions

pub record Param : Type 0 where
  pub ty : TypeTree
  pub word : Word
  pub is_array : Bool
  pub span : Span

pub record Function : Type 0 where
  pub linkages : List Linkage
  pub answer : TypeTree
  pub word : Word
  pub params : List Param
  pub body : Block
  pub span : Span
