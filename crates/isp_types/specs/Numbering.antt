-- What items declare, and which names and variables there are after items and after a statement.
--     ns   the names in scope        vars   the variables that were declared so far, numbered where they stand in the text
--     hs   the functions of the program, as callers see them
use Rattle.std.specs.Prelude.{ℕ, List, [], ◌∷◌, ◌++◌, false, Option, Some, None, Result, Ok, Err}
use Rattle.isp_base.specs.declared.types.Elem.TheVariants.{I32}
use Rattle.isp_base.specs.declared.types.Gang.{Gang}
use Rattle.isp_base.specs.Types.{gang_width}
use Rattle.isp_lex.specs.declared.fault.Fault.{Fault}
use Rattle.isp_tree.specs.declared.types.Word.{Word}
use Rattle.isp_tree.specs.declared.stmt.Size.{Size}
use Rattle.isp_tree.specs.declared.stmt.Size.TheVariants as size
use Rattle.isp_tree.specs.Tree.{Expr, Item, plain, with_value, with_size, Declaration, First, first_declare, first_simple, Range, Stmt, block, empty, declare, simple, if_then, if_else, loop_while, loop_do}
use Rattle.isp_tree.specs.Tree.{loop_for, foreach, foreach_active, foreach_unique, unmasked, jump, returning, print, assert, Block, braces, Stmts, no_stmts, stmt_then}
use Rattle.isp_typed.specs.declared.variable.Holds.TheVariants as holds
use Rattle.isp_typed.specs.declared.variable.Variable.{Variable}
use Rattle.isp_typed.specs.Verdicts.{made}
use Rattle.isp_typed.specs.Typed.{TExpr, elem_of}
use Rattle.isp_typed.specs.Indices.{foreach_index as index, active_index, unique_index}
use Rattle.isp_exprs.specs.declared.scope.Binding.{Binding}
use Rattle.isp_exprs.specs.declared.words.ValueWords.{ValueWords}
use Rattle.isp_exprs.specs.Words.{value_said, type_declared}
use Rattle.isp_exprs.specs.Scopes.{with_name}
use Rattle.isp_exprs.specs.Callees.{Heading}
use Rattle.isp_exprs.specs.Rules.{expr_typing}

-- ---- what an item declares

-- words that contradict each other say nothing: varying int32 stands in their place, in no accepted program
abbrev pub or_nothing : Result ValueWords Fault → ValueWords
or_nothing (Ok w) = w
or_nothing (Err f) = record { constant = false; rate = None; elem = I32 }

-- a name declared by such words has their fault
abbrev pub declared : Result ValueWords Fault → Variable → Result Variable Fault
declared (Ok w) v = Ok v
declared (Err f) v = Err f

abbrev pub value_variable : ValueWords → Variable
value_variable w = record { holds = holds.Value (type_declared w); constant = w.constant }

abbrev pub size_number : Gang → Size → ℕ
size_number gang (size.Number v s) = v.bits
size_number gang (size.ProgramCount s) = gang_width gang

abbrev pub item_word : Item → Word
item_word (plain w) = w
item_word (with_value w x s) = w
item_word (with_size w n s) = w

-- the variable that an item declares
abbrev pub item_variable : Gang → ValueWords → Item → Variable
item_variable gang v (plain w) = value_variable v
item_variable gang v (with_value w x s) = value_variable v
item_variable gang v (with_size w n s) = record { holds = holds.Local (type_declared v) (size_number gang n); constant = v.constant }

-- ---- after items

-- the names and variables after items, of which the words of the type are given
module _ (gang : Gang) (r : Result ValueWords Fault) where
  abbrev pub item_names : List Binding → List Variable → Item → List Binding
  item_names ns vars i = with_name ns vars (item_word i).name (declared r (item_variable gang (or_nothing r) i))

  abbrev pub item_variables : List Variable → Item → List Variable
  item_variables vars i = vars ++ item_variable gang (or_nothing r) i ∷ []

  abbrev pub items_names : List Binding → List Variable → List Item → List Binding
  items_names ns vars [] = ns
  items_names ns vars (i ∷ is) = items_names (item_names ns vars i) (item_variables vars i) is

  abbrev pub items_variables : List Variable → List Item → List Variable
  items_variables vars [] = vars
  items_variables vars (i ∷ is) = items_variables (item_variables vars i) is

-- the names and variables after a declaration
abbrev pub declaration_names : Gang → List Binding → List Variable → Declaration → List Binding
declaration_names gang ns vars d = items_names gang (value_said d.ty) ns vars d.items

abbrev pub declaration_variables : Gang → List Variable → Declaration → List Variable
declaration_variables gang vars d = items_variables gang (value_said d.ty) vars d.items

-- ---- the names and variables after a statement

-- the first part of a `for`
abbrev pub first_names : Gang → List Binding → List Variable → Option First → List Binding
first_names gang ns vars None = ns
first_names gang ns vars (Some (first_declare d)) = declaration_names gang ns vars d
first_names gang ns vars (Some (first_simple s)) = ns

abbrev pub first_variables : Gang → List Variable → Option First → List Variable
first_variables gang vars None = vars
first_variables gang vars (Some (first_declare d)) = declaration_variables gang vars d
first_variables gang vars (Some (first_simple s)) = vars

abbrev pub range_names : List Binding → List Variable → List Range → List Binding
range_names ns vars [] = ns
range_names ns vars (r ∷ rs) = range_names (with_name ns vars r.word.name (Ok index)) (vars ++ index ∷ []) rs

abbrev pub range_variables : List Variable → List Range → List Variable
range_variables vars [] = vars
range_variables vars (r ∷ rs) = range_variables (vars ++ index ∷ []) rs

-- The index of a `foreach_unique` has the type of its value. Where the value is faulty a use of the index has that fault, and an int64
-- stands in its place, in no accepted program.
abbrev pub index_of : Result TExpr Fault → Result Variable Fault
index_of = made (λ x. unique_index (elem_of x))

abbrev pub or_active : Result Variable Fault → Variable
or_active (Ok v) = v
or_active (Err f) = active_index

-- a name counts after its declaration, to the end of the scope
abbrev pub names_after : Gang → List Binding → List Variable → Stmt → List Binding
names_after gang ns vars (declare d s) = declaration_names gang ns vars d
names_after gang ns vars s = ns

-- A variable is numbered where it stands in the text. Where a statement stands, the functions and the names in scope are known, as they
-- are to the rules of statements.
module _ (gang : Gang) (hs : List Heading) where
  -- the value of a `foreach_unique` does not know the index
  abbrev pub unique_names : List Binding → List Variable → Word → Expr → List Binding
  unique_names ns vars w x = with_name ns vars w.name (index_of (expr_typing gang hs ns x).verdict)

  abbrev pub unique_variables : List Binding → List Variable → Expr → List Variable
  unique_variables ns vars x = vars ++ or_active (index_of (expr_typing gang hs ns x).verdict) ∷ []

  abbrev mutual
    pub variables_after : List Binding → List Variable → Stmt → List Variable
    variables_after ns vars (block b) = block_variables ns vars b
    variables_after ns vars (empty s) = vars
    variables_after ns vars (declare d s) = declaration_variables gang vars d
    variables_after ns vars (simple p s) = vars
    variables_after ns vars (if_then f x a s) = variables_after ns vars a
    variables_after ns vars (if_else f x a b s) = variables_after ns (variables_after ns vars a) b
    variables_after ns vars (loop_while f x a s) = variables_after ns vars a
    variables_after ns vars (loop_do f a x s) = variables_after ns vars a
    variables_after ns vars (loop_for f i x p a s) = variables_after (first_names gang ns vars i) (first_variables gang vars i) a
    variables_after ns vars (foreach t k rs a s) = variables_after (range_names ns vars rs) (range_variables vars rs) a
    variables_after ns vars (foreach_active k w a s) = variables_after (with_name ns vars w.name (Ok active_index)) (vars ++ active_index ∷ []) a
    variables_after ns vars (foreach_unique k w x a s) = variables_after (unique_names ns vars w x) (unique_variables ns vars x) a
    variables_after ns vars (unmasked k b s) = block_variables ns vars b
    variables_after ns vars (jump j k s) = vars
    variables_after ns vars (returning k x s) = vars
    variables_after ns vars (print k t p xs s) = vars
    variables_after ns vars (assert x c s) = vars

    pub block_variables : List Binding → List Variable → Block → List Variable
    block_variables ns vars (braces ss s) = stmts_variables ns vars ss

    pub stmts_variables : List Binding → List Variable → Stmts → List Variable
    stmts_variables ns vars no_stmts = vars
    stmts_variables ns vars (stmt_then s ss) = stmts_variables (names_after gang ns vars s) (variables_after ns vars s) ss
