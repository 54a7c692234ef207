-- The trees of the code as trees alone, without where they lie in memory.
use Rattle.std.specs.Prelude.{List, map, option_map}
use Rattle.isp_tree.specs.declared.types.TypeWords as rust_type
use Rattle.isp_tree.specs.declared.expr.Expr as rust
use Rattle.isp_tree.specs.declared.expr.Place as rust_place
use Rattle.isp_tree.specs.declared.expr.Argument as rust_argument
use Rattle.isp_tree.specs.declared.expr.Argument.TheOpen.{Expr-F, Place-F, Argument-F}
use Rattle.isp_tree.specs.declared.expr.Argument.TheFolds.{fold-Expr, fold-Place, fold-Argument}
use Rattle.isp_tree.specs.declared.stmt.Item as rust_item
use Rattle.isp_tree.specs.declared.stmt.Item.TheVariants as one
use Rattle.isp_tree.specs.declared.stmt.Declaration as rust_declaration
use Rattle.isp_tree.specs.declared.stmt.Simple as rust_simple
use Rattle.isp_tree.specs.declared.stmt.Simple.TheVariants as simply
use Rattle.isp_tree.specs.declared.stmt.First as rust_first
use Rattle.isp_tree.specs.declared.stmt.First.TheVariants as first
use Rattle.isp_tree.specs.declared.stmt.Range as rust_range
use Rattle.isp_tree.specs.declared.stmt.Stmt as rust_stmt
use Rattle.isp_tree.specs.declared.stmt.Stmt.TheOpen.{Stmt-F, Block-F}
use Rattle.isp_tree.specs.declared.stmt.Stmt.TheFolds.{fold-Stmt, fold-Block}
use Rattle.isp_tree.specs.declared.stmt.Block as rust_block
use Rattle.isp_tree.specs.declared.function.Param as rust_param
use Rattle.isp_tree.specs.declared.function.Function as rust_function
use Rattle.isp_tree.specs.Tree.{TypeTree, Expr, number, truth, program_index, program_count, place, call, brackets, cast, prefix, binary, choose, Place, variable, element, Argument, by_value, by_reference, listed}
use Rattle.isp_tree.specs.Tree.{Item, plain, with_value, with_size, Declaration, Simple, value, assign, change, First, first_declare, first_simple, Range}
use Rattle.isp_tree.specs.Tree.{Stmt, block, empty, declare, simple, if_then, if_else, loop_while, loop_do, loop_for, foreach, foreach_active, foreach_unique, unmasked, jump, returning, print, assert, Block, braces, all, Param, Function}

abbrev pub type_of : rust_type.TypeWords → TypeTree
type_of t = record { qualifiers = t.qualifiers.items; base = t.base; span = t.span }

-- ---- expressions: one level of a tree, with each child already seen

abbrev pub argument_step : Argument-F Argument Expr Place → Argument
argument_step (Argument-F.Value x) = by_value x
argument_step (Argument-F.Reference p s) = by_reference p s

abbrev pub expr_step : Expr-F Argument Expr Place → Expr
expr_step (Expr-F.Number v s) = number v s
expr_step (Expr-F.Truth b s) = truth b s
expr_step (Expr-F.ProgramIndex s) = program_index s
expr_step (Expr-F.ProgramCount s) = program_count s
expr_step (Expr-F.Place p) = place p
expr_step (Expr-F.Call w xs s) = call w (listed xs.items) s
expr_step (Expr-F.Brackets x s) = brackets x.value s
expr_step (Expr-F.Cast t x s) = cast (type_of t) x.value s
expr_step (Expr-F.Prefix op x s) = prefix op x.value s
expr_step (Expr-F.Binary op x y s) = binary op x.value y.value s
expr_step (Expr-F.Choose x y z s) = choose x.value y.value z.value s

abbrev pub place_step : Place-F Argument Expr Place → Place
place_step (Place-F.Variable w) = variable w
place_step (Place-F.Element w x s) = element w x.value s

abbrev pub expr_of : rust.Expr → Expr
expr_of = fold-Expr Argument Expr Place argument_step expr_step place_step

abbrev pub place_of : rust_place.Place → Place
place_of = fold-Place Argument Expr Place argument_step expr_step place_step

abbrev pub argument_of : rust_argument.Argument → Argument
argument_of = fold-Argument Argument Expr Place argument_step expr_step place_step

abbrev pub exprs_of : List rust.Expr → List Expr
exprs_of = map expr_of

abbrev pub arguments_of : List rust_argument.Argument → List Argument
arguments_of = map argument_of

-- ---- declarations, and what stands before a semicolon

abbrev pub item_of : rust_item.Item → Item
item_of (one.Plain w) = plain w
item_of (one.Value w x s) = with_value w (expr_of x) s
item_of (one.Array w n s) = with_size w n s

abbrev pub declaration_of : rust_declaration.Declaration → Declaration
declaration_of d = record { ty = type_of d.ty; items = map item_of d.items.items; span = d.span }

abbrev pub simple_of : rust_simple.Simple → Simple
simple_of (simply.Value x) = value (expr_of x)
simple_of (simply.Assign a t x s) = assign a (expr_of t) (expr_of x) s
simple_of (simply.Change c x s) = change c (expr_of x) s

abbrev pub first_of : rust_first.First → First
first_of (first.Declare d) = first_declare (declaration_of d)
first_of (first.Simple s) = first_simple (simple_of s)

abbrev pub range_of : rust_range.Range → Range
range_of r = record { word = r.word; start = expr_of r.start; end = expr_of r.end; span = r.span }

-- ---- statements: one level of a tree, with each child already seen

abbrev pub stmt_step : Stmt-F Stmt Block → Stmt
stmt_step (Stmt-F.Block b) = block b
stmt_step (Stmt-F.Empty s) = empty s
stmt_step (Stmt-F.Declare d s) = declare (declaration_of d) s
stmt_step (Stmt-F.Simple p s) = simple (simple_of p) s
stmt_step (Stmt-F.If f x a s) = if_then f (expr_of x) a.value s
stmt_step (Stmt-F.IfElse f x a b s) = if_else f (expr_of x) a.value b.value s
stmt_step (Stmt-F.While f x a s) = loop_while f (expr_of x) a.value s
stmt_step (Stmt-F.Do f a x s) = loop_do f a.value (expr_of x) s
stmt_step (Stmt-F.For f i x p a s) = loop_for f (option_map first_of i) (option_map expr_of x) (option_map simple_of p) a.value s
stmt_step (Stmt-F.Foreach t k rs a s) = foreach t k (map range_of rs.items) a.value s
stmt_step (Stmt-F.ForeachActive k w a s) = foreach_active k w a.value s
stmt_step (Stmt-F.ForeachUnique k w x a s) = foreach_unique k w (expr_of x) a.value s
stmt_step (Stmt-F.Unmasked k b s) = unmasked k b s
stmt_step (Stmt-F.Jump j k s) = jump j k s
stmt_step (Stmt-F.Return k x s) = returning k (option_map expr_of x) s
stmt_step (Stmt-F.Print k t p xs s) = print k t p (exprs_of xs.items) s
stmt_step (Stmt-F.Assert x c s) = assert (expr_of x) c s

abbrev pub block_step : Block-F Stmt Block → Block
block_step b = braces (all b.statements.items) b.span

abbrev pub stmt_of : rust_stmt.Stmt → Stmt
stmt_of = fold-Stmt Stmt Block stmt_step block_step

abbrev pub block_of : rust_block.Block → Block
block_of = fold-Block Stmt Block stmt_step block_step

abbrev pub stmts_of : List rust_stmt.Stmt → List Stmt
stmts_of = map stmt_of

-- ---- functions

abbrev pub param_of : rust_param.Param → Param
param_of p = record { ty = type_of p.ty; word = p.word; is_array = p.is_array; span = p.span }

abbrev pub function_of : rust_function.Function → Function
function_of f = record { linkages = f.linkages.items; answer = type_of f.result; word = f.word; params = map param_of f.params.items; body = block_of f.body; span = f.span }

abbrev pub functions_of : List rust_function.Function → List Function
functions_of = map function_of
