-- The typed trees of the code as trees alone, without where they lie in memory.
use Rattle.std.specs.Prelude.{List, map, option_map}
use Rattle.isp_typed.specs.declared.expr.TypedExpr as rust
use Rattle.isp_typed.specs.declared.expr.TypedPlace as rust_place
use Rattle.isp_typed.specs.declared.expr.TypedBase as rust_base
use Rattle.isp_typed.specs.declared.expr.TypedArgument as rust_argument
use Rattle.isp_typed.specs.declared.expr.TypedCall as rust_call
use Rattle.isp_typed.specs.declared.expr.TypedArgument.TheOpen.{TypedExpr-F, TypedPlace-F, TypedBase-F, TypedArgument-F, TypedCall-F}
use Rattle.isp_typed.specs.declared.expr.TypedArgument.TheFolds.{fold-TypedExpr, fold-TypedPlace, fold-TypedBase, fold-TypedArgument, fold-TypedCall}
use Rattle.isp_typed.specs.declared.stmt.TypedItem as rust_item
use Rattle.isp_typed.specs.declared.stmt.TypedItem.TheVariants as one
use Rattle.isp_typed.specs.declared.stmt.TypedSimple as rust_simple
use Rattle.isp_typed.specs.declared.stmt.TypedSimple.TheVariants as simply
use Rattle.isp_typed.specs.declared.stmt.TypedFirst as rust_first
use Rattle.isp_typed.specs.declared.stmt.TypedFirst.TheVariants as first
use Rattle.isp_typed.specs.declared.stmt.TypedRange as rust_range
use Rattle.isp_typed.specs.declared.stmt.TypedStmt as rust_stmt
use Rattle.isp_typed.specs.declared.stmt.TypedBlock as rust_block
use Rattle.isp_typed.specs.declared.stmt.TypedStmt.TheOpen.{TypedStmt-F, TypedBlock-F}
use Rattle.isp_typed.specs.declared.stmt.TypedStmt.TheFolds.{fold-TypedStmt, fold-TypedBlock}
use Rattle.isp_typed.specs.declared.function.TypedFunction as rust_function
use Rattle.isp_typed.specs.declared.function.Program as rust_program
use Rattle.isp_typed.specs.Typed.{TExpr, t_constant, t_program_index, t_place, t_convert, t_cast, t_unary, t_binary, t_compare, t_logic, t_choose, t_call, t_library, t_packed_store, t_packed_load}
use Rattle.isp_typed.specs.Typed.{TPlace, t_variable, t_element, TBase, t_whole, t_from, TArgument, t_by_value, t_by_name, TCall, t_called, t_arguments, t_exprs}
use Rattle.isp_typed.specs.Typed.{TItem, t_plain, t_with_value, t_with_size, TSimple, t_value, t_run, t_assign, t_update, t_step, TFirst, t_first_declare, t_first_simple, TRange}
use Rattle.isp_typed.specs.Typed.{TStmt, t_block, t_declare, t_simple, t_if, t_if_else, t_while, t_do, t_for, t_foreach, t_foreach_active, t_foreach_unique}
use Rattle.isp_typed.specs.Typed.{t_unmasked, t_jump, t_return, t_print, t_assert, TBlock, t_braces, t_stmts, TFunction, Program}

-- ---- expressions: one level of a tree, with each child already seen

abbrev pub argument_step : TypedArgument-F TArgument TBase TExpr TPlace TCall → TArgument
argument_step (TypedArgument-F.Value x) = t_by_value x
argument_step (TypedArgument-F.Array a s) = t_by_name a s

abbrev pub base_step : TypedBase-F TArgument TBase TExpr TPlace TCall → TBase
base_step (TypedBase-F.Whole a s) = t_whole a s
base_step (TypedBase-F.From a x s) = t_from a x.value s

abbrev pub call_step : TypedCall-F TArgument TBase TExpr TPlace TCall → TCall
call_step c = t_called c.function (t_arguments c.arguments.items) c.span

abbrev pub expr_step : TypedExpr-F TArgument TBase TExpr TPlace TCall → TExpr
expr_step (TypedExpr-F.Constant v s) = t_constant v s
expr_step (TypedExpr-F.ProgramIndex s) = t_program_index s
expr_step (TypedExpr-F.Place p) = t_place p
expr_step (TypedExpr-F.Convert e x) = t_convert e x.value
expr_step (TypedExpr-F.Cast x t s) = t_cast x.value t s
expr_step (TypedExpr-F.Unary op x t s) = t_unary op x.value t s
expr_step (TypedExpr-F.Binary op x y t s) = t_binary op x.value y.value t s
expr_step (TypedExpr-F.Compare c x y r s) = t_compare c x.value y.value r s
expr_step (TypedExpr-F.Logic l x y r s) = t_logic l x.value y.value r s
expr_step (TypedExpr-F.Choose c x y t s) = t_choose c.value x.value y.value t s
expr_step (TypedExpr-F.Call c t) = t_call c t
expr_step (TypedExpr-F.Library f e xs t s) = t_library f e (t_exprs xs.items) t s
expr_step (TypedExpr-F.PackedStore b x s) = t_packed_store b x.value s
expr_step (TypedExpr-F.PackedLoad b v s) = t_packed_load b v s

abbrev pub place_step : TypedPlace-F TArgument TBase TExpr TPlace TCall → TPlace
place_step (TypedPlace-F.Variable v t s) = t_variable v t s
place_step (TypedPlace-F.Element a x t s) = t_element a x.value t s

abbrev pub expr_of : rust.TypedExpr → TExpr
expr_of = fold-TypedExpr TArgument TBase TExpr TPlace TCall argument_step base_step expr_step place_step call_step

abbrev pub place_of : rust_place.TypedPlace → TPlace
place_of = fold-TypedPlace TArgument TBase TExpr TPlace TCall argument_step base_step expr_step place_step call_step

abbrev pub base_of : rust_base.TypedBase → TBase
base_of = fold-TypedBase TArgument TBase TExpr TPlace TCall argument_step base_step expr_step place_step call_step

abbrev pub argument_of : rust_argument.TypedArgument → TArgument
argument_of = fold-TypedArgument TArgument TBase TExpr TPlace TCall argument_step base_step expr_step place_step call_step

abbrev pub call_of : rust_call.TypedCall → TCall
call_of = fold-TypedCall TArgument TBase TExpr TPlace TCall argument_step base_step expr_step place_step call_step

abbrev pub exprs_of : List rust.TypedExpr → List TExpr
exprs_of = map expr_of

abbrev pub arguments_of : List rust_argument.TypedArgument → List TArgument
arguments_of = map argument_of

-- ---- declared variables, and what stands before a semicolon

abbrev pub item_of : rust_item.TypedItem → TItem
item_of (one.Plain v t s) = t_plain v t s
item_of (one.Value v t x s) = t_with_value v t (expr_of x) s
item_of (one.Array a s) = t_with_size a s

abbrev pub items_of : List rust_item.TypedItem → List TItem
items_of = map item_of

abbrev pub simple_of : rust_simple.TypedSimple → TSimple
simple_of (simply.Value x) = t_value (expr_of x)
simple_of (simply.Call c) = t_run (call_of c)
simple_of (simply.Assign p x s) = t_assign (place_of p) (expr_of x) s
simple_of (simply.Update op e p x s) = t_update op e (place_of p) (expr_of x) s
simple_of (simply.Step op e p s) = t_step op e (place_of p) s

abbrev pub first_of : rust_first.TypedFirst → TFirst
first_of (first.Declare xs s) = t_first_declare (items_of xs.items) s
first_of (first.Simple p) = t_first_simple (simple_of p)

abbrev pub range_of : rust_range.TypedRange → TRange
range_of r = record { index = r.index; start = expr_of r.start; end = expr_of r.end; span = r.span }

abbrev pub ranges_of : List rust_range.TypedRange → List TRange
ranges_of = map range_of

-- ---- statements: one level of a tree, with each child already seen

abbrev pub stmt_step : TypedStmt-F TStmt TBlock → TStmt
stmt_step (TypedStmt-F.Block b) = t_block b
stmt_step (TypedStmt-F.Declare xs s) = t_declare (items_of xs.items) s
stmt_step (TypedStmt-F.Simple p s) = t_simple (simple_of p) s
stmt_step (TypedStmt-F.If f n x a s) = t_if f n (expr_of x) a.value s
stmt_step (TypedStmt-F.IfElse f n x a b s) = t_if_else f n (expr_of x) a.value b.value s
stmt_step (TypedStmt-F.While f n x a s) = t_while f n (expr_of x) a.value s
stmt_step (TypedStmt-F.Do f n a x s) = t_do f n a.value (expr_of x) s
stmt_step (TypedStmt-F.For f n i x p m a s) = t_for f n (option_map first_of i) (option_map expr_of x) (option_map simple_of p) m a.value s
stmt_step (TypedStmt-F.Foreach k n rs a s) = t_foreach k n (ranges_of rs.items) a.value s
stmt_step (TypedStmt-F.ForeachActive k n i a s) = t_foreach_active k n i a.value s
stmt_step (TypedStmt-F.ForeachUnique k n i e x a s) = t_foreach_unique k n i e (expr_of x) a.value s
stmt_step (TypedStmt-F.Unmasked k b s) = t_unmasked k b s
stmt_step (TypedStmt-F.Jump j k s) = t_jump j k s
stmt_step (TypedStmt-F.Return k x s) = t_return k (option_map expr_of x) s
stmt_step (TypedStmt-F.Print k t xs s) = t_print k t (exprs_of xs.items) s
stmt_step (TypedStmt-F.Assert x c s) = t_assert (expr_of x) c s

abbrev pub block_step : TypedBlock-F TStmt TBlock → TBlock
block_step b = t_braces (t_stmts b.statements.items) b.span

abbrev pub stmt_of : rust_stmt.TypedStmt → TStmt
stmt_of = fold-TypedStmt TStmt TBlock stmt_step block_step

abbrev pub block_of : rust_block.TypedBlock → TBlock
block_of = fold-TypedBlock TStmt TBlock stmt_step block_step

abbrev pub stmts_of : List rust_stmt.TypedStmt → List TStmt
stmts_of = map stmt_of

-- ---- functions and programs

abbrev pub function_of : rust_function.TypedFunction → TFunction
function_of f = record {
  name = f.name;
  span = f.span;
  exported = f.exported;
  parameters = f.signature.params.items;
  gives = f.signature.result;
  params = f.params.items;
  answer = f.result;
  variables = f.variables.items;
  body = block_of f.body;
}

abbrev pub functions_of : List rust_function.TypedFunction → List TFunction
functions_of = map function_of

abbrev pub program_of : rust_program.Program → Program
program_of p = record { gang = p.gang; functions = functions_of p.functions.items }
