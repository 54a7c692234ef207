-- Expressions of the code seen as trees, one line a kind of node.
use Rattle.std.proofs.Common.{◌≡◌, ℕ, sym, ap, ◌∙◌, Box, Global}
use Rattle.isp_base.specs.declared.operators.BinOp.{BinOp}
use Rattle.isp_base.specs.declared.operators.Compare.{Compare}
use Rattle.isp_base.specs.declared.operators.UnaryOp.{UnaryOp}
use Rattle.isp_base.specs.declared.types.Elem.{Elem}
use Rattle.isp_base.specs.declared.types.Rate.{Rate}
use Rattle.isp_base.specs.declared.types.Span.{Span}
use Rattle.isp_base.specs.declared.types.Ty.{Ty}
use Rattle.isp_base.specs.declared.types.Value.{Value}
use Rattle.isp_typed.specs.declared.expr.TypedArgument.TheFolds.{fold-roll-TypedExpr, fold-roll-TypedPlace}
use Rattle.isp_typed.specs.declared.expr.TypedExpr as rust
use Rattle.isp_typed.specs.declared.expr.TypedPlace as rust_place
use Rattle.isp_typed.specs.declared.expr.TypedPlace.TheVariants as place_variant
use Rattle.isp_typed.specs.declared.variable.ArrayVariable.{ArrayVariable}
use Rattle.isp_typed.specs.declared.variable.Logic.{Logic}
use Rattle.isp_typed.specs.declared.expr.TypedExpr.TheVariants as variant
use Rattle.isp_typed.specs.Typed.{TExpr, TPlace, TBase, TArgument, TCall, t_element, t_variable, t_constant, t_program_index, t_place, t_convert, t_cast, t_unary, t_binary, t_compare, t_logic, t_choose}
use Rattle.isp_typed.specs.Views.{argument_step, base_step, call_step, expr_step, place_step, expr_of, place_of}

pub constant_view : (v : Value) (s : Span) → expr_of (variant.Constant v s) ≡ t_constant v s
constant_view v s = ap expr_of (sym (variant.rolls-Constant v s)) ∙ fold-roll-TypedExpr TArgument TBase TExpr TPlace TCall argument_step base_step expr_step place_step call_step _

pub index_view : (s : Span) → expr_of (variant.ProgramIndex s) ≡ t_program_index s
index_view s = ap expr_of (sym (variant.rolls-ProgramIndex s)) ∙ fold-roll-TypedExpr TArgument TBase TExpr TPlace TCall argument_step base_step expr_step place_step call_step _

pub convert_view : (e : Elem) (x : Box rust.TypedExpr Global) → expr_of (variant.Convert e x) ≡ t_convert e (expr_of x.value)
convert_view e x = ap expr_of (sym (variant.rolls-Convert e x)) ∙ fold-roll-TypedExpr TArgument TBase TExpr TPlace TCall argument_step base_step expr_step place_step call_step _

pub cast_view : (x : Box rust.TypedExpr Global) (t : Ty) (s : Span) → expr_of (variant.Cast x t s) ≡ t_cast (expr_of x.value) t s
cast_view x t s = ap expr_of (sym (variant.rolls-Cast x t s)) ∙ fold-roll-TypedExpr TArgument TBase TExpr TPlace TCall argument_step base_step expr_step place_step call_step _

pub unary_view : (o : UnaryOp) (x : Box rust.TypedExpr Global) (t : Ty) (s : Span) → expr_of (variant.Unary o x t s) ≡ t_unary o (expr_of x.value) t s
unary_view o x t s = ap expr_of (sym (variant.rolls-Unary o x t s)) ∙ fold-roll-TypedExpr TArgument TBase TExpr TPlace TCall argument_step base_step expr_step place_step call_step _

pub binary_view : (o : BinOp) (x y : Box rust.TypedExpr Global) (t : Ty) (s : Span) → expr_of (variant.Binary o x y t s) ≡ t_binary o (expr_of x.value) (expr_of y.value) t s
binary_view o x y t s = ap expr_of (sym (variant.rolls-Binary o x y t s)) ∙ fold-roll-TypedExpr TArgument TBase TExpr TPlace TCall argument_step base_step expr_step place_step call_step _

pub compare_view : (c : Compare) (x y : Box rust.TypedExpr Global) (r : Rate) (s : Span) → expr_of (variant.Compare c x y r s) ≡ t_compare c (expr_of x.value) (expr_of y.value) r s
compare_view c x y r s = ap expr_of (sym (variant.rolls-Compare c x y r s)) ∙ fold-roll-TypedExpr TArgument TBase TExpr TPlace TCall argument_step base_step expr_step place_step call_step _

pub place_view : (p : rust_place.TypedPlace) → expr_of (variant.Place p) ≡ t_place (place_of p)
place_view p = ap expr_of (sym (variant.rolls-Place p)) ∙ fold-roll-TypedExpr TArgument TBase TExpr TPlace TCall argument_step base_step expr_step place_step call_step _

pub element_view : (a : ArrayVariable) (x : Box rust.TypedExpr Global) (t : Ty) (s : Span) → place_of (place_variant.Element a x t s) ≡ t_element a (expr_of x.value) t s
element_view a x t s = ap place_of (sym (place_variant.rolls-Element a x t s)) ∙ fold-roll-TypedPlace TArgument TBase TExpr TPlace TCall argument_step base_step expr_step place_step call_step _

pub logic_view : (g : Logic) (x y : Box rust.TypedExpr Global) (r : Rate) (s : Span) → expr_of (variant.Logic g x y r s) ≡ t_logic g (expr_of x.value) (expr_of y.value) r s
logic_view g x y r s = ap expr_of (sym (variant.rolls-Logic g x y r s)) ∙ fold-roll-TypedExpr TArgument TBase TExpr TPlace TCall argument_step base_step expr_step place_step call_step _

pub choose_view : (c x y : Box rust.TypedExpr Global) (t : Ty) (s : Span) → expr_of (variant.Choose c x y t s) ≡ t_choose (expr_of c.value) (expr_of x.value) (expr_of y.value) t s
choose_view c x y t s = ap expr_of (sym (variant.rolls-Choose c x y t s)) ∙ fold-roll-TypedExpr TArgument TBase TExpr TPlace TCall argument_step base_step expr_step place_step call_step _

pub variable_view : (n : ℕ) (t : Ty) (s : Span) → place_of (place_variant.Variable n t s) ≡ t_variable n t s
variable_view n t s = ap place_of (sym (place_variant.rolls-Variable n t s)) ∙ fold-roll-TypedPlace TArgument TBase TExpr TPlace TCall argument_step base_step expr_step place_step call_step _
