-- Expressions, places and arguments of the code, seen as trees.
use Rattle.std.proofs.Common.{◌≡◌, sym, ap, ◌∙◌, Vec, Global, Box}
use Rattle.std.specs.Prelude.{Bool}
use Rattle.isp_base.specs.declared.types.Span.{Span}
use Rattle.isp_base.specs.declared.types.Value.{Value}
use Rattle.isp_tree.specs.declared.types.TypeWords.{TypeWords}
use Rattle.isp_tree.specs.declared.types.Word.{Word}
use Rattle.isp_tree.specs.declared.expr.Prefix.{Prefix}
use Rattle.isp_tree.specs.declared.expr.Operator.{Operator}
use Rattle.isp_tree.specs.declared.expr.Expr as rust
use Rattle.isp_tree.specs.declared.expr.Expr.TheVariants as variant
use Rattle.isp_tree.specs.declared.expr.Place as rust_place
use Rattle.isp_tree.specs.declared.expr.Place.TheVariants as place_variant
use Rattle.isp_tree.specs.declared.expr.Argument as rust_argument
use Rattle.isp_tree.specs.declared.expr.Argument.TheVariants as argument_variant
use Rattle.isp_tree.specs.declared.expr.Argument.TheFolds.{fold-roll-Expr, fold-roll-Place, fold-roll-Argument}
use Rattle.isp_tree.specs.Tree.{Expr, number, truth, program_index, program_count, place, call, brackets, cast, prefix, binary, choose, Place, element}
use Rattle.isp_tree.specs.Tree.{Argument, by_value, by_reference, listed}
use Rattle.isp_tree.specs.Views.{type_of, argument_step, expr_step, place_step, argument_of, arguments_of, expr_of, place_of}

pub value_view : (x : rust.Expr) → argument_of (argument_variant.Value x) ≡ by_value (expr_of x)
value_view x = ap argument_of (sym (argument_variant.rolls-Value x)) ∙ fold-roll-Argument Argument Expr Place argument_step expr_step place_step _

reference_view : (p : rust_place.Place) (s : Span) → argument_of (argument_variant.Reference p s) ≡ by_reference (place_of p) s
reference_view p s = ap argument_of (sym (argument_variant.rolls-Reference p s)) ∙ fold-roll-Argument Argument Expr Place argument_step expr_step place_step _

pub element_view : (w : Word) (x : Box rust.Expr Global) (s : Span) → place_of (place_variant.Element w x s) ≡ element w (expr_of x.value) s
element_view w x s = ap place_of (sym (place_variant.rolls-Element w x s)) ∙ fold-roll-Place Argument Expr Place argument_step expr_step place_step _

pub place_view : (p : rust_place.Place) → expr_of (variant.Place p) ≡ place (place_of p)
place_view p = ap expr_of (sym (variant.rolls-Place p)) ∙ fold-roll-Expr Argument Expr Place argument_step expr_step place_step _

pub number_view : (v : Value) (s : Span) → expr_of (variant.Number v s) ≡ number v s
number_view v s = ap expr_of (sym (variant.rolls-Number v s)) ∙ fold-roll-Expr Argument Expr Place argument_step expr_step place_step _

pub truth_view : (b : Bool) (s : Span) → expr_of (variant.Truth b s) ≡ truth b s
truth_view b s = ap expr_of (sym (variant.rolls-Truth b s)) ∙ fold-roll-Expr Argument Expr Place argument_step expr_step place_step _

pub index_view : (s : Span) → expr_of (variant.ProgramIndex s) ≡ program_index s
index_view s = ap expr_of (sym (variant.rolls-ProgramIndex s)) ∙ fold-roll-Expr Argument Expr Place argument_step expr_step place_step _

pub count_view : (s : Span) → expr_of (variant.ProgramCount s) ≡ program_count s
count_view s = ap expr_of (sym (variant.rolls-ProgramCount s)) ∙ fold-roll-Expr Argument Expr Place argument_step expr_step place_step _

pub brackets_view : (x : Box rust.Expr Global) (s : Span) → expr_of (variant.Brackets x s) ≡ brackets (expr_of x.value) s
brackets_view x s = ap expr_of (sym (variant.rolls-Brackets x s)) ∙ fold-roll-Expr Argument Expr Place argument_step expr_step place_step _

pub cast_view : (t : TypeWords) (x : Box rust.Expr Global) (s : Span) → expr_of (variant.Cast t x s) ≡ cast (type_of t) (expr_of x.value) s
cast_view t x s = ap expr_of (sym (variant.rolls-Cast t x s)) ∙ fold-roll-Expr Argument Expr Place argument_step expr_step place_step _

pub prefix_view : (p : Prefix) (x : Box rust.Expr Global) (s : Span) → expr_of (variant.Prefix p x s) ≡ prefix p (expr_of x.value) s
prefix_view p x s = ap expr_of (sym (variant.rolls-Prefix p x s)) ∙ fold-roll-Expr Argument Expr Place argument_step expr_step place_step _

pub binary_view : (p : Operator) (x y : Box rust.Expr Global) (s : Span) → expr_of (variant.Binary p x y s) ≡ binary p (expr_of x.value) (expr_of y.value) s
binary_view p x y s = ap expr_of (sym (variant.rolls-Binary p x y s)) ∙ fold-roll-Expr Argument Expr Place argument_step expr_step place_step _

pub choose_view : (c x y : Box rust.Expr Global) (s : Span) → expr_of (variant.Choose c x y s) ≡ choose (expr_of c.value) (expr_of x.value) (expr_of y.value) s
choose_view c x y s = ap expr_of (sym (variant.rolls-Choose c x y s)) ∙ fold-roll-Expr Argument Expr Place argument_step expr_step place_step _

pub call_view : (w : Word) (xs : Vec rust_argument.Argument Global) (s : Span) → expr_of (variant.Call w xs s) ≡ call w (listed (arguments_of xs.items)) s
call_view w xs s = ap expr_of (sym (variant.rolls-Call w xs s)) ∙ fold-roll-Expr Argument Expr Place argument_step expr_step place_step _

pub called_view : (w : Word) (xs : Vec rust_argument.Argument Global) (s : Span) → argument_of (argument_variant.Value (variant.Call w xs s)) ≡ by_value (call w (listed (arguments_of xs.items)) s)
called_view w xs s = value_view _ ∙ ap by_value (call_view w xs s)

pub named_element_view : (w : Word) (x : Box rust.Expr Global) (s t : Span) → argument_of (argument_variant.Reference (place_variant.Element w x s) t) ≡ by_reference (element w (expr_of x.value) s) t
named_element_view w x s t = reference_view _ t ∙ ap (λ p. by_reference p t) (element_view w x s)
