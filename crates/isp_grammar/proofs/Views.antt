-- Nodes of the code seen as trees, one line a kind of node.
use Rattle.std.proofs.Common.{◌≡◌, sym, ap, ◌∙◌, Box, Global}
use Rattle.isp_base.specs.declared.types.Span.{Span}
use Rattle.isp_tree.specs.declared.expr.Argument.TheFolds.{fold-roll-Argument, fold-roll-Expr, fold-roll-Place}
use Rattle.isp_tree.specs.declared.expr.Argument.TheVariants as argument_variant
use Rattle.isp_tree.specs.declared.expr.Expr as rust
use Rattle.isp_tree.specs.declared.expr.Expr.TheVariants as variant
use Rattle.isp_tree.specs.declared.expr.Place as rust_place
use Rattle.isp_tree.specs.declared.expr.Place.TheVariants as place_variant
use Rattle.isp_tree.specs.declared.expr.Prefix.{Prefix}
use Rattle.isp_tree.specs.declared.types.TypeWords as rust_type
use Rattle.isp_tree.specs.declared.types.Word.{Word}
use Rattle.isp_tree.specs.Tree.{Expr, brackets, cast, prefix, Place, variable, element, Argument, by_value, by_reference}
use Rattle.isp_tree.specs.Views.{type_of, argument_step, expr_step, place_step, expr_of, place_of, argument_of}

pub brackets_view : (x : Box rust.Expr Global) (s : Span) → expr_of (variant.Brackets x s) ≡ brackets (expr_of x.value) s
brackets_view x s = ap expr_of (sym (variant.rolls-Brackets x s)) ∙ fold-roll-Expr Argument Expr Place argument_step expr_step place_step _

pub cast_view : (t : rust_type.TypeWords) (x : Box rust.Expr Global) (s : Span) → expr_of (variant.Cast t x s) ≡ cast (type_of t) (expr_of x.value) s
cast_view t x s = ap expr_of (sym (variant.rolls-Cast t x s)) ∙ fold-roll-Expr Argument Expr Place argument_step expr_step place_step _

pub prefix_view : (p : Prefix) (x : Box rust.Expr Global) (s : Span) → expr_of (variant.Prefix p x s) ≡ prefix p (expr_of x.value) s
prefix_view p x s = ap expr_of (sym (variant.rolls-Prefix p x s)) ∙ fold-roll-Expr Argument Expr Place argument_step expr_step place_step _

pub variable_view : (w : Word) → place_of (place_variant.Variable w) ≡ variable w
variable_view w = ap place_of (sym (place_variant.rolls-Variable w)) ∙ fold-roll-Place Argument Expr Place argument_step expr_step place_step _

pub element_view : (w : Word) (x : Box rust.Expr Global) (s : Span) → place_of (place_variant.Element w x s) ≡ element w (expr_of x.value) s
element_view w x s = ap place_of (sym (place_variant.rolls-Element w x s)) ∙ fold-roll-Place Argument Expr Place argument_step expr_step place_step _

pub value_view : (x : rust.Expr) → argument_of (argument_variant.Value x) ≡ by_value (expr_of x)
value_view x = ap argument_of (sym (argument_variant.rolls-Value x)) ∙ fold-roll-Argument Argument Expr Place argument_step expr_step place_step _

pub reference_view : (p : rust_place.Place) (s : Span) → argument_of (argument_variant.Reference p s) ≡ by_reference (place_of p) s
reference_view p s = ap argument_of (sym (argument_variant.rolls-Reference p s)) ∙ fold-roll-Argument Argument Expr Place argument_step expr_step place_step _
