-- Calls and elements, as they are read, seen as trees.
use Rattle.std.proofs.Common.{◌≡◌, sym, ap, ◌∙◌, Vec, Global, Box}
use Rattle.isp_base.specs.declared.types.Span.{Span}
use Rattle.isp_tree.specs.declared.types.Word.{Word}
use Rattle.isp_tree.specs.declared.expr.Expr as rust
use Rattle.isp_tree.specs.declared.expr.Expr.TheVariants as variant
use Rattle.isp_tree.specs.declared.expr.Place as rust_place
use Rattle.isp_tree.specs.declared.expr.Place.TheVariants as place_variant
use Rattle.isp_tree.specs.declared.expr.Argument as rust_argument
use Rattle.isp_tree.specs.declared.expr.Argument.TheFolds.{fold-roll-Expr, fold-roll-Place}
use Rattle.isp_tree.specs.Tree.{Expr, place, call, Place, element, Argument, listed}
use Rattle.isp_tree.specs.Views.{argument_step, expr_step, place_step, arguments_of, expr_of, place_of}

pub call_view : (w : Word) (xs : Vec rust_argument.Argument Global) (s : Span) → expr_of (variant.Call w xs s) ≡ call w (listed (arguments_of xs.items)) s
call_view w xs s = ap expr_of (sym (variant.rolls-Call w xs s)) ∙ fold-roll-Expr Argument Expr Place argument_step expr_step place_step _

place_view : (p : rust_place.Place) → expr_of (variant.Place p) ≡ place (place_of p)
place_view p = ap expr_of (sym (variant.rolls-Place p)) ∙ fold-roll-Expr Argument Expr Place argument_step expr_step place_step _

pub element_view : (w : Word) (x : Box rust.Expr Global) (s : Span) → expr_of (variant.Place (place_variant.Element w x s)) ≡ place (element w (expr_of x.value) s)
element_view w x s =
    place_view _
    ∙ ap (λ (p : Place). place p) (ap place_of (sym (place_variant.rolls-Element w x s)) ∙ fold-roll-Place Argument Expr Place argument_step expr_step place_step _)
