-- What is told of a cast, and of two and three operands one after the other.
use Rattle.std.proofs.Common.{◌≡◌, ◌++◌, List, Global, Box, sym, ap, ◌∙◌}
use Rattle.std.specs.Prelude.{Result}
use Rattle.isp_base.specs.declared.types.Gang.{Gang}
use Rattle.isp_base.specs.declared.types.Span.{Span}
use Rattle.isp_lex.specs.declared.fault.Fault.{Fault}
use Rattle.isp_tree.specs.declared.types.TypeWords.{TypeWords}
use Rattle.isp_tree.specs.declared.expr.Operator.{Operator}
use Rattle.isp_tree.specs.declared.expr.Expr as rust
use Rattle.isp_tree.specs.declared.expr.Expr.TheVariants as variant
use Rattle.isp_tree.specs.declared.expr.Argument.TheFolds.{fold-roll-Expr}
use Rattle.isp_tree.specs.Tree.{Expr, cast, binary, choose, Place, Argument}
use Rattle.isp_tree.specs.Views.{type_of, argument_step, expr_step, place_step, expr_of}
use Rattle.isp_exprs.specs.declared.words.ValueWords.{ValueWords}
use Rattle.isp_exprs.specs.declared.scope.Binding.{Binding}
use Rattle.isp_exprs.specs.Callees.{Heading}
use Rattle.isp_exprs.specs.Words.{value_said}
use Rattle.isp_name_breaches.specs.reader.Exprs.{expr_faults, refusal}
use Rattle.isp_name_breaches.proofs.Steps.{two_told, three_told}

cast_view : (t : TypeWords) (x : Box rust.Expr Global) (s : Span) → expr_of (variant.Cast t x s) ≡ cast (type_of t) (expr_of x.value) s
cast_view t x s = ap expr_of (sym (variant.rolls-Cast t x s)) ∙ fold-roll-Expr Argument Expr Place argument_step expr_step place_step _

binary_view : (p : Operator) (x y : Box rust.Expr Global) (s : Span) → expr_of (variant.Binary p x y s) ≡ binary p (expr_of x.value) (expr_of y.value) s
binary_view p x y s = ap expr_of (sym (variant.rolls-Binary p x y s)) ∙ fold-roll-Expr Argument Expr Place argument_step expr_step place_step _

choose_view : (c x y : Box rust.Expr Global) (s : Span) → expr_of (variant.Choose c x y s) ≡ choose (expr_of c.value) (expr_of x.value) (expr_of y.value) s
choose_view c x y s = ap expr_of (sym (variant.rolls-Choose c x y s)) ∙ fold-roll-Expr Argument Expr Place argument_step expr_step place_step _

module _ (gang : Gang) (hs : List Heading) (ns : List Binding) where
  abbrev faults : rust.Expr → List Fault
  faults x = expr_faults gang hs ns (expr_of x)

  pub cast_told : (x : rust.Expr) (t : TypeWords) (o : Box rust.Expr Global) (s : Span) (said : Result ValueWords Fault) (e : rust.Expr) (f0 f1 f2 : List Fault)
      → x ≡ variant.Cast t o s → said ≡ value_said (type_of t) → e ≡ o.value → f1 ≡ f0 ++ refusal said → f2 ≡ f1 ++ faults e → f2 ≡ f0 ++ faults x
  cast_told x t o s said e f0 f1 f2 is a b p q =
      two_told f0 f1 f2 (refusal said) (faults e) p q
      ∙ ap (λ (l : List Fault). f0 ++ l)
      (ap (λ (v : Result ValueWords Fault). refusal v ++ faults e) a ∙ ap (λ (y : rust.Expr). refusal (value_said (type_of t)) ++ faults y) b
      ∙ sym (ap faults is ∙ ap (expr_faults gang hs ns) (cast_view t o s)))

  pub binary_told : (x : rust.Expr) (p : Operator) (l r : Box rust.Expr Global) (s : Span) (d e : rust.Expr) (f0 f1 f2 : List Fault)
      → x ≡ variant.Binary p l r s → d ≡ l.value → e ≡ r.value → f1 ≡ f0 ++ faults d → f2 ≡ f1 ++ faults e → f2 ≡ f0 ++ faults x
  binary_told x p l r s d e f0 f1 f2 is a b g h =
      two_told f0 f1 f2 (faults d) (faults e) g h
      ∙ ap (λ (z : List Fault). f0 ++ z)
      (ap (λ (y : rust.Expr). faults y ++ faults e) a ∙ ap (λ (y : rust.Expr). faults l.value ++ faults y) b ∙ sym (ap faults is ∙ ap (expr_faults gang hs ns) (binary_view p l r s)))

  pub choose_told : (x : rust.Expr) (c l r : Box rust.Expr Global) (s : Span) (b d e : rust.Expr) (f0 f1 f2 f3 : List Fault)
      → x ≡ variant.Choose c l r s → b ≡ c.value → d ≡ l.value → e ≡ r.value → f1 ≡ f0 ++ faults b → f2 ≡ f1 ++ faults d → f3 ≡ f2 ++ faults e → f3 ≡ f0 ++ faults x
  choose_told x c l r s b d e f0 f1 f2 f3 is i j k g h m =
      three_told f0 f1 f2 f3 (faults b) (faults d) (faults e) g h m
      ∙ ap (λ (z : List Fault). f0 ++ z)
      (ap (λ (y : rust.Expr). faults y ++ (faults d ++ faults e)) i ∙ ap (λ (y : rust.Expr). faults c.value ++ (faults y ++ faults e)) j
      ∙ ap (λ (y : rust.Expr). faults c.value ++ (faults l.value ++ faults y)) k ∙ sym (ap faults is ∙ ap (expr_faults gang hs ns) (choose_view c l r s)))
