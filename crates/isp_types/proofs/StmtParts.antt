-- Statements of judged parts: what a part was judged to be where names and variables are known to be others.
use Rattle.std.proofs.Common.{◌≡◌, ℕ, sym, ap, ◌∙◌}
use Rattle.std.proofs.lemmas.List.{length-map}
use Rattle.std.specs.Prelude.{Result, Option, List, length, take}
use Rattle.isp_base.specs.declared.types.Gang.{Gang}
use Rattle.isp_base.specs.declared.types.Span.{Span}
use Rattle.isp_base.specs.declared.types.Ty.{Ty}
use Rattle.isp_lex.specs.declared.fault.Fault.{Fault}
use Rattle.isp_tree.specs.declared.expr.Expr as rust
use Rattle.isp_tree.specs.Views.{expr_of, exprs_of}
use Rattle.isp_tree.specs.Tree.{Expr, Simple, Stmt}
use Rattle.isp_typed.specs.declared.variable.Variable.{Variable}
use Rattle.isp_typed.specs.Typed.{TExpr, TSimple, TStmt}
use Rattle.isp_typed.specs.Verdicts.{beside, both, made}
use Rattle.isp_exprs.specs.declared.scope.Binding.{Binding}
use Rattle.isp_exprs.specs.Typing.{perhaps}
use Rattle.isp_exprs.specs.Callees.{Heading}
use Rattle.isp_types.specs.Nodes.{print_stmt}
use Rattle.isp_types.specs.Statements.{test_typing, stmt_typing, values_typing}
use Rattle.isp_types.specs.Simple.{simple_typing}
use Rattle.isp_types.specs.reader.Lists.{print_fault}

-- what is made of two parts, after so many variables
pub joined_parts : {A B T : Type 0} (make : ℕ → A × B → T) (r : Result T Fault) (n k : ℕ) (f g : Result A Fault) (d e : Result B Fault)
    → r ≡ made (make n) (both f d) → n ≡ k → f ≡ g → d ≡ e → r ≡ made (make k) (both g e)
joined_parts make r n k f g d e a b c h = cc

pub joined_for : {A B T : Type 0} (make : ℕ → ℕ → A × B → T) (r : Result T Fault) (n k m l : ℕ) (f g : Result A Fault) (d e : Result B Fault)
    → r ≡ made (make n m) (both f d) → n ≡ k → m ≡ l → f ≡ g → d ≡ e → r ≡ made (make k l) (both g e)
joined_for make r n k m l f g d e a b c h i = cc

pub both_are : {A B : Type 0} (f g : Result A Fault) (d e : Result B Fault) → f ≡ g → d ≡ e → both f d ≡ both g e
both_are f g d e a b = cc

-- the names at a scope's end, left again
pub left_again : (new : List Binding) (start : ℕ) (later ns all : List Binding) → new ≡ take start later → start ≡ length ns → later ≡ all → take (length ns) all ≡ ns → new ≡ ns
left_again new start later ns all a b c d = cc

module _ (gang : Gang) (hs : List Heading) where
  pub test_judged : (f : Result TExpr Fault) (ns ms : List Binding) (x : Expr) → f ≡ (test_typing gang hs ns x).verdict → ns ≡ ms → f ≡ (test_typing gang hs ms x).verdict
  test_judged f ns ms x a b = cc

  -- the values of a `print`, as many as are read
  pub printed_judged : (k p s : Span) (t : List ℕ) (ns : List Binding) (values : Result (List TExpr) Fault) (found read : List rust.Expr)
      → values ≡ beside (print_fault t p (length found)) (values_typing gang hs ns (exprs_of found)).verdict → found ≡ read
      → made (print_stmt k t s) values ≡ made (print_stmt k t s) (beside (print_fault t p (length (exprs_of read))) (values_typing gang hs ns (exprs_of read)).verdict)
  printed_judged k p s t ns values found read e is = ap (made (print_stmt k t s))
      (e ∙ (ap (λ n. beside (print_fault t p n) (values_typing gang hs ns (exprs_of found)).verdict) (sym (length-map found expr_of))
      ∙ ap (λ z. beside (print_fault t p (length (exprs_of z))) (values_typing gang hs ns (exprs_of z)).verdict) is))

  module _ (answer : Result (Option Ty) Fault) where
    pub body_judged : (d : Result TStmt Fault) (ns ms : List Binding) (vars more : List Variable) (a : Stmt)
        → d ≡ (stmt_typing gang hs answer ns (length ns) vars a).verdict → ns ≡ ms → vars ≡ more → d ≡ (stmt_typing gang hs answer ms (length ms) more a).verdict
    body_judged d ns ms vars more a e f g = cc

    pub rest_judged : (d : Result (Option TExpr × (Option TSimple × TStmt)) Fault) (body : Result TStmt Fault) (after ns ms : List Binding) (vars more : List Variable) (x : Option Expr) (p : Option Simple) (a : Stmt)
        → d ≡ both (perhaps (test_typing gang hs after) x).verdict (both (perhaps (simple_typing gang hs after) p).verdict body)
        → body ≡ (stmt_typing gang hs answer ns (length ns) vars a).verdict → after ≡ ns → ns ≡ ms → vars ≡ more
        → d ≡ both (perhaps (test_typing gang hs ms) x).verdict (both (perhaps (simple_typing gang hs ms) p).verdict (stmt_typing gang hs answer ms (length ms) more a).verdict)
    rest_judged d body after ns ms vars more x p a e j s f g = cc
