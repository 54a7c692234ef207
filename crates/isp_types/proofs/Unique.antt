-- The index of a `foreach_unique`: what its value was judged to be, and where that is found.
use Rattle.std.proofs.Common.{◌≡◌, ℕ, ◌++◌, refl, sym, ap, ◌∙◌, Global, Box}
use Rattle.std.specs.Prelude.{List, [], ◌∷◌, length, Result, Ok, Err}
use Rattle.isp_base.specs.declared.types.Elem.{Elem}
use Rattle.isp_base.specs.declared.types.Gang.{Gang}
use Rattle.isp_base.specs.declared.types.Span.{Span}
use Rattle.isp_base.specs.Ranks.{operand}
use Rattle.isp_lex.specs.declared.fault.Fault.{Fault}
use Rattle.isp_tree.specs.declared.types.Word.{Word}
use Rattle.isp_tree.specs.Tree.{Expr}
use Rattle.isp_typed.specs.declared.variable.Variable.{Variable}
use Rattle.isp_typed.specs.declared.expr.TypedExpr.{TypedExpr}
use Rattle.isp_typed.specs.declared.stmt.TypedStmt.{TypedStmt}
use Rattle.isp_typed.specs.declared.stmt.TypedStmt.TheVariants as typed
use Rattle.isp_typed.specs.Typed.{TExpr, t_foreach_unique, elem_of}
use Rattle.isp_typed.specs.Verdicts.{both, made}
use Rattle.isp_typed.specs.Views.{expr_of, stmt_of}
use Rattle.isp_typed.specs.Indices.{unique_index}
use Rattle.isp_exprs.specs.declared.scope.Binding.{Binding}
use Rattle.isp_exprs.specs.Scopes.{Meaning, next_known, with_name}
use Rattle.isp_typed.proofs.Verdicts.{both_made}
use Rattle.isp_exprs.specs.Values.{converted}
use Rattle.isp_exprs.specs.reader.Parts.{boxed_of}
use Rattle.isp_exprs.specs.Callees.{Heading}
use Rattle.isp_exprs.specs.Rules.{expr_typing}
use Rattle.isp_exprs.proofs.Exprs.{expr_found}
use Rattle.isp_types.specs.Numbering.{index_of, or_active, unique_names, unique_variables}
use Rattle.isp_types.specs.Nodes.{unique_stmt}
use Rattle.isp_types.specs.reader.Lists.{known_next}
use Rattle.isp_types.proofs.StmtTrees.{typed_unique_view}

next_is : (vars : List Variable) (k : ℕ) (r : Result Variable Fault) → k ≡ length vars → known_next k r ≡ next_known vars r
next_is vars k (Ok v) e = ap (λ (n : ℕ). Ok (record { number = n; variable = v })) e
next_is vars k (Err f) e = refl

module _ (gang : Gang) (hs : List Heading) (ns : List Binding) (vars : List Variable) where
  -- where the value is found
  pub unique_named : (w : Word) (x : Expr) (t : TExpr) → (expr_typing gang hs ns x).is t → unique_names gang hs ns vars w x ≡ with_name ns vars w.name (Ok (unique_index (elem_of t)))
  unique_named w x t i = ap (λ r. with_name ns vars w.name (index_of r)) (expr_found gang hs ns x t i)

  pub unique_declared : (x : Expr) (t : TExpr) → (expr_typing gang hs ns x).is t → unique_variables gang hs ns vars x ≡ vars ++ unique_index (elem_of t) ∷ []
  unique_declared x t i = ap (λ r. vars ++ or_active (index_of r) ∷ []) (expr_found gang hs ns x t i)

  -- what its value was judged to be
  index_is : (x : Expr) (v : Result TExpr Fault) (index : Result Variable Fault) → v ≡ (expr_typing gang hs ns x).verdict → index ≡ index_of v → index ≡ index_of (expr_typing gang hs ns x).verdict
  index_is x v index p q = q ∙ ap index_of p

  pub names_judged : (w : Word) (x : Expr) (v : Result TExpr Fault) (index : Result Variable Fault) (k : ℕ) (m : Meaning) → v ≡ (expr_typing gang hs ns x).verdict → index ≡ index_of v → k ≡ length vars → m ≡ known_next k index
      → ns ++ record { name = w.name; meaning = m } ∷ [] ≡ unique_names gang hs ns vars w x
  names_judged w x v index k m p q e h = ap (λ (z : Meaning). ns ++ record { name = w.name; meaning = z } ∷ []) (h ∙ (next_is vars k index e ∙ ap (next_known vars) (index_is x v index p q)))

  pub variables_judged : (x : Expr) (v : Result TExpr Fault) (index : Result Variable Fault) (u : Variable) → v ≡ (expr_typing gang hs ns x).verdict → index ≡ index_of v → u ≡ or_active index
      → vars ++ u ∷ [] ≡ unique_variables gang hs ns vars x
  variables_judged x v index u p q h = ap (λ (z : Variable). vars ++ z ∷ []) (h ∙ ap or_active (index_is x v index p q))

-- the statement of a value and a body in boxes: y is the value in the type in which operators work
pub unique_made : (k : Span) (n : ℕ) (s : Span) (v : Result (Box TypedExpr Global) Fault) (w : Result (Box TypedStmt Global) Fault) (x : Box TypedExpr Global) (a : Box TypedStmt Global) (y : TypedExpr) (e : Elem)
    → both v w ≡ Ok (x, a) → e ≡ elem_of (boxed_of x) → expr_of y ≡ converted (operand e) (boxed_of x)
    → Ok (stmt_of (typed.ForeachUnique k n n e y a s)) ≡ made (unique_stmt k n s) (both (made boxed_of v) (made (λ b. stmt_of b.value) w))
unique_made k n s v w x a y e q p r =
    ap (λ z. Ok z) (typed_unique_view k n n e y a s
    ∙ (ap (λ z. t_foreach_unique k n n e z (stmt_of a.value) s) r ∙ ap (λ z. t_foreach_unique k n n z (converted (operand z) (boxed_of x)) (stmt_of a.value) s) p))
    ∙ sym (ap (made (unique_stmt k n s)) (both_made boxed_of (λ (b : Box TypedStmt Global). stmt_of b.value) v w
    ∙ ap (made (λ (p : Box TypedExpr Global × Box TypedStmt Global). (boxed_of p.0, stmt_of p.1.value))) q))
