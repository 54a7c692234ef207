-- Steps of the walk over statements and functions.
use Rattle.std.proofs.Common.{◌≡◌, ℕ, ◌++◌, sym, ap, subst, ◌∙◌, map, Global, Box}
use Rattle.std.specs.Prelude.{List, [], ◌∷◌, length, Bool, Option, Result, Ok, Err, bytes_eq, ⊤}
use Rattle.std.specs.List.{list_any}
use Rattle.std.specs.Result.{IfOk}
use Rattle.isp_base.specs.declared.types.Gang.{Gang}
use Rattle.isp_base.specs.declared.types.Span.{Span}
use Rattle.isp_base.specs.declared.types.Ty.{Ty}
use Rattle.isp_lex.specs.declared.fault.Fault.{Fault}
use Rattle.isp_tree.specs.declared.expr.Expr as rust_expr
use Rattle.isp_tree.specs.declared.function.Function as rust_function
use Rattle.isp_tree.specs.declared.stmt.Form.{Form}
use Rattle.isp_tree.specs.declared.stmt.Stmt as rust
use Rattle.isp_tree.specs.declared.stmt.Stmt.TheVariants as variant
use Rattle.isp_tree.specs.Tree.{all, Expr, Stmt}
use Rattle.isp_tree.specs.Views.{expr_of, function_of, stmt_of, stmts_of}
use Rattle.isp_typed.specs.declared.variable.Variable.{Variable}
use Rattle.isp_exprs.specs.declared.scope.Binding.{Binding}
use Rattle.isp_exprs.specs.Callees.{Heading}
use Rattle.isp_types.specs.Numbering.{names_after, variables_after}
use Rattle.isp_types.specs.reader.Lists.{name_fault}
use Rattle.isp_types.proofs.StmtTrees.{if_else_view}
use Rattle.isp_name_breaches.specs.reader.Exprs.{told, expr_faults}
use Rattle.isp_name_breaches.specs.reader.Stmts.{stmt_faults, stmts_faults}
use Rattle.isp_name_breaches.specs.reader.Programs.{inside_faults, functions_faults}
use Rattle.isp_name_breaches.proofs.Steps.{gathered, two_told, three_told}

module _ (gang : Gang) (hs : List Heading) where
  -- one more statement
  pub stmts_step : (answer : Result (Option Ty) Fault) (ns : List Binding) (start : ℕ) (vars : List Variable) (rest more : List rust.Stmt) (seen next total : List Fault) (x : rust.Stmt)
      → rest ≡ x ∷ more
      → next ≡ seen ++ stmt_faults gang hs answer ns start vars (stmt_of x)
      → seen ++ stmts_faults gang hs answer ns start vars (all (stmts_of rest)) ≡ total
      → next ++ stmts_faults gang hs answer (names_after gang ns vars (stmt_of x)) start (variables_after gang hs ns vars (stmt_of x)) (all (stmts_of more)) ≡ total
  stmts_step answer ns start vars rest more seen next total x split n k =
      gathered seen _ _ next total n (subst (λ (z : List rust.Stmt). seen ++ stmts_faults gang hs answer ns start vars (all (stmts_of z)) ≡ total) split k)

  -- a test, a body where it holds, and another where it does not
  pub if_else_told : {E : Type 0} (answer : Result (Option Ty) Fault) (ns ms : List Binding) (start : ℕ) (vars later : List Variable) (r : Result ⊤ E) (f0 f1 f2 f3 : List Fault)
      (s : rust.Stmt) (form : Form) (x : rust_expr.Expr) (a b : Box rust.Stmt Global) (span : Span) (then otherwise : rust.Stmt)
      → s ≡ variant.IfElse form x a b span
      → then ≡ a.value
      → otherwise ≡ b.value
      → f1 ≡ f0 ++ expr_faults gang hs ns (expr_of x)
      → f2 ≡ f1 ++ stmt_faults gang hs answer ns (length ns) vars (stmt_of then)
      → ms ≡ ns
      → later ≡ variables_after gang hs ns vars (stmt_of then)
      → IfOk r (λ u. f3 ≡ f2 ++ stmt_faults gang hs answer ms (length ms) later (stmt_of otherwise))
      → IfOk r (λ u. f3 ≡ f0 ++ stmt_faults gang hs answer ns start vars (stmt_of s))
  if_else_told answer ns ms start vars later (Err e) f0 f1 f2 f3 s form x a b span then otherwise i t o p q m v h = tt
  if_else_told answer ns ms start vars later (Ok u) f0 f1 f2 f3 s form x a b span then otherwise i t o p q m v h =
      three_told f0 f1 f2 f3 _ _ _ p q h
      ∙ (ap (λ (z : List Binding). f0 ++ (expr_faults gang hs ns (expr_of x) ++ (stmt_faults gang hs answer ns (length ns) vars (stmt_of then) ++ stmt_faults gang hs answer z (length z) later (stmt_of otherwise)))) m
      ∙ (ap (λ (z : List Variable). f0 ++ (expr_faults gang hs ns (expr_of x) ++ (stmt_faults gang hs answer ns (length ns) vars (stmt_of then) ++ stmt_faults gang hs answer ns (length ns) z (stmt_of otherwise)))) v
      ∙ (ap (λ (z : rust.Stmt). f0 ++ (expr_faults gang hs ns (expr_of x) ++ (stmt_faults gang hs answer ns (length ns) vars (stmt_of z) ++ stmt_faults gang hs answer ns (length ns) (variables_after gang hs ns vars (stmt_of z)) (stmt_of otherwise)))) t
      ∙ (ap (λ (z : rust.Stmt). f0 ++ (expr_faults gang hs ns (expr_of x) ++ (stmt_faults gang hs answer ns (length ns) vars (stmt_of a.value) ++ stmt_faults gang hs answer ns (length ns) (variables_after gang hs ns vars (stmt_of a.value)) (stmt_of z)))) o
      ∙ ap (λ z. f0 ++ stmt_faults gang hs answer ns start vars z) (sym (ap stmt_of i ∙ if_else_view form x a b span))))))

  -- a body, and the test after it
  pub repeated_told : {E : Type 0} (answer : Result (Option Ty) Fault) (ns ms : List Binding) (vars : List Variable) (r : Result ⊤ E) (f0 f1 f2 : List Fault) (a : Stmt) (x : Expr)
      → f1 ≡ f0 ++ stmt_faults gang hs answer ns (length ns) vars a
      → ms ≡ ns
      → IfOk r (λ u. f2 ≡ f1 ++ expr_faults gang hs ms x)
      → IfOk r (λ u. f2 ≡ f0 ++ (stmt_faults gang hs answer ns (length ns) vars a ++ expr_faults gang hs ns x))
  repeated_told answer ns ms vars (Err e) f0 f1 f2 a x p m h = tt
  repeated_told answer ns ms vars (Ok u) f0 f1 f2 a x p m h =
      two_told f0 f1 f2 _ _ p h ∙ ap (λ (z : List Binding). f0 ++ (stmt_faults gang hs answer ns (length ns) vars a ++ expr_faults gang hs z x)) m

  -- one more function, with the fault of its name
  pub functions_step : (earlier : List (List ℕ)) (rest more : List rust_function.Function) (seen named next total : List Fault) (x : rust_function.Function) (taken : Bool) (o : Option Fault)
      → rest ≡ x ∷ more
      → named ≡ seen ++ told o
      → o ≡ name_fault x.word taken
      → taken ≡ list_any (λ n. bytes_eq n x.word.name) earlier
      → next ≡ named ++ inside_faults gang hs (function_of x)
      → seen ++ functions_faults gang hs earlier (map function_of rest) ≡ total
      → next ++ functions_faults gang hs (earlier ++ x.word.name ∷ []) (map function_of more) ≡ total
  functions_step earlier rest more seen named next total x taken o split n e t m k =
      gathered seen (told (name_fault x.word (list_any (λ n. bytes_eq n x.word.name) earlier)) ++ inside_faults gang hs (function_of x)) _ next total
      (two_told seen named next _ _ (n ∙ ap (λ (z : Option Fault). seen ++ told z) (e ∙ ap (name_fault x.word) t)) m)
      (subst (λ (z : List rust_function.Function). seen ++ functions_faults gang hs earlier (map function_of z) ≡ total) split k)
