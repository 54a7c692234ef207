-- Steps of the loop over statements: what is found so far, joined with what the rest gives.
use Rattle.std.proofs.Common.{◌≡◌, ℕ, zero, suc, ◌+◌, ◌<◌, ◌≤◌, arith, refl, sym, ap, subst, ◌∙◌, drop, drop-cons, add-one, get_or, ◌++◌}
use Rattle.std.specs.Prelude.{Result, Ok, Err, Option, List, [], ◌∷◌, length}
use Rattle.std.specs.Result.{IfOk}
use Rattle.std.proofs.lemmas.Result.{IfOk-weaker}
use Rattle.isp_base.specs.declared.types.Gang.{Gang}
use Rattle.isp_base.specs.declared.types.Ty.{Ty}
use Rattle.isp_lex.specs.declared.fault.Fault.{Fault}
use Rattle.isp_tree.specs.declared.stmt.Stmt as rust
use Rattle.isp_tree.specs.Nodes.{nodes_of_stmt, nodes_of_stmts}
use Rattle.isp_tree.specs.Tree.{all}
use Rattle.isp_tree.specs.Views.{stmt_of, stmts_of}
use Rattle.isp_typed.specs.declared.variable.Variable.{Variable}
use Rattle.isp_typed.specs.Typed.{TStmt, TStmts, t_no_stmts, t_stmt_then, t_stmts}
use Rattle.isp_typed.specs.Verdicts.{both, made}
use Rattle.isp_typed.proofs.Order.{earlier_assoc}
use Rattle.isp_typed.proofs.Verdicts.{both_made}
use Rattle.isp_exprs.specs.declared.scope.Binding.{Binding}
use Rattle.isp_exprs.specs.Callees.{Heading}
use Rattle.isp_types.specs.Numbering.{names_after, variables_after, stmts_variables}
use Rattle.isp_types.specs.Nodes.{stmts_made}
use Rattle.isp_types.specs.Statements.{stmt_typing, stmts_typing}
use Rattle.isp_exprs.specs.reader.Lists.{and_one}

-- a statement has at most the nodes of all
pub nodes_low : (xs : List rust.Stmt) (i : ℕ) (x : rust.Stmt) → i < length xs → x ≡ get_or xs i x → nodes_of_stmt (stmt_of x) ≤ nodes_of_stmts (all (stmts_of xs))
nodes_low [] i x low is = absurd (omega (arith, low))
nodes_low (y ∷ ys) zero x low is = subst (λ z. nodes_of_stmt (stmt_of z) ≤ nodes_of_stmt (stmt_of y) + nodes_of_stmts (all (stmts_of ys))) (sym is) (omega arith)
nodes_low (y ∷ ys) (suc i) x low is = let n = nodes_low ys i x (omega (arith, low)) is in omega (arith, n)

-- statements before others
abbrev pub before : List TStmt → TStmts → TStmts
before [] ss = ss
before (x ∷ xs) ss = t_stmt_then x (before xs ss)

abbrev pub joined : Result (List TStmt) Fault → Result TStmts Fault → Result TStmts Fault
joined a r = made (λ p. before p.0 p.1) (both a r)

before_more : (xs : List TStmt) (t : TStmt) (ss : TStmts) → before (xs ++ t ∷ []) ss ≡ before xs (t_stmt_then t ss)
before_more [] t ss = refl
before_more (x ∷ xs) t ss = ap (t_stmt_then x) (before_more xs t ss)

before_none : (xs : List TStmt) → before xs t_no_stmts ≡ t_stmts xs
before_none [] = refl
before_none (x ∷ xs) = ap (t_stmt_then x) (before_none xs)

joined_step : (a : Result (List TStmt) Fault) (t : Result TStmt Fault) (r : Result TStmts Fault) → joined (made and_one (both a t)) r ≡ joined a (made stmts_made (both t r))
joined_step (Ok a) (Ok t) (Ok r) = ap (λ z. Ok z) (before_more a t r)
joined_step (Ok a) (Ok t) (Err r) = refl
joined_step (Ok a) (Err t) (Ok r) = refl
joined_step (Ok a) (Err t) (Err r) = refl
joined_step (Err a) (Ok t) (Ok r) = refl
joined_step (Err a) (Ok t) (Err r) = refl
joined_step (Err a) (Err t) (Ok r) = refl
joined_step (Err a) (Err t) (Err r) = ap (λ z. Err z) (earlier_assoc a t r)

pub joined_none : (a : Result (List TStmt) Fault) → joined a (Ok t_no_stmts) ≡ made t_stmts a
joined_none (Ok a) = ap (λ z. Ok z) (before_none a)
joined_none (Err e) = refl

pub joined_first : (r : Result TStmts Fault) → joined (Ok []) r ≡ r
joined_first (Ok r) = refl
joined_first (Err e) = refl

cons_is : {A : Type 0} (a b : A) (xs ys : List A) → a ≡ b → xs ≡ ys → a ∷ xs ≡ b ∷ ys
cons_is a b xs ys p q = cc

pub split_at : {A : Type 0} (xs : List A) (i : ℕ) (x : A) → i < length xs → x ≡ get_or xs i x → drop i xs ≡ x ∷ drop (i + 1) xs
split_at xs i x h e = drop-cons xs i x h ∙ cons_is _ _ _ _ (sym e) (ap (λ n. drop n xs) (sym (add-one i)))

module _ (gang : Gang) (hs : List Heading) (answer : Result (Option Ty) Fault) where
  pub stmts_step : (ns : List Binding) (start : ℕ) (vars : List Variable) (rest more : List rust.Stmt) (total : Result TStmts Fault) (a : Result (List TStmt) Fault) (x : rust.Stmt)
      → rest ≡ x ∷ more
      → joined a (stmts_typing gang hs answer ns start vars (all (stmts_of rest))).verdict ≡ total
      → joined (made and_one (both a (stmt_typing gang hs answer ns start vars (stmt_of x)).verdict))
      (stmts_typing gang hs answer (names_after gang ns vars (stmt_of x)) start (variables_after gang hs ns vars (stmt_of x)) (all (stmts_of more))).verdict ≡ total
  stmts_step ns start vars rest more total a x split e =
      joined_step a (stmt_typing gang hs answer ns start vars (stmt_of x)).verdict (stmts_typing gang hs answer (names_after gang ns vars (stmt_of x)) start (variables_after gang hs ns vars (stmt_of x)) (all (stmts_of more))).verdict
      ∙ subst (λ (z : List rust.Stmt). joined a (stmts_typing gang hs answer ns start vars (all (stmts_of z))).verdict ≡ total) split e

pub variables_step : (gang : Gang) (hs : List Heading) (ns : List Binding) (vars : List Variable) (rest more : List rust.Stmt) (total : List Variable) (x : rust.Stmt) → rest ≡ x ∷ more
    → stmts_variables gang hs ns vars (all (stmts_of rest)) ≡ total
    → stmts_variables gang hs (names_after gang ns vars (stmt_of x)) (variables_after gang hs ns vars (stmt_of x)) (all (stmts_of more)) ≡ total
variables_step gang hs ns vars rest more total x split e = subst (λ (z : List rust.Stmt). stmts_variables gang hs ns vars (all (stmts_of z)) ≡ total) split e

-- what a last call answers, seen as what is promised
pub answer_is : {T X E : Type 0} (r : Result T E) (view : T → X) (a b : X) → IfOk r (λ v. view v ≡ a) → a ≡ b → IfOk r (λ v. view v ≡ b)
answer_is r view a b h e = IfOk-weaker r (λ v. view v ≡ a) (λ v. view v ≡ b) (λ v p. p ∙ e) h

-- what holds whatever it answers
pub any_ok : {T E : Type 0} (r : Result T E) (P : Type 0) → P → IfOk r (λ _. P)
any_ok (Ok x) P p = p
any_ok (Err e) P p = tt

-- two verdicts, or three, seen one by one
pub pair_seen : {A B D E : Type 0} (f : A → D) (g : B → E) (v : Result A Fault) (w : Result B Fault) (r : Result (A × B) Fault) → r ≡ both v w
    → made (λ p. (f p.0, g p.1)) r ≡ both (made f v) (made g w)
pair_seen f g v w r e = ap (made (λ p. (f p.0, g p.1))) e ∙ sym (both_made f g v w)

pub three_seen : {A B C D E F : Type 0} (f : A → D) (g : B → E) (k : C → F) (v : Result A Fault) (w : Result B Fault) (u : Result C Fault) (q : Result (B × C) Fault) (r : Result (A × (B × C)) Fault)
    → q ≡ both w u → r ≡ both v q → made (λ p. (f p.0, (g p.1.0, k p.1.1))) r ≡ both (made f v) (both (made g w) (made k u))
three_seen {B = B} {C = C} f g k v w u q r d e =
    pair_seen f (λ (z : B × C). (g z.0, k z.1)) v q r e ∙ ap (both (made f v)) (pair_seen g k w u q d)
