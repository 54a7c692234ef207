-- Every statement that names and types accept is scoped.
use Rattle.std.proofs.Common.{◌≡◌, ℕ, suc, ◌++◌, ◌≤◌, sym, ap, subst, ◌∙◌}
use Rattle.std.specs.Prelude.{Option, Some, None, List, [], ◌∷◌, length, Result, Ok, Err}
use Rattle.isp_base.specs.declared.types.Elem.TheVariants.{Bool as Truth}
use Rattle.isp_base.specs.declared.types.Gang.{Gang}
use Rattle.isp_base.specs.declared.types.Span.{Span}
use Rattle.isp_base.specs.declared.types.Ty.{Ty}
use Rattle.isp_base.specs.Ranks.{operand}
use Rattle.isp_lex.specs.declared.fault.Fault.{Fault}
use Rattle.isp_tree.specs.Sound.{IfAny, IsSoundStmt, IsSoundBlock, AreSoundStmts}
use Rattle.isp_tree.specs.Tree.{Expr, First, Simple, Stmt, block, empty, declare, simple, if_then, if_else, loop_while, loop_do, loop_for, foreach, foreach_active}
use Rattle.isp_tree.specs.Tree.{foreach_unique, unmasked, jump, returning, print, assert, Block, braces, Stmts, no_stmts, stmt_then}
use Rattle.isp_typed.specs.declared.variable.Variable.{Variable}
use Rattle.isp_exprs.specs.Typing.{perhaps}
use Rattle.isp_typed.specs.Typed.{TExpr, TFirst, TSimple, TStmt, TBlock, TStmts, elem_of}
use Rattle.isp_typed.specs.Indices.{active_index, unique_index}
use Rattle.isp_typed.specs.Scoped.{Scope, declared, ExprIn, SimpleIn, number_after, scope_after, number_after_first, scope_after_first, number_after_stmt, number_after_block, number_after_stmts, scope_after_stmt, StmtAt, BlockAt, StmtsAt}
use Rattle.isp_exprs.specs.declared.scope.Binding.{Binding}
use Rattle.isp_exprs.specs.Scopes.{with_name}
use Rattle.isp_exprs.specs.Callees.{Heading}
use Rattle.isp_types.specs.Numbering.{first_names, first_variables, range_names, range_variables, unique_names, unique_variables, names_after, variables_after, block_variables, stmts_variables}
use Rattle.isp_types.specs.Simple.{simple_typing}
use Rattle.isp_types.specs.Statements.{as_answer, test_typing, first_typing, returned_typing, stmt_typing, block_typing, stmts_typing}
use Rattle.isp_types.proofs.Unique.{unique_named}
use Rattle.isp_types.proofs.scoped.Names.{AllIn, one_longer, scope_added}
use Rattle.isp_types.proofs.scoped.Exprs.{converted_in, expr_in}
use Rattle.isp_types.proofs.scoped.Simples.{FirstDone, simple_in, values_in, declaration_at, first_at, ranges_at}

-- what statements come to: they are scoped, with the number after them and the names there
abbrev StmtDone : Scope → ℕ → List Binding → List Variable → TStmt → Type 0
StmtDone v n ns vars t = StmtAt v n t × (number_after_stmt n t ≡ length vars) × AllIn (scope_after_stmt v n t) ns

abbrev pub BlockDone : Scope → ℕ → List Variable → TBlock → Type 0
BlockDone v n vars t = BlockAt v n t × (number_after_block n t ≡ length vars)

abbrev StmtsDone : Scope → ℕ → List Variable → TStmts → Type 0
StmtsDone v n vars t = StmtsAt v n t × (number_after_stmts n t ≡ length vars)

module _ (gang : Gang) (hs : List Heading) (answer : Result (Option Ty) Fault) where
  test_in : (v : Scope) (ns : List Binding) → AllIn v ns → (x : Expr) (t : TExpr) → (test_typing gang hs ns x).is t → ExprIn v t
  test_in v ns scope x t i = subst (ExprIn v) (sym i.2) (converted_in v Truth i.0 (expr_in gang hs v ns scope x i.0 i.1))

  -- what may be left out
  maybe_test : (v : Scope) (ns : List Binding) → AllIn v ns → (x : Option Expr) (t : Option TExpr) → (perhaps (test_typing gang hs ns) x).is t → IfAny (ExprIn v) t
  maybe_test v ns scope None t i = subst (IfAny (ExprIn v)) (sym i) tt
  maybe_test v ns scope (Some x) t i = subst (IfAny (ExprIn v)) (sym i.2) (test_in v ns scope x i.0 i.1)

  maybe_simple : (v : Scope) (ns : List Binding) → AllIn v ns → (x : Option Simple) (t : Option TSimple) → (perhaps (simple_typing gang hs ns) x).is t → IfAny (SimpleIn v) t
  maybe_simple v ns scope None t i = subst (IfAny (SimpleIn v)) (sym i) tt
  maybe_simple v ns scope (Some x) t i = subst (IfAny (SimpleIn v)) (sym i.2) (simple_in gang hs v ns scope x i.0 i.1)

  maybe_first : (start : ℕ) (v : Scope) (ns : List Binding) (vars : List Variable) (n : ℕ) → AllIn v ns → n ≡ length vars → (x : Option First) (t : Option TFirst) → (perhaps (first_typing gang hs ns start vars) x).is t
      → FirstDone v n (first_names gang ns vars x) (first_variables gang vars x) t
  maybe_first start v ns vars n scope e None t i = subst (FirstDone v n ns vars) (sym i) (tt, e, scope)
  maybe_first start v ns vars n scope e (Some x) t i =
      subst (FirstDone v n (first_names gang ns vars (Some x)) (first_variables gang vars (Some x))) (sym i.2) (first_at gang hs start v ns vars n x scope e i.0 i.1)

  answer_in : (v : Scope) (r : Result (Option Ty) Fault) (x : TExpr) → ExprIn v x → ExprIn v (as_answer r x)
  answer_in v (Err f) x i = i
  answer_in v (Ok None) x i = i
  answer_in v (Ok (Some t)) x i = converted_in v t.elem x i

  returned_in : (v : Scope) (ns : List Binding) → AllIn v ns → (k : Span) (x : Option Expr) (t : Option TExpr) → (returned_typing gang hs answer ns k x).is t → IfAny (ExprIn v) t
  returned_in v ns scope k None t i = subst (IfAny (ExprIn v)) (sym i.1) tt
  returned_in v ns scope k (Some x) t i =
      let one = i.1 in
      subst (IfAny (ExprIn v)) (sym (one.2 ∙ ap (λ z. Some z) one.1.2)) (answer_in v answer one.1.0 (expr_in gang hs v ns scope x one.1.0 one.1.1))

  mutual
    stmt_scoped : (v : Scope) (ns : List Binding) (start : ℕ) (vars : List Variable) (n : ℕ) (s : Stmt) → IsSoundStmt s → AllIn v ns → n ≡ length vars → (t : TStmt) → (stmt_typing gang hs answer ns start vars s).is t
        → StmtDone v n (names_after gang ns vars s) (variables_after gang hs ns vars s) t
    stmt_scoped v ns start vars n (block b) h scope e t i =
        let b1 = block_scoped v ns (length ns) vars n b h scope e i.0 i.1 in
        subst (StmtDone v n ns (block_variables gang hs ns vars b)) (sym i.2) (b1.0, b1.1, scope)
    stmt_scoped v ns start vars n (empty s) h scope e t i = subst (StmtDone v n ns vars) (sym i) (tt, e, scope)
    stmt_scoped v ns start vars n (declare d s) h scope e t i =
        subst (StmtDone v n (names_after gang ns vars (declare d s)) (variables_after gang hs ns vars (declare d s))) (sym i.2) (declaration_at gang hs start v ns vars n d scope e i.0 i.1)
    stmt_scoped v ns start vars n (simple p s) h scope e t i = subst (StmtDone v n ns vars) (sym i.2) (simple_in gang hs v ns scope p i.0 i.1, e, scope)
    stmt_scoped v ns start vars n (if_then f x a s) h scope e t i =
        let a1 = stmt_scoped v ns (length ns) vars n a h.1 scope e i.0.1 i.1.1 in
        subst (StmtDone v n ns (variables_after gang hs ns vars a)) (sym i.2) ((sym e, test_in v ns scope x i.0.0 i.1.0, a1.0), a1.1, scope)
    stmt_scoped v ns start vars n (if_else f x a b s) h scope e t i =
        let a1 = stmt_scoped v ns (length ns) vars n a h.1 scope e i.0.1.0 i.1.1.0 in
        let b1 = stmt_scoped v ns (length ns) (variables_after gang hs ns vars a) (number_after_stmt n i.0.1.0) b h.2 scope a1.1 i.0.1.1 i.1.1.1 in
        subst (StmtDone v n ns (variables_after gang hs ns (variables_after gang hs ns vars a) b)) (sym i.2) ((sym e, test_in v ns scope x i.0.0 i.1.0, a1.0, b1.0), b1.1, scope)
    stmt_scoped v ns start vars n (loop_while f x a s) h scope e t i =
        let a1 = stmt_scoped v ns (length ns) vars n a h.1 scope e i.0.1 i.1.1 in
        subst (StmtDone v n ns (variables_after gang hs ns vars a)) (sym i.2) ((sym e, test_in v ns scope x i.0.0 i.1.0, a1.0), a1.1, scope)
    stmt_scoped v ns start vars n (loop_do f a x s) h scope e t i =
        let a1 = stmt_scoped v ns (length ns) vars n a h.0 scope e i.0.0 i.1.0 in
        subst (StmtDone v n ns (variables_after gang hs ns vars a)) (sym i.2) ((sym e, a1.0, test_in v ns scope x i.0.1 i.1.1), a1.1, scope)
    stmt_scoped v ns start vars n (loop_for f j x p a s) h scope e t i =
        let inner = first_names gang ns vars j in
        let first = maybe_first (length ns) v ns vars n scope e j i.0.0 i.1.0 in
        let w = scope_after_first v n i.0.0 in
        let a1 = stmt_scoped w inner (length inner) (first_variables gang vars j) (number_after_first n i.0.0) a h.3 first.2 first.1 i.0.1.1.1 i.1.1.1.1 in
        subst (StmtDone v n ns (variables_after gang hs inner (first_variables gang vars j) a)) (sym i.2)
        ((sym e, first.0, sym first.1, maybe_test w inner first.2 x i.0.1.0 i.1.1.0, maybe_simple w inner first.2 p i.0.1.1.0 i.1.1.1.0, subst (λ m. StmtAt w m i.0.1.1.1) first.1 a1.0), a1.1, scope)
    stmt_scoped v ns start vars n (foreach k w rs a s) h scope e t i =
        let inner = range_names ns vars rs in
        let ranges = ranges_at gang hs (length ns) v v ns ns vars n rs scope scope e i.0.0 i.1.0 in
        let a1 = stmt_scoped (scope_after v n i.0.0) inner (length inner) (range_variables vars rs) (number_after n i.0.0) a h.2 ranges.2 ranges.1 i.0.1 i.1.1 in
        subst (StmtDone v n ns (variables_after gang hs inner (range_variables vars rs) a)) (sym i.2)
        ((sym e, subst (λ l. 1 ≤ l) ranges.3 h.1.some, subst (λ l. l ≤ 3) ranges.3 h.1.few, ranges.0, a1.0), a1.1, scope)
    stmt_scoped v ns start vars n (foreach_active k w a s) h scope e t i =
        let inner = with_name ns vars w.name (Ok active_index) in
        let a1 = stmt_scoped (declared n v) inner (length inner) (vars ++ active_index ∷ []) (suc n) a h.2 (scope_added v ns vars n w.name active_index scope e) (one_longer vars active_index n e) i.0 i.1 in
        subst (StmtDone v n ns (variables_after gang hs inner (vars ++ active_index ∷ []) a)) (sym i.2) ((sym e, sym e, a1.0), a1.1, scope)
    stmt_scoped v ns start vars n (foreach_unique k w x a s) h scope e t i =
        let y = i.0.0 in
        let inner = unique_names gang hs ns vars w x in
        let more = unique_variables gang hs ns vars x in
        let scope1 = subst (AllIn (declared n v)) (sym (unique_named gang hs ns vars w x y i.1.0)) (scope_added v ns vars n w.name (unique_index (elem_of y)) scope e) in
        let a1 = stmt_scoped (declared n v) inner (length inner) more (suc n) a h.3 scope1 (one_longer vars _ n e) i.0.1 i.1.1 in
        subst (StmtDone v n ns (variables_after gang hs inner more a)) (sym i.2)
        ((sym e, sym e, converted_in v (operand (elem_of y)) y (expr_in gang hs v ns scope x y i.1.0), a1.0), a1.1, scope)
    stmt_scoped v ns start vars n (unmasked k b s) h scope e t i =
        let b1 = block_scoped v ns (length ns) vars n b h.1 scope e i.0 i.1 in
        subst (StmtDone v n ns (block_variables gang hs ns vars b)) (sym i.2) (b1.0, b1.1, scope)
    stmt_scoped v ns start vars n (jump j k s) h scope e t i = subst (StmtDone v n ns vars) (sym i) (tt, e, scope)
    stmt_scoped v ns start vars n (returning k x s) h scope e t i = subst (StmtDone v n ns vars) (sym i.2) (returned_in v ns scope k x i.0 i.1, e, scope)
    stmt_scoped v ns start vars n (print k w p xs s) h scope e t i = subst (StmtDone v n ns vars) (sym i.2) (values_in gang hs v ns scope xs i.0 i.1.1, e, scope)
    stmt_scoped v ns start vars n (assert x c s) h scope e t i = subst (StmtDone v n ns vars) (sym i.2) (test_in v ns scope x i.0 i.1, e, scope)

    pub block_scoped : (v : Scope) (ns : List Binding) (start : ℕ) (vars : List Variable) (n : ℕ) (b : Block) → IsSoundBlock b → AllIn v ns → n ≡ length vars → (t : TBlock) → (block_typing gang hs answer ns start vars b).is t
        → BlockDone v n (block_variables gang hs ns vars b) t
    block_scoped v ns start vars n (braces ss s) h scope e t i =
        subst (BlockDone v n (stmts_variables gang hs ns vars ss)) (sym i.2) (stmts_scoped v ns start vars n ss h.0 scope e i.0 i.1)

    stmts_scoped : (v : Scope) (ns : List Binding) (start : ℕ) (vars : List Variable) (n : ℕ) (ss : Stmts) → AreSoundStmts ss → AllIn v ns → n ≡ length vars → (t : TStmts) → (stmts_typing gang hs answer ns start vars ss).is t
        → StmtsDone v n (stmts_variables gang hs ns vars ss) t
    stmts_scoped v ns start vars n no_stmts h scope e t i = subst (StmtsDone v n vars) (sym i) (tt, e)
    stmts_scoped v ns start vars n (stmt_then s ss) h scope e t i =
        let s1 = stmt_scoped v ns start vars n s h.0 scope e i.0.0 i.1.0 in
        let more = stmts_scoped (scope_after_stmt v n i.0.0) (names_after gang ns vars s) start (variables_after gang hs ns vars s) (number_after_stmt n i.0.0) ss h.1 s1.2 s1.1 i.0.1 i.1.1 in
        subst (StmtsDone v n (stmts_variables gang hs (names_after gang ns vars s) (variables_after gang hs ns vars s) ss)) (sym i.2) ((s1.0, more.0), more.1)
