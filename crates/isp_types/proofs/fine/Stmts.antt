-- Every statement that names and types accept is fine.
use Rattle.std.proofs.Common.{◌≡◌, ℕ, suc, ◌++◌, ◌≤◌, sym, ap, subst, ◌∙◌}
use Rattle.std.specs.Prelude.{Option, Some, None, List, [], ◌∷◌, length, Ok}
use Rattle.std.proofs.lemmas.Bool.{eqb-true}
use Rattle.isp_base.specs.declared.types.Elem.TheVariants.{Bool as Truth}
use Rattle.isp_base.specs.declared.types.Gang.{Gang}
use Rattle.isp_base.specs.declared.types.Span.{Span}
use Rattle.isp_base.specs.declared.types.Ty.{Ty}
use Rattle.isp_base.specs.Ranks.{operand}
use Rattle.isp_tree.specs.Sound.{IfAny, IsSoundExpr, IsSoundFirst, IsSoundSimple, IsSoundStmt, IsSoundBlock, AreSoundStmts}
use Rattle.isp_tree.specs.Tree.{Expr, First, Simple, Stmt, block, empty, declare, simple, if_then, if_else, loop_while, loop_do, loop_for, foreach, foreach_active}
use Rattle.isp_tree.specs.Tree.{foreach_unique, unmasked, jump, returning, print, assert, Block, braces, Stmts, no_stmts, stmt_then}
use Rattle.isp_typed.specs.declared.variable.Variable.{Variable}
use Rattle.isp_typed.specs.Typed.{TExpr, TFirst, TSimple, TStmt, TBlock, TStmts, TFunction, elem_of}
use Rattle.isp_typed.specs.Fine.{FineValue, FineFirst, FineSimple, FineReturned, FineStmt, FineBlock, FineStmts}
use Rattle.isp_typed.specs.Indices.{active_index, unique_index}
use Rattle.isp_exprs.specs.declared.scope.Binding.{Binding}
use Rattle.isp_exprs.specs.Scopes.{with_name}
use Rattle.isp_exprs.specs.Callees.{Heading}
use Rattle.isp_types.specs.Numbering.{first_names, first_variables, range_names, range_variables, unique_names, unique_variables, names_after, variables_after, block_variables, stmts_variables}
use Rattle.isp_types.specs.Simple.{simple_typing}
use Rattle.isp_types.specs.Statements.{places, test_typing, first_typing, values_typing, returned_typing, stmt_typing, block_typing, stmts_typing}
use Rattle.isp_exprs.specs.Words.{value_said}
use Rattle.isp_exprs.specs.Typing.{perhaps}
use Rattle.isp_types.proofs.NamesKept.{Grown, same, then as and_then, one_more}
use Rattle.isp_types.proofs.Unique.{unique_named, unique_declared}
use Rattle.isp_types.proofs.fine.Names.{InScope, name_added, get_next, grown_length}
use Rattle.isp_types.proofs.fine.Callees.{Headed}
use Rattle.isp_types.proofs.fine.Exprs.{expr_fine}
use Rattle.isp_types.proofs.fine.Simples.{items_grow_variables, ranges_grow_variables, first_grows_variables, value_is_fine, simple_fine, values_fine, declaration_fine, first_fine, ranges_fine}

-- ---- variables only grow

module _ (gang : Gang) (hs : List Heading) where
  mutual
    pub stmt_grows : (ns : List Binding) (vars : List Variable) (s : Stmt) → Grown vars (variables_after gang hs ns vars s)
    stmt_grows ns vars (block b) = block_grows ns vars b
    stmt_grows ns vars (empty s) = same vars
    stmt_grows ns vars (declare d s) = items_grow_variables gang (value_said d.ty) vars d.items
    stmt_grows ns vars (simple p s) = same vars
    stmt_grows ns vars (if_then f x a s) = stmt_grows ns vars a
    stmt_grows ns vars (if_else f x a b s) = and_then _ _ _ (stmt_grows ns vars a) (stmt_grows ns (variables_after gang hs ns vars a) b)
    stmt_grows ns vars (loop_while f x a s) = stmt_grows ns vars a
    stmt_grows ns vars (loop_do f a x s) = stmt_grows ns vars a
    stmt_grows ns vars (loop_for f i x p a s) = and_then _ _ _ (first_grows_variables gang vars i) (stmt_grows (first_names gang ns vars i) (first_variables gang vars i) a)
    stmt_grows ns vars (foreach t k rs a s) = and_then _ _ _ (ranges_grow_variables vars rs) (stmt_grows (range_names ns vars rs) (range_variables vars rs) a)
    stmt_grows ns vars (foreach_active k w a s) = and_then _ _ _ (one_more vars active_index) (stmt_grows (with_name ns vars w.name (Ok active_index)) (vars ++ active_index ∷ []) a)
    stmt_grows ns vars (foreach_unique k w x a s) = and_then _ _ _ (one_more vars _) (stmt_grows (unique_names gang hs ns vars w x) (unique_variables gang hs ns vars x) a)
    stmt_grows ns vars (unmasked k b s) = block_grows ns vars b
    stmt_grows ns vars (jump j k s) = same vars
    stmt_grows ns vars (returning k x s) = same vars
    stmt_grows ns vars (print k t p xs s) = same vars
    stmt_grows ns vars (assert x c s) = same vars

    pub block_grows : (ns : List Binding) (vars : List Variable) (b : Block) → Grown vars (block_variables gang hs ns vars b)
    block_grows ns vars (braces ss s) = stmts_grow ns vars ss

    pub stmts_grow : (ns : List Binding) (vars : List Variable) (ss : Stmts) → Grown vars (stmts_variables gang hs ns vars ss)
    stmts_grow ns vars no_stmts = same vars
    stmts_grow ns vars (stmt_then s ss) = and_then _ _ _ (stmt_grows ns vars s) (stmts_grow (names_after gang ns vars s) (variables_after gang hs ns vars s) ss)

module _ (gang : Gang) (hs : List Heading) (gs : List TFunction) (all : List Variable) (headed : Headed hs gs) (answer : Option Ty) where
  low : (vars after : List Variable) → Grown vars after → Grown after all → length vars ≤ length all
  low vars after g h = grown_length vars all (and_then _ _ _ g h)

  test_fine : (ns : List Binding) → InScope all ns → (x : Expr) → IsSoundExpr x → (t : TExpr) → (test_typing gang hs ns x).is t → FineValue gs all Truth t
  test_fine ns scope x h t i = subst (FineValue gs all Truth) (sym i.2) (value_is_fine gang hs gs all headed Truth i.0 (expr_fine gang hs gs all ns headed scope x h i.0 i.1))

  -- what may be left out
  maybe_test : (ns : List Binding) → InScope all ns → (x : Option Expr) → IfAny IsSoundExpr x → (t : Option TExpr) → (perhaps (test_typing gang hs ns) x).is t → IfAny (FineValue gs all Truth) t
  maybe_test ns scope None h t i = subst (IfAny (FineValue gs all Truth)) (sym i) tt
  maybe_test ns scope (Some x) h t i = subst (IfAny (FineValue gs all Truth)) (sym i.2) (test_fine ns scope x h i.0 i.1)

  maybe_simple : (ns : List Binding) → InScope all ns → (x : Option Simple) → IfAny IsSoundSimple x → (t : Option TSimple) → (perhaps (simple_typing gang hs ns) x).is t → IfAny (FineSimple gs all) t
  maybe_simple ns scope None h t i = subst (IfAny (FineSimple gs all)) (sym i) tt
  maybe_simple ns scope (Some x) h t i = subst (IfAny (FineSimple gs all)) (sym i.2) (simple_fine gang hs gs all headed ns scope x h i.0 i.1)

  maybe_first : (start : ℕ) (ns : List Binding) (vars : List Variable) → InScope all ns → (x : Option First) → IfAny IsSoundFirst x → Grown (first_variables gang vars x) all
      → (t : Option TFirst) → (perhaps (first_typing gang hs ns start vars) x).is t → IfAny (FineFirst gs all) t × InScope all (first_names gang ns vars x)
  maybe_first start ns vars scope None h g t i = (subst (IfAny (FineFirst gs all)) (sym i) tt, scope)
  maybe_first start ns vars scope (Some x) h g t i =
      let f = first_fine gang hs gs all headed start ns vars x h scope g i.0 i.1 in
      (subst (IfAny (FineFirst gs all)) (sym i.2) f.0, f.1)

  returned_fine : (ns : List Binding) → InScope all ns → (o : Option Ty) (k : Span) (x : Option Expr) → IfAny IsSoundExpr x → (t : Option TExpr) → (returned_typing gang hs (Ok o) ns k x).is t → FineReturned gs all o t
  returned_fine ns scope None k None h t i = subst (FineReturned gs all None) (sym i.1) tt
  returned_fine ns scope (Some a) k (Some x) h t i =
      let one = i.1 in
      subst (FineReturned gs all (Some a)) (sym (one.2 ∙ ap (λ z. Some z) one.1.2)) (value_is_fine gang hs gs all headed a.elem one.1.0 (expr_fine gang hs gs all ns headed scope x h one.1.0 one.1.1))
  returned_fine ns scope None k (Some x) h t i = absurd (let no : ⊥ = cc in no)
  returned_fine ns scope (Some a) k None h t i = absurd (let no : ⊥ = cc in no)

  values_length : (ns : List Binding) (xs : List Expr) (ts : List TExpr) → (values_typing gang hs ns xs).is ts → length xs ≡ length ts
  values_length ns [] ts i = ap length (sym i)
  values_length ns (x ∷ xs) ts i = ap suc (values_length ns xs i.0.1 i.1.1) ∙ ap length (sym i.2)

  -- the names after a statement are those of variables too
  names_scope : (ns : List Binding) (start : ℕ) (vars : List Variable) (s : Stmt) → IsSoundStmt s → InScope all ns → Grown (variables_after gang hs ns vars s) all → (t : TStmt) → (stmt_typing gang hs (Ok answer) ns start vars s).is t
      → InScope all (names_after gang ns vars s)
  names_scope ns start vars (declare d s) h scope g t i = (declaration_fine gang hs gs all headed start ns vars d h.0 scope g i.0 i.1).1
  names_scope ns start vars (block b) h scope g t i = scope
  names_scope ns start vars (empty s) h scope g t i = scope
  names_scope ns start vars (simple p s) h scope g t i = scope
  names_scope ns start vars (if_then f x a s) h scope g t i = scope
  names_scope ns start vars (if_else f x a b s) h scope g t i = scope
  names_scope ns start vars (loop_while f x a s) h scope g t i = scope
  names_scope ns start vars (loop_do f a x s) h scope g t i = scope
  names_scope ns start vars (loop_for f j x p a s) h scope g t i = scope
  names_scope ns start vars (foreach k w rs a s) h scope g t i = scope
  names_scope ns start vars (foreach_active k w a s) h scope g t i = scope
  names_scope ns start vars (foreach_unique k w x a s) h scope g t i = scope
  names_scope ns start vars (unmasked k b s) h scope g t i = scope
  names_scope ns start vars (jump j k s) h scope g t i = scope
  names_scope ns start vars (returning k x s) h scope g t i = scope
  names_scope ns start vars (print k w p xs s) h scope g t i = scope
  names_scope ns start vars (assert x c s) h scope g t i = scope

  mutual
    pub stmt_fine : (ns : List Binding) (start : ℕ) (vars : List Variable) (s : Stmt) → IsSoundStmt s → InScope all ns → Grown (variables_after gang hs ns vars s) all → (t : TStmt) → (stmt_typing gang hs (Ok answer) ns start vars s).is t
        → FineStmt gs all answer t
    stmt_fine ns start vars (block b) h scope g t i = subst (FineStmt gs all answer) (sym i.2) (block_fine ns (length ns) vars b h scope g i.0 i.1)
    stmt_fine ns start vars (empty s) h scope g t i = subst (FineStmt gs all answer) (sym i) tt
    stmt_fine ns start vars (declare d s) h scope g t i = subst (FineStmt gs all answer) (sym i.2) (declaration_fine gang hs gs all headed start ns vars d h.0 scope g i.0 i.1).0
    stmt_fine ns start vars (simple p s) h scope g t i = subst (FineStmt gs all answer) (sym i.2) (simple_fine gang hs gs all headed ns scope p h.0 i.0 i.1)
    stmt_fine ns start vars (if_then f x a s) h scope g t i = subst (FineStmt gs all answer) (sym i.2)
        (low vars _ (stmt_grows gang hs ns vars a) g, test_fine ns scope x h.0 i.0.0 i.1.0, stmt_fine ns (length ns) vars a h.1 scope g i.0.1 i.1.1)
    stmt_fine ns start vars (if_else f x a b s) h scope g t i = subst (FineStmt gs all answer) (sym i.2) (
      low vars _ (stmt_grows gang hs ns vars (if_else f x a b s)) g,
      test_fine ns scope x h.0 i.0.0 i.1.0,
      stmt_fine ns (length ns) vars a h.1 scope (and_then _ _ _ (stmt_grows gang hs ns (variables_after gang hs ns vars a) b) g) i.0.1.0 i.1.1.0,
      stmt_fine ns (length ns) (variables_after gang hs ns vars a) b h.2 scope g i.0.1.1 i.1.1.1,
    )
    stmt_fine ns start vars (loop_while f x a s) h scope g t i = subst (FineStmt gs all answer) (sym i.2)
        (low vars _ (stmt_grows gang hs ns vars a) g, test_fine ns scope x h.0 i.0.0 i.1.0, stmt_fine ns (length ns) vars a h.1 scope g i.0.1 i.1.1)
    stmt_fine ns start vars (loop_do f a x s) h scope g t i = subst (FineStmt gs all answer) (sym i.2)
        (low vars _ (stmt_grows gang hs ns vars a) g, stmt_fine ns (length ns) vars a h.0 scope g i.0.0 i.1.0, test_fine ns scope x h.1 i.0.1 i.1.1)
    stmt_fine ns start vars (loop_for f j x p a s) h scope g t i =
        let after = stmt_grows gang hs (first_names gang ns vars j) (first_variables gang vars j) a in
        let first = maybe_first (length ns) ns vars scope j h.0 (and_then _ _ _ after g) i.0.0 i.1.0 in
        subst (FineStmt gs all answer) (sym i.2) (
          grown_length vars _ (first_grows_variables gang vars j),
          low (first_variables gang vars j) _ after g,
          first.0,
          maybe_test (first_names gang ns vars j) first.1 x h.1 i.0.1.0 i.1.1.0,
          maybe_simple (first_names gang ns vars j) first.1 p h.2 i.0.1.1.0 i.1.1.1.0,
          stmt_fine (first_names gang ns vars j) (length (first_names gang ns vars j)) (first_variables gang vars j) a h.3 first.1 g i.0.1.1.1 i.1.1.1.1,
        )
    stmt_fine ns start vars (foreach k w rs a s) h scope g t i =
        let after = stmt_grows gang hs (range_names ns vars rs) (range_variables vars rs) a in
        let ranges = ranges_fine gang hs gs all headed (length ns) ns ns vars rs h.1.each scope scope (and_then _ _ _ after g) i.0.0 i.1.0 in
        subst (FineStmt gs all answer) (sym i.2) (
          low vars _ (stmt_grows gang hs ns vars (foreach k w rs a s)) g,
          ranges.0,
          stmt_fine (range_names ns vars rs) (length (range_names ns vars rs)) (range_variables vars rs) a h.2 ranges.1 g i.0.1 i.1.1,
        )
    stmt_fine ns start vars (foreach_active k w a s) h scope g t i =
        let g1 = and_then _ _ _ (stmt_grows gang hs (with_name ns vars w.name (Ok active_index)) (vars ++ active_index ∷ []) a) g in
        subst (FineStmt gs all answer) (sym i.2) (
          low vars _ (one_more vars active_index) g1,
          get_next vars active_index all g1,
          stmt_fine (with_name ns vars w.name (Ok active_index)) (length (with_name ns vars w.name (Ok active_index))) (vars ++ active_index ∷ []) a h.2 (name_added all ns vars w.name active_index scope g1) g i.0 i.1,
        )
    stmt_fine ns start vars (foreach_unique k w x a s) h scope g t i =
        let y = i.0.0 in
        let inner = unique_names gang hs ns vars w x in
        let more = unique_variables gang hs ns vars x in
        let g1 = and_then _ _ _ (stmt_grows gang hs inner more a) g in
        let g2 = subst (λ (l : List Variable). Grown l all) (unique_declared gang hs ns vars x y i.1.0) g1 in
        let scope1 = subst (InScope all) (sym (unique_named gang hs ns vars w x y i.1.0)) (name_added all ns vars w.name (unique_index (elem_of y)) scope g2) in
        subst (FineStmt gs all answer) (sym i.2) (
          low vars _ (one_more vars _) g1,
          get_next vars (unique_index (elem_of y)) all g2,
          value_is_fine gang hs gs all headed (operand (elem_of y)) y (expr_fine gang hs gs all ns headed scope x h.2 y i.1.0),
          stmt_fine inner (length inner) more a h.3 scope1 g i.0.1 i.1.1,
        )
    stmt_fine ns start vars (unmasked k b s) h scope g t i = subst (FineStmt gs all answer) (sym i.2) (block_fine ns (length ns) vars b h.1 scope g i.0 i.1)
    stmt_fine ns start vars (jump j k s) h scope g t i = subst (FineStmt gs all answer) (sym i) tt
    stmt_fine ns start vars (returning k x s) h scope g t i = subst (FineStmt gs all answer) (sym i.2) (returned_fine ns scope answer k x h.1 i.0 i.1)
    stmt_fine ns start vars (print k w p xs s) h scope g t i = subst (FineStmt gs all answer) (sym i.2)
        (eqb-true (places w) (length xs) i.1.0 ∙ values_length ns xs i.0 i.1.1, values_fine gang hs gs all headed ns scope xs h.2 i.0 i.1.1)
    stmt_fine ns start vars (assert x c s) h scope g t i = subst (FineStmt gs all answer) (sym i.2) (test_fine ns scope x h.0 i.0 i.1, h.1)

    pub block_fine : (ns : List Binding) (start : ℕ) (vars : List Variable) (b : Block) → IsSoundBlock b → InScope all ns → Grown (block_variables gang hs ns vars b) all → (t : TBlock) → (block_typing gang hs (Ok answer) ns start vars b).is t
        → FineBlock gs all answer t
    block_fine ns start vars (braces ss s) h scope g t i = subst (FineBlock gs all answer) (sym i.2) (stmts_fine ns start vars ss h.0 scope g i.0 i.1)

    stmts_fine : (ns : List Binding) (start : ℕ) (vars : List Variable) (ss : Stmts) → AreSoundStmts ss → InScope all ns → Grown (stmts_variables gang hs ns vars ss) all → (t : TStmts) → (stmts_typing gang hs (Ok answer) ns start vars ss).is t
        → FineStmts gs all answer t
    stmts_fine ns start vars no_stmts h scope g t i = subst (FineStmts gs all answer) (sym i) tt
    stmts_fine ns start vars (stmt_then s ss) h scope g t i =
        let g1 = and_then _ _ _ (stmts_grow gang hs (names_after gang ns vars s) (variables_after gang hs ns vars s) ss) g in
        subst (FineStmts gs all answer) (sym i.2) (
          stmt_fine ns start vars s h.0 scope g1 i.0.0 i.1.0,
          stmts_fine (names_after gang ns vars s) start (variables_after gang hs ns vars s) ss h.1 (names_scope ns start vars s h.0 scope g1 i.0.0 i.1.0) g i.0.1 i.1.1,
        )
