-- A typed program has at most three times the nodes of its tree.
use Rattle.std.proofs.Common.{◌≡◌, ℕ, suc, ◌+◌, ◌*◌, ◌++◌, ◌≤◌, refl, arith}
use Rattle.std.specs.Prelude.{Option, Some, None, List, [], ◌∷◌, length, Result, Ok, Err}
use Rattle.std.proofs.lemmas.List.{length-map}
use Rattle.isp_base.specs.declared.types.Elem.TheVariants.{Bool as Truth, I32}
use Rattle.isp_base.specs.declared.types.Gang.{Gang}
use Rattle.isp_base.specs.declared.types.Span.{Span}
use Rattle.isp_base.specs.declared.types.Ty.{Ty}
use Rattle.isp_base.specs.declared.operators.BinOp.{BinOp}
use Rattle.isp_base.specs.Ranks.{common, operand}
use Rattle.isp_lex.specs.declared.fault.Fault.{Fault}
use Rattle.isp_tree.specs.Nodes.{nodes, nodes_of_option, nodes_of_all, nodes_of_item, nodes_of_declaration, nodes_of_simple, nodes_of_first, nodes_of_step}
use Rattle.isp_tree.specs.Nodes.{nodes_of_range, nodes_of_stmt, nodes_of_block, nodes_of_stmts, nodes_of_function, nodes_of_functions}
use Rattle.isp_tree.specs.Tree.{Expr, number, truth, program_index, program_count, place, call, brackets, cast, prefix, binary, choose, variable, element, Item, plain}
use Rattle.isp_tree.specs.Tree.{with_value, with_size, Declaration, Simple, value, assign, change, First, first_declare, first_simple, Range}
use Rattle.isp_tree.specs.Tree.{Stmt, block, empty, declare, simple, if_then, if_else, loop_while, loop_do, loop_for, foreach, foreach_active, foreach_unique}
use Rattle.isp_tree.specs.Tree.{unmasked, jump, returning, print, assert, Block, braces, Stmts, no_stmts, stmt_then, Param, Function}
use Rattle.isp_exprs.specs.Typing.{Typing, perhaps}
use Rattle.isp_typed.specs.Nodes.{typed_nodes, place_nodes, item_nodes, simple_nodes, first_nodes, step_nodes, range_nodes, stmt_nodes, block_nodes, stmts_nodes, function_nodes}
use Rattle.isp_typed.specs.Typed.{TExpr, TPlace, place_type, TItem, TSimple, TFirst, TRange, TStmt, TBlock, TStmts, TFunction, elem_of}
use Rattle.isp_typed.specs.declared.variable.Variable.{Variable}
use Rattle.isp_exprs.specs.declared.scope.Binding.{Binding}
use Rattle.isp_exprs.specs.declared.words.ValueWords.{ValueWords}
use Rattle.isp_exprs.specs.Words.{value_said, answer_said, type_declared}
use Rattle.isp_exprs.specs.Scopes.{with_name}
use Rattle.isp_exprs.specs.Places.{variable_at, element_at}
use Rattle.isp_exprs.specs.Passing.{Called, gives, runs}
use Rattle.isp_exprs.specs.Callees.{Heading}
use Rattle.isp_types.specs.Numbering.{or_nothing, item_names, item_variables, first_names, first_variables, range_names, range_variables, unique_names, unique_variables, names_after, variables_after}
use Rattle.isp_types.specs.Declarations.{item_typing, items_typing, declaration_typing}
use Rattle.isp_types.specs.Simple.{stated, assigned_by, assignment_operator, target_typing, simple_typing}
use Rattle.isp_types.specs.Statements.{as_answer, first_typing, test_typing, ranges_typing, values_typing, returned_typing, stmt_typing, block_typing, stmts_typing}
use Rattle.isp_typed.specs.Indices.{foreach_index as index, active_index}
use Rattle.isp_types.specs.Functions.{param_variable, param_names, param_span, body_typing, function_typing, functions_typing}
use Rattle.isp_types.proofs.fine.Simples.{open_is}
use Rattle.isp_types.proofs.fine.Passed.{no_ok}
use Rattle.isp_types.proofs.fine.FewExprs.{FewPlace, converted_few, place_few, element_few, called_nodes, call_of_few, expr_few}

assigned_few : (o : Option BinOp) (s : Span) (p : TPlace) (x : TExpr) → simple_nodes (assigned_by o s (p, x)) ≤ suc (place_nodes p + typed_nodes x)
assigned_few None s p x = omega (arith, converted_few (place_type p).elem x)
assigned_few (Some op) s p x = omega (arith, converted_few (common (place_type p).elem (elem_of x)) x)

answer_few : (r : Result (Option Ty) Fault) (x : TExpr) → typed_nodes (as_answer r x) ≤ suc (typed_nodes x)
answer_few (Err f) x = omega arith
answer_few (Ok None) x = omega arith
answer_few (Ok (Some t)) x = converted_few t.elem x

stated_is : (c : Called) → simple_nodes (stated c) ≡ called_nodes c
stated_is (gives x) = refl
stated_is (runs c) = refl

module _ (gang : Gang) (hs : List Heading) where
  target_few : (ns : List Binding) (x : Expr) (p : TPlace) → (target_typing gang hs ns x).is p → FewPlace p (nodes x)
  target_few ns (place (variable w)) p i = place_few w.span i.0 p (open_is i.0.variable.constant w.span (variable_at w.span i.0) p i.2).1
  target_few ns (place (element w x s)) p i =
      element_few s i.0.0 i.0.1 (nodes x) (expr_few gang hs ns x i.0.1 i.1.1) p (open_is i.0.0.variable.constant s (element_at s i.0) p i.2).1
  target_few ns (number v s) p i = absurd (no_ok i.2)
  target_few ns (truth b s) p i = absurd (no_ok i.2)
  target_few ns (program_index s) p i = absurd (no_ok i.2)
  target_few ns (program_count s) p i = absurd (no_ok i.2)
  target_few ns (call w xs s) p i = absurd (no_ok i.2)
  target_few ns (brackets x s) p i = absurd (no_ok i.2)
  target_few ns (cast t x s) p i = absurd (no_ok i.2)
  target_few ns (prefix op x s) p i = absurd (no_ok i.2)
  target_few ns (binary op x y s) p i = absurd (no_ok i.2)
  target_few ns (choose c x y s) p i = absurd (no_ok i.2)

  simple_few : (ns : List Binding) (p : Simple) (t : TSimple) → (simple_typing gang hs ns p).is t → simple_nodes t ≤ 3 * nodes_of_simple p
  simple_few ns (value (call w xs s)) t i =
      rw i.2 (omega (arith, stated_is i.0, call_of_few gang hs ns w xs s i.0 i.1))
  simple_few ns (value x) t i = rw i.2 (omega (arith, expr_few gang hs ns x i.0 i.1))
  simple_few ns (assign a x y s) t i =
      rw i.2 (omega (arith, assigned_few (assignment_operator a) s i.0.0 i.0.1, target_few ns x i.0.0 i.1.0, expr_few gang hs ns y i.0.1 i.1.1))
  simple_few ns (change c x s) t i = rw i.2 (omega (arith, target_few ns x i.0 i.1))

  test_few : (ns : List Binding) (x : Expr) (t : TExpr) → (test_typing gang hs ns x).is t → typed_nodes t ≤ 3 * nodes x
  test_few ns x t i = rw i.2 (omega (arith, expr_few gang hs ns x i.0 i.1, converted_few Truth i.0))

  maybe_few : {A B : Type 0} (rule : A → Typing B) (n : A → ℕ) (m : B → ℕ) → ((a : A) (b : B) → (rule a).is b → m b ≤ 3 * n a) → (x : Option A) (y : Option B) → (perhaps rule x).is y → nodes_of_option m y ≤ 3 * nodes_of_option n x
  maybe_few rule n m f None y i = rw i (omega arith)
  maybe_few rule n m f (Some a) y i = rw i.2 (f a i.0 i.1)

  values_few : (ns : List Binding) (xs : List Expr) (ts : List TExpr) → (values_typing gang hs ns xs).is ts → nodes_of_all typed_nodes ts ≤ 3 * nodes_of_all nodes xs
  values_few ns [] ts i = rw i (omega arith)
  values_few ns (x ∷ xs) ts i = rw i.2 (omega (arith, expr_few gang hs ns x i.0.0 i.1.0, values_few ns xs i.0.1 i.1.1))

  ranges_few : (start : ℕ) (ns is : List Binding) (vars : List Variable) (rs : List Range) (ts : List TRange) → (ranges_typing gang hs ns start is vars rs).is ts → nodes_of_all range_nodes ts ≤ 3 * nodes_of_all nodes_of_range rs
  ranges_few start ns is vars [] ts i = rw i (omega arith)
  ranges_few start ns is vars (r ∷ rs) ts i =
      let one = i.1.0 in
      rw (i.2, one.2) (omega (
        arith,
        expr_few gang hs ns r.start one.0.0 one.1.1.0,
        expr_few gang hs ns r.end one.0.1 one.1.1.1,
        converted_few I32 one.0.0,
        converted_few I32 one.0.1,
        ranges_few start ns (with_name is vars r.word.name (Ok index)) (vars ++ index ∷ []) rs i.0.1 i.1.1,
      ))

  module _ (r : Result ValueWords Fault) (start : ℕ) where
    item_few : (ns : List Binding) (vars : List Variable) (x : Item) (t : TItem) → (item_typing gang hs r start ns vars x).is t → item_nodes t ≤ 3 * nodes_of_item x
    item_few ns vars (plain w) t i = rw i.1 (omega arith)
    item_few ns vars (with_value w x s) t i = rw i.2 (omega (arith, expr_few gang hs ns x i.0 i.1.1, converted_few (type_declared (or_nothing r)).elem i.0))
    item_few ns vars (with_size w n s) t i = rw i.2 (omega arith)

    items_few : (ns : List Binding) (vars : List Variable) (is : List Item) (ts : List TItem) → (items_typing gang hs r start ns vars is).is ts → nodes_of_all item_nodes ts ≤ 3 * nodes_of_all nodes_of_item is
    items_few ns vars [] ts i = rw i (omega arith)
    items_few ns vars (x ∷ xs) ts i = rw i.2 (omega (arith, item_few ns vars x i.0.0 i.1.0, items_few (item_names gang r ns vars x) (item_variables gang r vars x) xs i.0.1 i.1.1))

  declaration_few : (start : ℕ) (ns : List Binding) (vars : List Variable) (d : Declaration) (ts : List TItem) → (declaration_typing gang hs ns start vars d).is ts → nodes_of_all item_nodes ts ≤ 3 * nodes_of_declaration d
  declaration_few start ns vars d ts i = rw i.2 (items_few (value_said d.ty) start ns vars d.items i.0.1 i.1.1)

  first_few : (start : ℕ) (ns : List Binding) (vars : List Variable) (f : First) (t : TFirst) → (first_typing gang hs ns start vars f).is t → first_nodes t ≤ 3 * nodes_of_first f
  first_few start ns vars (first_declare d) t i = rw i.2 (omega (arith, declaration_few start ns vars d i.0 i.1))
  first_few start ns vars (first_simple p) t i = rw i.2 (omega (arith, simple_few ns p i.0 i.1))

  step_few : (ns : List Binding) (p : Simple) (t : TSimple) → (simple_typing gang hs ns p).is t → step_nodes t ≤ 3 * nodes_of_step p
  step_few ns p t i = omega (arith, simple_few ns p t i)

  module _ (answer : Result (Option Ty) Fault) where
    returned_few : (ns : List Binding) (k : Span) (x : Option Expr) (t : Option TExpr) → (returned_typing gang hs answer ns k x).is t → nodes_of_option typed_nodes t ≤ 3 * nodes_of_option nodes x
    returned_few ns k None t i = rw i.1 (omega arith)
    returned_few ns k (Some x) t i =
        let one = i.1 in
        rw (one.2, one.1.2) (omega (arith, answer_few answer one.1.0, expr_few gang hs ns x one.1.0 one.1.1))

    mutual
      stmt_few : (ns : List Binding) (start : ℕ) (vars : List Variable) (s : Stmt) (t : TStmt) → (stmt_typing gang hs answer ns start vars s).is t → stmt_nodes t ≤ 3 * nodes_of_stmt s
      stmt_few ns start vars (block b) t i = rw i.2 (block_few ns (length ns) vars b i.0 i.1)
      stmt_few ns start vars (empty s) t i = rw i (omega arith)
      stmt_few ns start vars (declare d s) t i = rw i.2 (omega (arith, declaration_few start ns vars d i.0 i.1))
      stmt_few ns start vars (simple p s) t i = rw i.2 (omega (arith, simple_few ns p i.0 i.1))
      stmt_few ns start vars (if_then f x a s) t i = rw i.2 (omega (arith, test_few ns x i.0.0 i.1.0, stmt_few ns (length ns) vars a i.0.1 i.1.1))
      stmt_few ns start vars (if_else f x a b s) t i =
          rw i.2 (omega (arith, test_few ns x i.0.0 i.1.0, stmt_few ns (length ns) vars a i.0.1.0 i.1.1.0, stmt_few ns (length ns) (variables_after gang hs ns vars a) b i.0.1.1 i.1.1.1))
      stmt_few ns start vars (loop_while f x a s) t i = rw i.2 (omega (arith, test_few ns x i.0.0 i.1.0, stmt_few ns (length ns) vars a i.0.1 i.1.1))
      stmt_few ns start vars (loop_do f a x s) t i = rw i.2 (omega (arith, test_few ns x i.0.1 i.1.1, stmt_few ns (length ns) vars a i.0.0 i.1.0))
      stmt_few ns start vars (loop_for f j x p a s) t i =
          let inner = first_names gang ns vars j in
          rw i.2 (omega (
            arith,
            maybe_few (first_typing gang hs ns (length ns) vars) nodes_of_first first_nodes (first_few (length ns) ns vars) j i.0.0 i.1.0,
            maybe_few (test_typing gang hs inner) nodes typed_nodes (test_few inner) x i.0.1.0 i.1.1.0,
            maybe_few (simple_typing gang hs inner) nodes_of_step step_nodes (step_few inner) p i.0.1.1.0 i.1.1.1.0,
            stmt_few inner (length inner) (first_variables gang vars j) a i.0.1.1.1 i.1.1.1.1,
          ))
      stmt_few ns start vars (foreach k w rs a s) t i =
          rw i.2 (omega (arith, ranges_few (length ns) ns ns vars rs i.0.0 i.1.0, stmt_few (range_names ns vars rs) (length (range_names ns vars rs)) (range_variables vars rs) a i.0.1 i.1.1))
      stmt_few ns start vars (foreach_active k w a s) t i =
          rw i.2 (omega (arith, stmt_few (with_name ns vars w.name (Ok active_index)) (length (with_name ns vars w.name (Ok active_index))) (vars ++ active_index ∷ []) a i.0 i.1))
      stmt_few ns start vars (foreach_unique k w x a s) t i =
          let inner = unique_names gang hs ns vars w x in
          rw i.2 (omega (
            arith,
            expr_few gang hs ns x i.0.0 i.1.0,
            converted_few (operand (elem_of i.0.0)) i.0.0,
            stmt_few inner (length inner) (unique_variables gang hs ns vars x) a i.0.1 i.1.1,
          ))
      stmt_few ns start vars (unmasked k b s) t i = rw i.2 (omega (arith, block_few ns (length ns) vars b i.0 i.1))
      stmt_few ns start vars (jump j k s) t i = rw i (omega arith)
      stmt_few ns start vars (returning k x s) t i = rw i.2 (omega (arith, returned_few ns k x i.0 i.1))
      stmt_few ns start vars (print k w p xs s) t i = rw i.2 (omega (arith, values_few ns xs i.0 i.1.1))
      stmt_few ns start vars (assert x c s) t i = rw i.2 (omega (arith, test_few ns x i.0 i.1))

      block_few : (ns : List Binding) (start : ℕ) (vars : List Variable) (b : Block) (t : TBlock) → (block_typing gang hs answer ns start vars b).is t → block_nodes t ≤ 3 * nodes_of_block b
      block_few ns start vars (braces ss s) t i = rw i.2 (omega (arith, stmts_few ns start vars ss i.0 i.1))

      stmts_few : (ns : List Binding) (start : ℕ) (vars : List Variable) (ss : Stmts) (t : TStmts) → (stmts_typing gang hs answer ns start vars ss).is t → stmts_nodes t ≤ 3 * nodes_of_stmts ss
      stmts_few ns start vars no_stmts t i = rw i (omega arith)
      stmts_few ns start vars (stmt_then s ss) t i =
          rw i.2 (omega (arith, stmt_few ns start vars s i.0.0 i.1.0, stmts_few (names_after gang ns vars s) start (variables_after gang hs ns vars s) ss i.0.1 i.1.1))

    body_few : (ns : List Binding) (vars : List Variable) (ps : List Param) (b : Block) (t : TBlock) → (body_typing gang hs answer ns vars ps b).is t → block_nodes t ≤ 3 * nodes_of_block b
    body_few ns vars [] b t i = block_few ns 0 vars b t i
    body_few ns vars (p ∷ ps) b t i =
        let q = i.1.1 in
        rw q.2 (body_few (param_names ns vars p) (vars ++ param_variable p ∷ []) ps b q.0.1 q.1.1)

  function_few : (earlier : List (List ℕ)) (f : Function) (g : TFunction) → (function_typing gang hs earlier f).is g → function_nodes g ≤ 3 * nodes_of_function f
  function_few earlier f g i = rw i.2 (omega (arith, length-map f.params param_span, body_few (answer_said f.answer) [] [] f.params f.body i.0.1 i.1.1.1))

  pub functions_few : (earlier : List (List ℕ)) (fs : List Function) (gs : List TFunction) → (functions_typing gang hs earlier fs).is gs → nodes_of_all function_nodes gs ≤ 3 * nodes_of_functions fs
  functions_few earlier [] gs i = rw i (omega arith)
  functions_few earlier (f ∷ fs) gs i = rw i.2 (omega (arith, function_few earlier f i.0.0 i.1.0, functions_few (earlier ++ f.word.name ∷ []) fs i.0.1 i.1.1))
