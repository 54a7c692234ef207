-- The verdict of each rule of statements is right.
use Rattle.std.specs.Prelude.{ℕ, List, [], ◌∷◌, ◌++◌, length, ◌==◌, Option, Result, Ok}
use Rattle.isp_base.specs.declared.types.Gang.{Gang}
use Rattle.isp_base.specs.declared.types.Span.{Span}
use Rattle.isp_base.specs.declared.types.Ty.{Ty}
use Rattle.isp_lex.specs.declared.fault.Fault.{Fault}
use Rattle.isp_lex.specs.declared.fault.Rule.TheVariants.{NameTwice, Mismatch, BadPrint}
use Rattle.isp_lex.specs.Faults.{fault}
use Rattle.isp_tree.specs.Tree.{Expr, number, truth, program_index, program_count, place, call, brackets, cast, prefix, binary, choose, variable, element, Item, plain}
use Rattle.isp_tree.specs.Tree.{with_value, with_size, Declaration, Simple, value, assign, change, First, first_declare, first_simple, Range}
use Rattle.isp_tree.specs.Tree.{Stmt, block, empty, declare, simple, if_then, if_else, loop_while, loop_do, loop_for, foreach, foreach_active, foreach_unique, unmasked, jump, returning, print, assert, Block, braces, Stmts, no_stmts, stmt_then}
use Rattle.isp_typed.specs.declared.variable.Variable.{Variable}
use Rattle.isp_typed.proofs.Right.{just_right, given_right, made_right, found_right, both_right, beside_right, perhaps_right}
use Rattle.isp_typed.specs.Typed.{t_value, t_first_simple}
use Rattle.isp_typed.specs.Typed.{t_block, t_no_stmts}
use Rattle.isp_exprs.specs.declared.scope.Binding.{Binding}
use Rattle.isp_exprs.specs.declared.words.ValueWords.{ValueWords}
use Rattle.isp_exprs.specs.Words.{value_said, type_declared}
use Rattle.isp_exprs.specs.Scopes.{named, is_new, with_name}
use Rattle.isp_exprs.specs.Places.{variable_target, element_target}
use Rattle.isp_exprs.specs.Callees.{Heading}
use Rattle.isp_exprs.specs.Rules.{second, pair_then}
use Rattle.isp_types.specs.Numbering.{or_nothing, item_names, item_variables, first_names, first_variables, range_names, range_variables, unique_names, unique_variables, names_after, variables_after}
use Rattle.isp_types.specs.Declarations.{array_sized, with_initial, sized_item, item_typing, items_typing, declaration_typing}
use Rattle.isp_types.specs.Simple.{no_place, stated, assigned, stepped, target_typing, simple_typing}
use Rattle.isp_types.specs.Statements.{as_test, range_made, places, agrees, as_answer, first_typing, test_typing, ranges_typing, values_typing, returned_typing, stmt_typing, block_typing, stmts_typing}
use Rattle.isp_typed.specs.Indices.{foreach_index as index, active_index}
use Rattle.isp_types.specs.Nodes.{declared_first, declared_stmt, simple_stmt, if_stmt, if_else_stmt, while_stmt, do_stmt, for_stmt, foreach_stmt, active_stmt, unique_stmt, unmasked_stmt, return_stmt, print_stmt, assert_stmt, braces_made, stmts_made}
use Rattle.isp_exprs.proofs.Exprs.{RightTyping, call_of_right, expr_right}

module _ (gang : Gang) (hs : List Heading) where
  module _ (r : Result ValueWords Fault) (start : ℕ) where
    item_right : (ns : List Binding) (vars : List Variable) (i : Item)
        → RightTyping (item_typing gang hs r start ns vars i)
    item_right ns vars (plain w) = beside_right (is_new w.name start ns) (fault NameTwice w.span) _ _ _ (just_right _)
    item_right ns vars (with_value w x s) = made_right (with_initial (length vars) (type_declared (or_nothing r)) s) _ _ _
        (beside_right (is_new w.name start ns) (fault NameTwice w.span) _ _ _ (expr_right gang hs ns x))
    item_right ns vars (with_size w n s) = made_right (sized_item s) _ _ _
        (beside_right (is_new w.name start ns) (fault NameTwice w.span) _ _ _ (given_right (array_sized gang (length vars) (or_nothing r) n)))

    items_right : (ns : List Binding) (vars : List Variable) (is : List Item)
        → RightTyping (items_typing gang hs r start ns vars is)
    items_right ns vars [] = just_right []
    items_right ns vars (i ∷ is) = made_right pair_then _ _ _
        (both_right _ _ _ _ _ _ (item_right ns vars i) (items_right (item_names gang r ns vars i) (item_variables gang r vars i) is))

  declaration_right : (ns : List Binding) (start : ℕ) (vars : List Variable) (d : Declaration)
      → RightTyping (declaration_typing gang hs ns start vars d)
  declaration_right ns start vars d = made_right second _ _ _ (both_right _ _ _ _ _ _ (given_right (value_said d.ty)) (items_right (value_said d.ty) start ns vars d.items))

  target_right : (ns : List Binding) (x : Expr) → RightTyping (target_typing gang hs ns x)
  target_right ns (place (variable w)) = found_right (variable_target w.span) _ _ _ (given_right (named ns w))
  target_right ns (place (element w x s)) = found_right (element_target s) _ _ _ (both_right _ _ _ _ _ _ (given_right (named ns w)) (expr_right gang hs ns x))
  target_right ns (number v s) = found_right (no_place s) _ _ _ (expr_right gang hs ns (number v s))
  target_right ns (truth b s) = found_right (no_place s) _ _ _ (expr_right gang hs ns (truth b s))
  target_right ns (program_index s) = found_right (no_place s) _ _ _ (expr_right gang hs ns (program_index s))
  target_right ns (program_count s) = found_right (no_place s) _ _ _ (expr_right gang hs ns (program_count s))
  target_right ns (brackets x s) = found_right (no_place s) _ _ _ (expr_right gang hs ns (brackets x s))
  target_right ns (cast t x s) = found_right (no_place s) _ _ _ (expr_right gang hs ns (cast t x s))
  target_right ns (prefix op x s) = found_right (no_place s) _ _ _ (expr_right gang hs ns (prefix op x s))
  target_right ns (binary op x y s) = found_right (no_place s) _ _ _ (expr_right gang hs ns (binary op x y s))
  target_right ns (choose c x y s) = found_right (no_place s) _ _ _ (expr_right gang hs ns (choose c x y s))
  target_right ns (call w xs s) = found_right (no_place s) _ _ _ (expr_right gang hs ns (call w xs s))

  simple_right : (ns : List Binding) (p : Simple) → RightTyping (simple_typing gang hs ns p)
  simple_right ns (value (call w xs s)) = made_right stated _ _ _ (call_of_right gang hs ns w xs s)
  simple_right ns (value (number v s)) = made_right t_value _ _ _ (expr_right gang hs ns (number v s))
  simple_right ns (value (truth b s)) = made_right t_value _ _ _ (expr_right gang hs ns (truth b s))
  simple_right ns (value (program_index s)) = made_right t_value _ _ _ (expr_right gang hs ns (program_index s))
  simple_right ns (value (program_count s)) = made_right t_value _ _ _ (expr_right gang hs ns (program_count s))
  simple_right ns (value (brackets x s)) = made_right t_value _ _ _ (expr_right gang hs ns (brackets x s))
  simple_right ns (value (cast t x s)) = made_right t_value _ _ _ (expr_right gang hs ns (cast t x s))
  simple_right ns (value (prefix op x s)) = made_right t_value _ _ _ (expr_right gang hs ns (prefix op x s))
  simple_right ns (value (binary op x y s)) = made_right t_value _ _ _ (expr_right gang hs ns (binary op x y s))
  simple_right ns (value (choose c x y s)) = made_right t_value _ _ _ (expr_right gang hs ns (choose c x y s))
  simple_right ns (value (place p)) = made_right t_value _ _ _ (expr_right gang hs ns (place p))
  simple_right ns (assign a t x s) = made_right (assigned a s) _ _ _ (both_right _ _ _ _ _ _ (target_right ns t) (expr_right gang hs ns x))
  simple_right ns (change c t s) = made_right (stepped c s) _ _ _ (target_right ns t)

  first_right : (ns : List Binding) (start : ℕ) (vars : List Variable) (i : First)
      → RightTyping (first_typing gang hs ns start vars i)
  first_right ns start vars (first_declare d) = made_right (declared_first d.span) _ _ _ (declaration_right ns start vars d)
  first_right ns start vars (first_simple s) = made_right t_first_simple _ _ _ (simple_right ns s)

  test_right : (ns : List Binding) (x : Expr) → RightTyping (test_typing gang hs ns x)
  test_right ns x = made_right as_test _ _ _ (expr_right gang hs ns x)

  ranges_right : (ns : List Binding) (start : ℕ) (is : List Binding) (vars : List Variable) (rs : List Range)
      → RightTyping (ranges_typing gang hs ns start is vars rs)
  ranges_right ns start is vars [] = just_right []
  ranges_right ns start is vars (r ∷ rs) = made_right pair_then _ _ _ (both_right _ _ _ _ _ _
      (made_right (range_made (length vars) r.span) _ _ _ (beside_right (is_new r.word.name start is) (fault NameTwice r.word.span) _ _ _
      (both_right _ _ _ _ _ _ (expr_right gang hs ns r.start) (expr_right gang hs ns r.end))))
      (ranges_right ns start (with_name is vars r.word.name (Ok index)) (vars ++ index ∷ []) rs))

  values_right : (ns : List Binding) (xs : List Expr) → RightTyping (values_typing gang hs ns xs)
  values_right ns [] = just_right []
  values_right ns (x ∷ xs) = made_right pair_then _ _ _ (both_right _ _ _ _ _ _ (expr_right gang hs ns x) (values_right ns xs))

  module _ (answer : Result (Option Ty) Fault) where
    returned_right : (ns : List Binding) (k : Span) (x : Option Expr)
        → RightTyping (returned_typing gang hs answer ns k x)
    returned_right ns k x = beside_right (agrees answer x) (fault Mismatch k) _ _ _
        (perhaps_right _ _ _ (λ y. made_right (as_answer answer) _ _ _ (expr_right gang hs ns y)) x)

    mutual
      pub stmt_right : (ns : List Binding) (start : ℕ) (vars : List Variable) (x : Stmt)
          → RightTyping (stmt_typing gang hs answer ns start vars x)
      stmt_right ns start vars (block b) = made_right t_block _ _ _ (block_right ns (length ns) vars b)
      stmt_right ns start vars (empty s) = just_right _
      stmt_right ns start vars (declare d s) = made_right (declared_stmt s) _ _ _ (declaration_right ns start vars d)
      stmt_right ns start vars (simple p s) = made_right (simple_stmt s) _ _ _ (simple_right ns p)
      stmt_right ns start vars (if_then f x a s) = made_right (if_stmt f (length vars) s) _ _ _
          (both_right _ _ _ _ _ _ (test_right ns x) (stmt_right ns (length ns) vars a))
      stmt_right ns start vars (if_else f x a b s) = made_right (if_else_stmt f (length vars) s) _ _ _
          (both_right _ _ _ _ _ _ (test_right ns x) (both_right _ _ _ _ _ _ (stmt_right ns (length ns) vars a) (stmt_right ns (length ns) (variables_after gang hs ns vars a) b)))
      stmt_right ns start vars (loop_while f x a s) = made_right (while_stmt f (length vars) s) _ _ _
          (both_right _ _ _ _ _ _ (test_right ns x) (stmt_right ns (length ns) vars a))
      stmt_right ns start vars (loop_do f a x s) = made_right (do_stmt f (length vars) s) _ _ _
          (both_right _ _ _ _ _ _ (stmt_right ns (length ns) vars a) (test_right ns x))
      stmt_right ns start vars (loop_for f i x p a s) = made_right (for_stmt f (length vars) (length (first_variables gang vars i)) s) _ _ _
          (both_right _ _ _ _ _ _ (perhaps_right _ _ _ (first_right ns (length ns) vars) i)
          (both_right _ _ _ _ _ _ (perhaps_right _ _ _ (test_right (first_names gang ns vars i)) x)
          (both_right _ _ _ _ _ _ (perhaps_right _ _ _ (simple_right (first_names gang ns vars i)) p)
          (stmt_right (first_names gang ns vars i) (length (first_names gang ns vars i)) (first_variables gang vars i) a))))
      stmt_right ns start vars (foreach t k rs a s) = made_right (foreach_stmt k (length vars) s) _ _ _
          (both_right _ _ _ _ _ _ (ranges_right ns (length ns) ns vars rs)
          (stmt_right (range_names ns vars rs) (length (range_names ns vars rs)) (range_variables vars rs) a))
      stmt_right ns start vars (foreach_active k w a s) = made_right (active_stmt k (length vars) s) _ _ _
          (stmt_right (with_name ns vars w.name (Ok active_index)) (length (with_name ns vars w.name (Ok active_index))) (vars ++ active_index ∷ []) a)
      stmt_right ns start vars (foreach_unique k w x a s) = made_right (unique_stmt k (length vars) s) _ _ _
          (both_right _ _ _ _ _ _ (expr_right gang hs ns x)
          (stmt_right (unique_names gang hs ns vars w x) (length (unique_names gang hs ns vars w x)) (unique_variables gang hs ns vars x) a))
      stmt_right ns start vars (unmasked k b s) = made_right (unmasked_stmt k s) _ _ _ (block_right ns (length ns) vars b)
      stmt_right ns start vars (jump j k s) = just_right _
      stmt_right ns start vars (returning k x s) = made_right (return_stmt k s) _ _ _ (returned_right ns k x)
      stmt_right ns start vars (print k t p xs s) = made_right (print_stmt k t s) _ _ _
          (beside_right (places t == length xs) (fault BadPrint p) _ _ _ (values_right ns xs))
      stmt_right ns start vars (assert x c s) = made_right (assert_stmt c s) _ _ _ (test_right ns x)

      pub block_right : (ns : List Binding) (start : ℕ) (vars : List Variable) (b : Block)
          → RightTyping (block_typing gang hs answer ns start vars b)
      block_right ns start vars (braces ss s) = made_right (braces_made s) _ _ _ (stmts_right ns start vars ss)

      pub stmts_right : (ns : List Binding) (start : ℕ) (vars : List Variable) (ss : Stmts)
          → RightTyping (stmts_typing gang hs answer ns start vars ss)
      stmts_right ns start vars no_stmts = just_right t_no_stmts
      stmts_right ns start vars (stmt_then s ss) = made_right stmts_made _ _ _
          (both_right _ _ _ _ _ _ (stmt_right ns start vars s) (stmts_right (names_after gang ns vars s) start (variables_after gang hs ns vars s) ss))
