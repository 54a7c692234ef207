-- Statements: which typed tree each is, and beside it what its breaches are.
--     answer   what the function gives back       start   names from here on are the innermost scope's
--     vars     the variables that were declared so far
use Rattle.std.specs.Prelude.{ℕ, List, [], ◌∷◌, ◌++◌, length, count_by, Bool, true, false, ◌==◌, Option, Some, None, Result, Ok, Err}
use Rattle.isp_base.specs.declared.types.Elem.TheVariants.{Bool as Truth, I32}
use Rattle.isp_base.specs.declared.types.Gang.{Gang}
use Rattle.isp_base.specs.declared.types.Span.{Span}
use Rattle.isp_base.specs.declared.types.Ty.{Ty}
use Rattle.isp_lex.specs.declared.fault.Fault.{Fault}
use Rattle.isp_lex.specs.declared.fault.Rule.TheVariants.{NameTwice, Mismatch, BadPrint}
use Rattle.isp_lex.specs.Faults.{fault}
use Rattle.isp_tree.specs.Tree.{Expr, First, first_declare, first_simple, Range, Stmt, block, empty, declare, simple, if_then, if_else, loop_while, loop_do, loop_for, foreach}
use Rattle.isp_tree.specs.Tree.{foreach_active, foreach_unique, unmasked, jump, returning, print, assert, Block, braces, Stmts, no_stmts, stmt_then}
use Rattle.isp_typed.specs.declared.variable.Variable.{Variable}
use Rattle.isp_typed.specs.Indices.{foreach_index as index, active_index}
use Rattle.isp_typed.specs.Typed.{TExpr, TFirst, t_first_simple, TRange, TStmt, t_block, t_jump, TBlock, t_braces, TStmts, t_no_stmts}
use Rattle.isp_exprs.specs.declared.scope.Binding.{Binding}
use Rattle.isp_exprs.specs.Typing.{Typing, exactly, both, made, provided, perhaps}
use Rattle.isp_exprs.specs.Scopes.{is_new, with_name}
use Rattle.isp_exprs.specs.Values.{converted}
use Rattle.isp_exprs.specs.Callees.{Heading}
use Rattle.isp_exprs.specs.Rules.{expr_typing, pair_then}
use Rattle.isp_types.specs.Numbering.{first_names, first_variables, range_names, range_variables, unique_names, unique_variables, names_after, variables_after}
use Rattle.isp_types.specs.Declarations.{declaration_typing}
use Rattle.isp_types.specs.Simple.{simple_typing}
use Rattle.isp_types.specs.Nodes.{declared_first, declared_stmt, simple_stmt, if_stmt, if_else_stmt, while_stmt, do_stmt, for_stmt, foreach_stmt, active_stmt, unique_stmt, unmasked_stmt, return_stmt, print_stmt, assert_stmt, braces_made, stmts_made}

-- ---- parts

-- a value as one of bool, of int32
abbrev pub as_test : TExpr → TExpr
as_test = converted Truth

abbrev pub as_bound : TExpr → TExpr
as_bound = converted I32

abbrev pub range_made : ℕ → Span → TExpr × TExpr → TRange
range_made k s p = record { index = k; start = as_bound p.0; end = as_bound p.1; span = s }

-- how many places a text has for values: one for each `%`
abbrev pub places : List ℕ → ℕ
places text = count_by (λ c. c == 37) text

-- `return` has a value exactly where the function gives one back
abbrev pub agrees : {A : Type 0} → Result (Option Ty) Fault → Option A → Bool
agrees (Err f) x = true
agrees (Ok None) None = true
agrees (Ok None) (Some x) = false
agrees (Ok (Some t)) None = false
agrees (Ok (Some t)) (Some x) = true

abbrev pub as_answer : Result (Option Ty) Fault → TExpr → TExpr
as_answer (Err f) x = x
as_answer (Ok None) x = x
as_answer (Ok (Some t)) x = converted t.elem x

module _ (gang : Gang) (hs : List Heading) where
  abbrev pub first_typing : List Binding → ℕ → List Variable → First → Typing TFirst
  first_typing ns start vars (first_declare d) = made (declared_first d.span) (declaration_typing gang hs ns start vars d)
  first_typing ns start vars (first_simple s) = made t_first_simple (simple_typing gang hs ns s)

  -- ---- parts of statements

  abbrev pub test_typing : List Binding → Expr → Typing TExpr
  test_typing ns x = made as_test (expr_typing gang hs ns x)

  -- The bounds know the names outside alone; the indices are names of one scope, from `start` on: 21 at the later of two equal
  -- ones.
  abbrev pub ranges_typing : List Binding → ℕ → List Binding → List Variable → List Range → Typing (List TRange)
  ranges_typing ns start is vars [] = exactly []
  ranges_typing ns start is vars (r ∷ rs) = made pair_then (both
      (made (range_made (length vars) r.span) (provided (is_new r.word.name start is) (fault NameTwice r.word.span)
      (both (expr_typing gang hs ns r.start) (expr_typing gang hs ns r.end))))
      (ranges_typing ns start (with_name is vars r.word.name (Ok index)) (vars ++ index ∷ []) rs))

  -- values that are printed
  abbrev pub values_typing : List Binding → List Expr → Typing (List TExpr)
  values_typing ns [] = exactly []
  values_typing ns (x ∷ xs) = made pair_then (both (expr_typing gang hs ns x) (values_typing ns xs))

  -- ---- statements: each body is a scope of its own, and so is a whole `for`, and a `foreach` of any kind from its indices on

  module _ (answer : Result (Option Ty) Fault) where
    -- 22 at the word `return`
    abbrev pub returned_typing : List Binding → Span → Option Expr → Typing (Option TExpr)
    returned_typing ns k x = provided (agrees answer x) (fault Mismatch k) (perhaps (λ y. made (as_answer answer) (expr_typing gang hs ns y)) x)

    abbrev mutual
      pub stmt_typing : List Binding → ℕ → List Variable → Stmt → Typing TStmt
      stmt_typing ns start vars (block b) = made t_block (block_typing ns (length ns) vars b)
      stmt_typing ns start vars (empty s) = exactly (t_block (t_braces t_no_stmts s))
      stmt_typing ns start vars (declare d s) = made (declared_stmt s) (declaration_typing gang hs ns start vars d)
      stmt_typing ns start vars (simple p s) = made (simple_stmt s) (simple_typing gang hs ns p)
      stmt_typing ns start vars (if_then f x a s) = made (if_stmt f (length vars) s) (both (test_typing ns x) (stmt_typing ns (length ns) vars a))
      stmt_typing ns start vars (if_else f x a b s) = made (if_else_stmt f (length vars) s)
          (both (test_typing ns x) (both (stmt_typing ns (length ns) vars a) (stmt_typing ns (length ns) (variables_after gang hs ns vars a) b)))
      stmt_typing ns start vars (loop_while f x a s) = made (while_stmt f (length vars) s) (both (test_typing ns x) (stmt_typing ns (length ns) vars a))
      stmt_typing ns start vars (loop_do f a x s) = made (do_stmt f (length vars) s) (both (stmt_typing ns (length ns) vars a) (test_typing ns x))
      stmt_typing ns start vars (loop_for f i x p a s) = made (for_stmt f (length vars) (length (first_variables gang vars i)) s)
          (both (perhaps (first_typing ns (length ns) vars) i)
          (both (perhaps (test_typing (first_names gang ns vars i)) x)
          (both (perhaps (simple_typing gang hs (first_names gang ns vars i)) p)
          (stmt_typing (first_names gang ns vars i) (length (first_names gang ns vars i)) (first_variables gang vars i) a))))
      stmt_typing ns start vars (foreach t k rs a s) = made (foreach_stmt k (length vars) s)
          (both (ranges_typing ns (length ns) ns vars rs)
          (stmt_typing (range_names ns vars rs) (length (range_names ns vars rs)) (range_variables vars rs) a))
      stmt_typing ns start vars (foreach_active k w a s) = made (active_stmt k (length vars) s)
          (stmt_typing (with_name ns vars w.name (Ok active_index)) (length (with_name ns vars w.name (Ok active_index))) (vars ++ active_index ∷ []) a)
      -- The value does not know the index, which has its type.
      stmt_typing ns start vars (foreach_unique k w x a s) = made (unique_stmt k (length vars) s)
          (both (expr_typing gang hs ns x)
          (stmt_typing (unique_names gang hs ns vars w x) (length (unique_names gang hs ns vars w x)) (unique_variables gang hs ns vars x) a))
      stmt_typing ns start vars (unmasked k b s) = made (unmasked_stmt k s) (block_typing ns (length ns) vars b)
      stmt_typing ns start vars (jump j k s) = exactly (t_jump j k s)
      stmt_typing ns start vars (returning k x s) = made (return_stmt k s) (returned_typing ns k x)
      -- 25 at the text
      stmt_typing ns start vars (print k t p xs s) = made (print_stmt k t s) (provided (places t == length xs) (fault BadPrint p) (values_typing ns xs))
      stmt_typing ns start vars (assert x c s) = made (assert_stmt c s) (test_typing ns x)

      pub block_typing : List Binding → ℕ → List Variable → Block → Typing TBlock
      block_typing ns start vars (braces ss s) = made (braces_made s) (stmts_typing ns start vars ss)

      pub stmts_typing : List Binding → ℕ → List Variable → Stmts → Typing TStmts
      stmts_typing ns start vars no_stmts = exactly t_no_stmts
      stmts_typing ns start vars (stmt_then s ss) =
          made stmts_made (both (stmt_typing ns start vars s) (stmts_typing (names_after gang ns vars s) start (variables_after gang hs ns vars s) ss))
