-- The faults of names and types in statements, in the order in which the code meets them.
use Rattle.std.specs.Prelude.{ℕ, List, [], ◌∷◌, ◌++◌, length, ◌==◌, Option, Result, Ok}
use Rattle.isp_base.specs.declared.types.Gang.{Gang}
use Rattle.isp_base.specs.declared.types.Span.{Span}
use Rattle.isp_base.specs.declared.types.Ty.{Ty}
use Rattle.isp_lex.specs.declared.fault.Fault.{Fault}
use Rattle.isp_lex.specs.declared.fault.Rule.TheVariants.{NameTwice, Mismatch, BadPrint}
use Rattle.isp_lex.specs.Faults.{fault}
use Rattle.isp_tree.specs.declared.types.Word.{Word}
use Rattle.isp_tree.specs.Tree.{Expr, place, call, Item, plain, with_value, with_size, Declaration, Simple, value, assign, change, First, first_declare, first_simple, Range}
use Rattle.isp_tree.specs.Tree.{Stmt, block, empty, declare, simple, if_then, if_else, loop_while, loop_do, loop_for, foreach, foreach_active, foreach_unique, unmasked, jump, returning, print, assert, Block, braces, Stmts, no_stmts, stmt_then}
use Rattle.isp_typed.specs.declared.variable.Variable.{Variable}
use Rattle.isp_typed.specs.Indices.{foreach_index as index, active_index}
use Rattle.isp_exprs.specs.declared.scope.Binding.{Binding}
use Rattle.isp_exprs.specs.declared.words.ValueWords.{ValueWords}
use Rattle.isp_exprs.specs.Words.{value_said}
use Rattle.isp_exprs.specs.Scopes.{is_new, with_name}
use Rattle.isp_exprs.specs.Callees.{Heading}
use Rattle.isp_types.specs.Numbering.{or_nothing, item_word, item_names, item_variables, first_names, first_variables, range_names, range_variables, unique_names, unique_variables, names_after, variables_after}
use Rattle.isp_types.specs.Declarations.{array_sized}
use Rattle.isp_types.specs.Statements.{places, agrees}
use Rattle.isp_types.specs.Simple.{target_typing}
use Rattle.isp_name_breaches.specs.reader.Exprs.{refusal, or_own, unmet, of_any, expr_faults, parts_faults, call_of_faults}

-- a name that stands in its scope already
abbrev pub twice : Word → ℕ → List Binding → List Fault
twice w start ns = unmet (is_new w.name start ns) (fault NameTwice w.span)

-- the indices of a `foreach`, which are names of one scope, from `start` on
abbrev pub indices_faults : ℕ → List Binding → List Variable → List Range → List Fault
indices_faults start is vars [] = []
indices_faults start is vars (r ∷ rs) = twice r.word start is ++ indices_faults start (with_name is vars r.word.name (Ok index)) (vars ++ index ∷ []) rs

module _ (gang : Gang) (hs : List Heading) where
  -- ---- declared variables

  -- of what stands after the name of a variable of this number
  abbrev pub initial_faults : Result ValueWords Fault → List Binding → ℕ → Item → List Fault
  initial_faults r ns k (plain w) = []
  initial_faults r ns k (with_value w x s) = expr_faults gang hs ns x
  initial_faults r ns k (with_size w n s) = refusal (array_sized gang k (or_nothing r) n)

  module _ (r : Result ValueWords Fault) (start : ℕ) where
    abbrev pub item_faults : List Binding → List Variable → Item → List Fault
    item_faults ns vars i = twice (item_word i) start ns ++ initial_faults r ns (length vars) i

    abbrev pub items_faults : List Binding → List Variable → List Item → List Fault
    items_faults ns vars [] = []
    items_faults ns vars (i ∷ is) = item_faults ns vars i ++ items_faults (item_names gang r ns vars i) (item_variables gang r vars i) is

  abbrev pub declaration_faults : List Binding → ℕ → List Variable → Declaration → List Fault
  declaration_faults ns start vars d = refusal (value_said d.ty) ++ items_faults (value_said d.ty) start ns vars d.items

  -- ---- what stands before a semicolon

  -- of the parts of what is assigned
  abbrev pub assigned_faults : List Binding → Expr → List Fault
  assigned_faults ns (place p) = parts_faults gang hs ns p
  assigned_faults ns x = expr_faults gang hs ns x

  abbrev pub target_faults : List Binding → Expr → List Fault
  target_faults ns x = or_own (assigned_faults ns x) (target_typing gang hs ns x).verdict

  abbrev pub simple_faults : List Binding → Simple → List Fault
  simple_faults ns (value (call w xs s)) = call_of_faults gang hs ns w xs s
  simple_faults ns (value x) = expr_faults gang hs ns x
  simple_faults ns (assign a t x s) = target_faults ns t ++ expr_faults gang hs ns x
  simple_faults ns (change c t s) = target_faults ns t

  abbrev pub first_faults : List Binding → ℕ → List Variable → First → List Fault
  first_faults ns start vars (first_declare d) = declaration_faults ns start vars d
  first_faults ns start vars (first_simple s) = simple_faults ns s

  -- ---- parts of statements

  abbrev pub bounds_faults : List Binding → List Range → List Fault
  bounds_faults ns [] = []
  bounds_faults ns (r ∷ rs) = (expr_faults gang hs ns r.start ++ expr_faults gang hs ns r.end) ++ bounds_faults ns rs

  abbrev pub ranges_faults : List Binding → ℕ → List Variable → List Range → List Fault
  ranges_faults ns start vars rs = bounds_faults ns rs ++ indices_faults start ns vars rs

  abbrev pub values_faults : List Binding → List Expr → List Fault
  values_faults ns [] = []
  values_faults ns (x ∷ xs) = expr_faults gang hs ns x ++ values_faults ns xs

  -- ---- statements

  module _ (answer : Result (Option Ty) Fault) where
    abbrev pub returned_faults : List Binding → Span → Option Expr → List Fault
    returned_faults ns k x = unmet (agrees answer x) (fault Mismatch k) ++ of_any (expr_faults gang hs ns) x

    abbrev mutual
      pub stmt_faults : List Binding → ℕ → List Variable → Stmt → List Fault
      stmt_faults ns start vars (block b) = block_faults ns (length ns) vars b
      stmt_faults ns start vars (empty s) = []
      stmt_faults ns start vars (declare d s) = declaration_faults ns start vars d
      stmt_faults ns start vars (simple p s) = simple_faults ns p
      stmt_faults ns start vars (if_then f x a s) = expr_faults gang hs ns x ++ stmt_faults ns (length ns) vars a
      stmt_faults ns start vars (if_else f x a b s) =
          expr_faults gang hs ns x ++ (stmt_faults ns (length ns) vars a ++ stmt_faults ns (length ns) (variables_after gang hs ns vars a) b)
      stmt_faults ns start vars (loop_while f x a s) = expr_faults gang hs ns x ++ stmt_faults ns (length ns) vars a
      stmt_faults ns start vars (loop_do f a x s) = stmt_faults ns (length ns) vars a ++ expr_faults gang hs ns x
      stmt_faults ns start vars (loop_for f i x p a s) =
          of_any (first_faults ns (length ns) vars) i
          ++ (of_any (expr_faults gang hs (first_names gang ns vars i)) x
          ++ (of_any (simple_faults (first_names gang ns vars i)) p
          ++ stmt_faults (first_names gang ns vars i) (length (first_names gang ns vars i)) (first_variables gang vars i) a))
      stmt_faults ns start vars (foreach t k rs a s) =
          ranges_faults ns (length ns) vars rs
          ++ stmt_faults (range_names ns vars rs) (length (range_names ns vars rs)) (range_variables vars rs) a
      stmt_faults ns start vars (foreach_active k w a s) =
          stmt_faults (with_name ns vars w.name (Ok active_index)) (length (with_name ns vars w.name (Ok active_index))) (vars ++ active_index ∷ []) a
      stmt_faults ns start vars (foreach_unique k w x a s) =
          expr_faults gang hs ns x
          ++ stmt_faults (unique_names gang hs ns vars w x) (length (unique_names gang hs ns vars w x)) (unique_variables gang hs ns vars x) a
      stmt_faults ns start vars (unmasked k b s) = block_faults ns (length ns) vars b
      stmt_faults ns start vars (jump j k s) = []
      stmt_faults ns start vars (returning k x s) = returned_faults ns k x
      stmt_faults ns start vars (print k t p xs s) = unmet (places t == length xs) (fault BadPrint p) ++ values_faults ns xs
      stmt_faults ns start vars (assert x c s) = expr_faults gang hs ns x

      pub block_faults : List Binding → ℕ → List Variable → Block → List Fault
      block_faults ns start vars (braces ss s) = stmts_faults ns start vars ss

      pub stmts_faults : List Binding → ℕ → List Variable → Stmts → List Fault
      stmts_faults ns start vars no_stmts = []
      stmts_faults ns start vars (stmt_then s ss) =
          stmt_faults ns start vars s ++ stmts_faults (names_after gang ns vars s) start (variables_after gang hs ns vars s) ss

    -- of the parts of statements with names of their own
    abbrev pub for_faults : List Binding → List Variable → Option First → Option Expr → Option Simple → Stmt → List Fault
    for_faults ns vars i x p a =
        of_any (first_faults ns (length ns) vars) i
        ++ (of_any (expr_faults gang hs (first_names gang ns vars i)) x
        ++ (of_any (simple_faults (first_names gang ns vars i)) p
        ++ stmt_faults (first_names gang ns vars i) (length (first_names gang ns vars i)) (first_variables gang vars i) a))

    abbrev pub foreach_faults : List Binding → List Variable → List Range → Stmt → List Fault
    foreach_faults ns vars rs a =
        ranges_faults ns (length ns) vars rs
        ++ stmt_faults (range_names ns vars rs) (length (range_names ns vars rs)) (range_variables vars rs) a

    abbrev pub active_faults : List Binding → List Variable → Word → Stmt → List Fault
    active_faults ns vars w a =
        stmt_faults (with_name ns vars w.name (Ok active_index)) (length (with_name ns vars w.name (Ok active_index))) (vars ++ active_index ∷ []) a

    abbrev pub unique_faults : List Binding → List Variable → Word → Expr → Stmt → List Fault
    unique_faults ns vars w x a =
        expr_faults gang hs ns x
        ++ stmt_faults (unique_names gang hs ns vars w x) (length (unique_names gang hs ns vars w x)) (unique_variables gang hs ns vars x) a

  abbrev pub printed_faults : List Binding → List ℕ → Span → List Expr → List Fault
  printed_faults ns t p xs = unmet (places t == length xs) (fault BadPrint p) ++ values_faults ns xs
