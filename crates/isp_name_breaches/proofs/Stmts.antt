-- The faults of a statement are its breaches.
use Rattle.std.proofs.Common.{◌≡◌, sym, ◌∙◌}
use Rattle.std.specs.Prelude.{ℕ, List, [], ◌∷◌, ◌++◌, length, ◌==◌, Option, None, Result, Ok}
use Rattle.isp_base.specs.declared.types.Gang.{Gang}
use Rattle.isp_base.specs.declared.types.Span.{Span}
use Rattle.isp_base.specs.declared.types.Ty.{Ty}
use Rattle.isp_lex.specs.declared.fault.Fault.{Fault}
use Rattle.isp_lex.specs.declared.fault.Rule.TheVariants.{NameTwice, Mismatch, BadPrint}
use Rattle.isp_lex.specs.Faults.{fault}
use Rattle.isp_tree.specs.declared.stmt.Change.TheVariants.{Increment}
use Rattle.isp_tree.specs.Tree.{Expr, span_of, number, truth, program_index, program_count, place, call, brackets, cast, prefix, binary, choose, variable, element, Item, plain}
use Rattle.isp_tree.specs.Tree.{with_value, with_size, Declaration, Simple, value, assign, change, First, first_declare, first_simple, Range}
use Rattle.isp_tree.specs.Tree.{Stmt, block, empty, declare, simple, if_then, if_else, loop_while, loop_do, loop_for, foreach, foreach_active, foreach_unique, unmasked, jump, returning, print, assert, Block, braces, Stmts, no_stmts, stmt_then}
use Rattle.isp_typed.specs.declared.variable.Variable.{Variable}
use Rattle.isp_typed.specs.Indices.{foreach_index as index, active_index}
use Rattle.isp_typed.proofs.Right.{given_right, both_right}
use Rattle.isp_exprs.specs.declared.scope.Binding.{Binding}
use Rattle.isp_exprs.specs.declared.words.ValueWords.{ValueWords}
use Rattle.isp_exprs.specs.Words.{value_said}
use Rattle.isp_exprs.specs.Scopes.{named, is_new, with_name}
use Rattle.isp_exprs.specs.Places.{variable_target, element_target}
use Rattle.isp_exprs.specs.Callees.{Heading}
use Rattle.isp_exprs.specs.Rules.{expr_typing}
use Rattle.isp_exprs.specs.reader.Lists.{fault_of}
use Rattle.isp_exprs.proofs.Exprs.{expr_right}
use Rattle.isp_types.proofs.Stmts.{stmt_right}
use Rattle.isp_types.specs.Numbering.{or_nothing, item_names, item_variables, first_names, first_variables, range_names, range_variables, unique_names, unique_variables, names_after, variables_after}
use Rattle.isp_types.specs.Declarations.{array_sized, item_typing, items_typing, declaration_typing}
use Rattle.isp_types.specs.Simple.{no_place, target_typing, simple_typing}
use Rattle.isp_types.specs.Statements.{places, agrees, first_typing, ranges_typing, values_typing, returned_typing, stmt_typing, block_typing, stmts_typing}
use Rattle.isp_name_breaches.specs.reader.Exprs.{expr_faults}
use Rattle.isp_name_breaches.specs.reader.Stmts.{twice, item_faults, items_faults, declaration_faults, target_faults, simple_faults, first_faults, bounds_faults, indices_faults, values_faults, returned_faults, stmt_faults, block_faults, stmts_faults}
use Rattle.isp_name_breaches.proofs.Listed.{Lists, none_lists, refusal_lists, either_lists, unless_lists, any_lists, own_lists, swapped_lists, made_fault, sound_lists}
use Rattle.isp_name_breaches.proofs.Exprs.{expr_lists, call_of_lists}

module _ (gang : Gang) (hs : List Heading) where
  module _ (r : Result ValueWords Fault) (start : ℕ) where
    item_lists : (ns : List Binding) (vars : List Variable) (i : Item) → Lists (item_faults gang hs r start ns vars i) (item_typing gang hs r start ns vars i).breach
    item_lists ns vars (plain w) = unless_lists (is_new w.name start ns) (fault NameTwice w.span) [] _ none_lists
    item_lists ns vars (with_value w x s) = unless_lists (is_new w.name start ns) (fault NameTwice w.span) _ _ (expr_lists gang hs ns x)
    item_lists ns vars (with_size w n s) = unless_lists (is_new w.name start ns) (fault NameTwice w.span) _ _ (refusal_lists (array_sized gang (length vars) (or_nothing r) n))

    items_lists : (ns : List Binding) (vars : List Variable) (is : List Item) → Lists (items_faults gang hs r start ns vars is) (items_typing gang hs r start ns vars is).breach
    items_lists ns vars [] = none_lists
    items_lists ns vars (i ∷ is) = either_lists _ _ _ _ (item_lists ns vars i) (items_lists (item_names gang r ns vars i) (item_variables gang r vars i) is)

  declaration_lists : (ns : List Binding) (start : ℕ) (vars : List Variable) (d : Declaration) → Lists (declaration_faults gang hs ns start vars d) (declaration_typing gang hs ns start vars d).breach
  declaration_lists ns start vars d = either_lists _ _ _ _ (refusal_lists (value_said d.ty)) (items_lists (value_said d.ty) start ns vars d.items)

  pub target_lists : (ns : List Binding) (x : Expr) → Lists (target_faults gang hs ns x) (target_typing gang hs ns x).breach
  target_lists ns (place (variable w)) = own_lists (variable_target w.span) _ _ _ _ (refusal_lists (named ns w)) (given_right (named ns w))
  target_lists ns (place (element w x s)) = own_lists (element_target s) _ _ _ _
      (either_lists _ _ _ _ (refusal_lists (named ns w)) (expr_lists gang hs ns x)) (both_right _ _ _ _ _ _ (given_right (named ns w)) (expr_right gang hs ns x))
  target_lists ns (number v s) = own_lists (no_place s) _ _ _ _ (expr_lists gang hs ns (number v s)) (expr_right gang hs ns (number v s))
  target_lists ns (truth b s) = own_lists (no_place s) _ _ _ _ (expr_lists gang hs ns (truth b s)) (expr_right gang hs ns (truth b s))
  target_lists ns (program_index s) = own_lists (no_place s) _ _ _ _ (expr_lists gang hs ns (program_index s)) (expr_right gang hs ns (program_index s))
  target_lists ns (program_count s) = own_lists (no_place s) _ _ _ _ (expr_lists gang hs ns (program_count s)) (expr_right gang hs ns (program_count s))
  target_lists ns (brackets x s) = own_lists (no_place s) _ _ _ _ (expr_lists gang hs ns (brackets x s)) (expr_right gang hs ns (brackets x s))
  target_lists ns (cast t x s) = own_lists (no_place s) _ _ _ _ (expr_lists gang hs ns (cast t x s)) (expr_right gang hs ns (cast t x s))
  target_lists ns (prefix op x s) = own_lists (no_place s) _ _ _ _ (expr_lists gang hs ns (prefix op x s)) (expr_right gang hs ns (prefix op x s))
  target_lists ns (binary op x y s) = own_lists (no_place s) _ _ _ _ (expr_lists gang hs ns (binary op x y s)) (expr_right gang hs ns (binary op x y s))
  target_lists ns (choose c x y s) = own_lists (no_place s) _ _ _ _ (expr_lists gang hs ns (choose c x y s)) (expr_right gang hs ns (choose c x y s))
  target_lists ns (call w xs s) = own_lists (no_place s) _ _ _ _ (expr_lists gang hs ns (call w xs s)) (expr_right gang hs ns (call w xs s))

  -- A step by one has the breaches of its target, so the checker is right on targets as it is on statements.
  pub target_sound : (ns : List Binding) (x : Expr) (o : Option Fault) → o ≡ fault_of (target_typing gang hs ns x).verdict → o ≡ None → target_faults gang hs ns x ≡ []
  target_sound ns x o e n =
      let step = simple (change Increment x (span_of x)) (span_of x) in
      sound_lists _ _ _ _ (target_lists ns x) (stmt_right gang hs (Ok None) ns 0 [] step) (made_fault _ _ ∙ (made_fault _ _ ∙ (sym e ∙ n)))

  simple_lists : (ns : List Binding) (p : Simple) → Lists (simple_faults gang hs ns p) (simple_typing gang hs ns p).breach
  simple_lists ns (value (call w xs s)) = call_of_lists gang hs ns w xs s
  simple_lists ns (value (number v s)) = expr_lists gang hs ns (number v s)
  simple_lists ns (value (truth b s)) = expr_lists gang hs ns (truth b s)
  simple_lists ns (value (program_index s)) = expr_lists gang hs ns (program_index s)
  simple_lists ns (value (program_count s)) = expr_lists gang hs ns (program_count s)
  simple_lists ns (value (brackets x s)) = expr_lists gang hs ns (brackets x s)
  simple_lists ns (value (cast t x s)) = expr_lists gang hs ns (cast t x s)
  simple_lists ns (value (prefix op x s)) = expr_lists gang hs ns (prefix op x s)
  simple_lists ns (value (binary op x y s)) = expr_lists gang hs ns (binary op x y s)
  simple_lists ns (value (choose c x y s)) = expr_lists gang hs ns (choose c x y s)
  simple_lists ns (value (place p)) = expr_lists gang hs ns (place p)
  simple_lists ns (assign a t x s) = either_lists _ _ _ _ (target_lists ns t) (expr_lists gang hs ns x)
  simple_lists ns (change c t s) = target_lists ns t

  first_lists : (ns : List Binding) (start : ℕ) (vars : List Variable) (i : First) → Lists (first_faults gang hs ns start vars i) (first_typing gang hs ns start vars i).breach
  first_lists ns start vars (first_declare d) = declaration_lists ns start vars d
  first_lists ns start vars (first_simple p) = simple_lists ns p

  range_lists : (ns : List Binding) (start : ℕ) (is : List Binding) (vars : List Variable) (rs : List Range)
      → Lists (bounds_faults gang hs ns rs ++ indices_faults start is vars rs) (ranges_typing gang hs ns start is vars rs).breach
  range_lists ns start is vars [] = none_lists
  range_lists ns start is vars (r ∷ rs) = swapped_lists (expr_faults gang hs ns r.start ++ expr_faults gang hs ns r.end) (bounds_faults gang hs ns rs) (twice r.word start is) _ _ (either_lists _ _ _ _
      (unless_lists (is_new r.word.name start is) (fault NameTwice r.word.span) _ _ (either_lists _ _ _ _ (expr_lists gang hs ns r.start) (expr_lists gang hs ns r.end)))
      (range_lists ns start (with_name is vars r.word.name (Ok index)) (vars ++ index ∷ []) rs))

  values_lists : (ns : List Binding) (xs : List Expr) → Lists (values_faults gang hs ns xs) (values_typing gang hs ns xs).breach
  values_lists ns [] = none_lists
  values_lists ns (x ∷ xs) = either_lists _ _ _ _ (expr_lists gang hs ns x) (values_lists ns xs)

  module _ (answer : Result (Option Ty) Fault) where
    returned_lists : (ns : List Binding) (k : Span) (x : Option Expr) → Lists (returned_faults gang hs answer ns k x) (returned_typing gang hs answer ns k x).breach
    returned_lists ns k x = unless_lists (agrees answer x) (fault Mismatch k) _ _ (any_lists (expr_faults gang hs ns) (λ y. (expr_typing gang hs ns y).breach) (expr_lists gang hs ns) x)

    mutual
      stmt_lists : (ns : List Binding) (start : ℕ) (vars : List Variable) (s : Stmt) → Lists (stmt_faults gang hs answer ns start vars s) (stmt_typing gang hs answer ns start vars s).breach
      stmt_lists ns start vars (block b) = block_lists ns (length ns) vars b
      stmt_lists ns start vars (empty s) = none_lists
      stmt_lists ns start vars (declare d s) = declaration_lists ns start vars d
      stmt_lists ns start vars (simple p s) = simple_lists ns p
      stmt_lists ns start vars (if_then f x a s) = either_lists _ _ _ _ (expr_lists gang hs ns x) (stmt_lists ns (length ns) vars a)
      stmt_lists ns start vars (if_else f x a b s) = either_lists _ _ _ _ (expr_lists gang hs ns x)
          (either_lists _ _ _ _ (stmt_lists ns (length ns) vars a) (stmt_lists ns (length ns) (variables_after gang hs ns vars a) b))
      stmt_lists ns start vars (loop_while f x a s) = either_lists _ _ _ _ (expr_lists gang hs ns x) (stmt_lists ns (length ns) vars a)
      stmt_lists ns start vars (loop_do f a x s) = either_lists _ _ _ _ (stmt_lists ns (length ns) vars a) (expr_lists gang hs ns x)
      stmt_lists ns start vars (loop_for f i x p a s) = either_lists _ _ _ _
          (any_lists (first_faults gang hs ns (length ns) vars) (λ y. (first_typing gang hs ns (length ns) vars y).breach) (first_lists ns (length ns) vars) i)
          (either_lists _ _ _ _ (any_lists (expr_faults gang hs (first_names gang ns vars i)) (λ y. (expr_typing gang hs (first_names gang ns vars i) y).breach) (expr_lists gang hs (first_names gang ns vars i)) x)
          (either_lists _ _ _ _ (any_lists (simple_faults gang hs (first_names gang ns vars i)) (λ y. (simple_typing gang hs (first_names gang ns vars i) y).breach) (simple_lists (first_names gang ns vars i)) p)
          (stmt_lists (first_names gang ns vars i) (length (first_names gang ns vars i)) (first_variables gang vars i) a)))
      stmt_lists ns start vars (foreach t k rs a s) = either_lists _ _ _ _ (range_lists ns (length ns) ns vars rs)
          (stmt_lists (range_names ns vars rs) (length (range_names ns vars rs)) (range_variables vars rs) a)
      stmt_lists ns start vars (foreach_active k w a s) =
          stmt_lists (with_name ns vars w.name (Ok active_index)) (length (with_name ns vars w.name (Ok active_index))) (vars ++ active_index ∷ []) a
      stmt_lists ns start vars (foreach_unique k w x a s) = either_lists _ _ _ _ (expr_lists gang hs ns x)
          (stmt_lists (unique_names gang hs ns vars w x) (length (unique_names gang hs ns vars w x)) (unique_variables gang hs ns vars x) a)
      stmt_lists ns start vars (unmasked k b s) = block_lists ns (length ns) vars b
      stmt_lists ns start vars (jump j k s) = none_lists
      stmt_lists ns start vars (returning k x s) = returned_lists ns k x
      stmt_lists ns start vars (print k t p xs s) = unless_lists (places t == length xs) (fault BadPrint p) _ _ (values_lists ns xs)
      stmt_lists ns start vars (assert x c s) = expr_lists gang hs ns x

      pub block_lists : (ns : List Binding) (start : ℕ) (vars : List Variable) (b : Block) → Lists (block_faults gang hs answer ns start vars b) (block_typing gang hs answer ns start vars b).breach
      block_lists ns start vars (braces ss s) = stmts_lists ns start vars ss

      stmts_lists : (ns : List Binding) (start : ℕ) (vars : List Variable) (ss : Stmts) → Lists (stmts_faults gang hs answer ns start vars ss) (stmts_typing gang hs answer ns start vars ss).breach
      stmts_lists ns start vars no_stmts = none_lists
      stmts_lists ns start vars (stmt_then s ss) = either_lists _ _ _ _ (stmt_lists ns start vars s)
          (stmts_lists (names_after gang ns vars s) start (variables_after gang hs ns vars s) ss)
