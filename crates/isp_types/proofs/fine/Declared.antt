-- What a body declares: values, and local arrays of 1 to 65,536 elements.
use Rattle.std.proofs.Common.{◌≡◌, ℕ, ◌++◌, refl, sym, ap, ◌∙◌, append_assoc}
use Rattle.std.specs.Prelude.{Option, Some, None, List, [], ◌∷◌, length, Result, Ok, Err}
use Rattle.std.specs.List.{All}
use Rattle.std.proofs.lemmas.List.{append-nil}
use Rattle.std.proofs.lemmas.List.Elements.{All-cons, All-append}
use Rattle.isp_base.specs.declared.types.Gang.{Gang}
use Rattle.isp_base.specs.declared.types.Ty.{Ty}
use Rattle.isp_lex.specs.declared.fault.Fault.{Fault}
use Rattle.isp_tree.specs.Tree.{Item, plain, with_value, with_size, First, first_declare, first_simple, Range, Stmt, block, empty, declare, simple, if_then, if_else, loop_while, loop_do, loop_for}
use Rattle.isp_tree.specs.Tree.{foreach, foreach_active, foreach_unique, unmasked, jump, returning, print, assert, Block, braces, Stmts, no_stmts, stmt_then}
use Rattle.isp_typed.specs.declared.variable.Variable.{Variable}
use Rattle.isp_exprs.specs.Typing.{perhaps}
use Rattle.isp_typed.specs.Typed.{TExpr, TItem, TFirst, TStmt, TBlock, TStmts}
use Rattle.isp_typed.specs.Fine.{IsDeclared}
use Rattle.isp_typed.specs.Indices.{foreach_index as index, active_index}
use Rattle.isp_exprs.specs.declared.scope.Binding.{Binding}
use Rattle.isp_exprs.specs.declared.words.ValueWords.{ValueWords}
use Rattle.isp_exprs.specs.Words.{value_said}
use Rattle.isp_exprs.specs.Callees.{Heading}
use Rattle.isp_exprs.specs.Rules.{expr_typing}
use Rattle.isp_types.specs.Numbering.{item_names, item_variables, items_variables, first_variables, range_variables, index_of, or_active, unique_variables, names_after, variables_after, block_variables, stmts_variables}
use Rattle.isp_types.specs.Declarations.{item_typing, items_typing}
use Rattle.isp_types.specs.Statements.{first_typing, stmt_typing, block_typing, stmts_typing}
use Rattle.isp_types.proofs.fine.Passed.{no_ok}
use Rattle.isp_types.proofs.fine.Simples.{no_all, array_bounds}

-- one list is another with what is declared after it
pub record Declares (before after : List Variable) : Type 0 where
  pub more : List Variable
  pub is : after ≡ before ++ more
  pub each : All IsDeclared more

none : (vars : List Variable) → Declares vars vars
none vars = record { more = []; is = sym (append-nil vars); each = no_all IsDeclared }

one : (vars : List Variable) (v : Variable) → IsDeclared v → Declares vars (vars ++ v ∷ [])
one vars v d = record { more = v ∷ []; is = refl; each = All-cons IsDeclared v [] d (no_all IsDeclared) }

later : (a b c : List Variable) → Declares a b → Declares b c → Declares a c
later a b c g h = record {
  more = g.more ++ h.more;
  is = h.is ∙ (ap (λ l. l ++ h.more) g.is ∙ append_assoc a g.more h.more);
  each = All-append IsDeclared g.more h.more g.each h.each;
}

module _ (gang : Gang) (hs : List Heading) where
  item_declares : (w : ValueWords) (start : ℕ) (ns : List Binding) (vars : List Variable) (i : Item) (t : TItem) → (item_typing gang hs (Ok w) start ns vars i).is t → Declares vars (item_variables gang (Ok w) vars i)
  item_declares w start ns vars (plain v) t i = one vars _ tt
  item_declares w start ns vars (with_value v x s) t i = one vars _ tt
  item_declares w start ns vars (with_size v n s) t i = one vars _ (array_bounds gang (length vars) w n i.0 i.1.1)

  items_declare : (w : ValueWords) (start : ℕ) (ns : List Binding) (vars : List Variable) (is : List Item) (ts : List TItem) → (items_typing gang hs (Ok w) start ns vars is).is ts → Declares vars (items_variables gang (Ok w) vars is)
  items_declare w start ns vars [] ts i = none vars
  items_declare w start ns vars (x ∷ xs) ts i =
      later _ _ _ (item_declares w start ns vars x i.0.0 i.1.0) (items_declare w start (item_names gang (Ok w) ns vars x) (item_variables gang (Ok w) vars x) xs i.0.1 i.1.1)

  said_declares : (r : Result ValueWords Fault) (w : ValueWords) → r ≡ Ok w → (start : ℕ) (ns : List Binding) (vars : List Variable) (is : List Item) (ts : List TItem) → (items_typing gang hs r start ns vars is).is ts
      → Declares vars (items_variables gang r vars is)
  said_declares (Ok v) w e start ns vars is ts i = items_declare v start ns vars is ts i
  said_declares (Err f) w e start ns vars is ts i = absurd (no_ok e)

  first_declares : (start : ℕ) (ns : List Binding) (vars : List Variable) (x : Option First) (t : Option TFirst) → (perhaps (first_typing gang hs ns start vars) x).is t → Declares vars (first_variables gang vars x)
  first_declares start ns vars None t i = none vars
  first_declares start ns vars (Some (first_simple p)) t i = none vars
  first_declares start ns vars (Some (first_declare d)) t i =
      let p = i.1 in
      said_declares (value_said d.ty) p.1.0.0 p.1.1.0 start ns vars d.items p.1.0.1 p.1.1.1

  ranges_declare : (vars : List Variable) (rs : List Range) → Declares vars (range_variables vars rs)
  ranges_declare vars [] = none vars
  ranges_declare vars (r ∷ rs) = later _ _ _ (one vars index tt) (ranges_declare (vars ++ index ∷ []) rs)

  index_declared : (r : Result TExpr Fault) → IsDeclared (or_active (index_of r))
  index_declared (Ok x) = tt
  index_declared (Err f) = tt

  module _ (answer : Result (Option Ty) Fault) where
    mutual
      stmt_declares : (ns : List Binding) (start : ℕ) (vars : List Variable) (s : Stmt) (t : TStmt) → (stmt_typing gang hs answer ns start vars s).is t → Declares vars (variables_after gang hs ns vars s)
      stmt_declares ns start vars (block b) t i = block_declares ns _ vars b i.0 i.1
      stmt_declares ns start vars (empty s) t i = none vars
      stmt_declares ns start vars (declare d s) t i = let p = i.1 in said_declares (value_said d.ty) p.0.0 p.1.0 start ns vars d.items p.0.1 p.1.1
      stmt_declares ns start vars (simple p s) t i = none vars
      stmt_declares ns start vars (if_then f x a s) t i = stmt_declares ns _ vars a i.0.1 i.1.1
      stmt_declares ns start vars (if_else f x a b s) t i = later _ _ _ (stmt_declares ns _ vars a i.0.1.0 i.1.1.0) (stmt_declares ns _ (variables_after gang hs ns vars a) b i.0.1.1 i.1.1.1)
      stmt_declares ns start vars (loop_while f x a s) t i = stmt_declares ns _ vars a i.0.1 i.1.1
      stmt_declares ns start vars (loop_do f a x s) t i = stmt_declares ns _ vars a i.0.0 i.1.0
      stmt_declares ns start vars (loop_for f j x p a s) t i = later _ _ _ (first_declares _ ns vars j i.0.0 i.1.0) (stmt_declares _ _ (first_variables gang vars j) a i.0.1.1.1 i.1.1.1.1)
      stmt_declares ns start vars (foreach k w rs a s) t i = later _ _ _ (ranges_declare vars rs) (stmt_declares _ _ (range_variables vars rs) a i.0.1 i.1.1)
      stmt_declares ns start vars (foreach_active k w a s) t i = later _ _ _ (one vars active_index tt) (stmt_declares _ _ (vars ++ active_index ∷ []) a i.0 i.1)
      stmt_declares ns start vars (foreach_unique k w x a s) t i =
          later _ _ _ (one vars (or_active (index_of (expr_typing gang hs ns x).verdict)) (index_declared (expr_typing gang hs ns x).verdict)) (stmt_declares _ _ (unique_variables gang hs ns vars x) a i.0.1 i.1.1)
      stmt_declares ns start vars (unmasked k b s) t i = block_declares ns _ vars b i.0 i.1
      stmt_declares ns start vars (jump j k s) t i = none vars
      stmt_declares ns start vars (returning k x s) t i = none vars
      stmt_declares ns start vars (print k w p xs s) t i = none vars
      stmt_declares ns start vars (assert x c s) t i = none vars

      pub block_declares : (ns : List Binding) (start : ℕ) (vars : List Variable) (b : Block) (t : TBlock) → (block_typing gang hs answer ns start vars b).is t → Declares vars (block_variables gang hs ns vars b)
      block_declares ns start vars (braces ss s) t i = stmts_declare ns start vars ss i.0 i.1

      stmts_declare : (ns : List Binding) (start : ℕ) (vars : List Variable) (ss : Stmts) (t : TStmts) → (stmts_typing gang hs answer ns start vars ss).is t → Declares vars (stmts_variables gang hs ns vars ss)
      stmts_declare ns start vars no_stmts t i = none vars
      stmts_declare ns start vars (stmt_then s ss) t i =
          later _ _ _ (stmt_declares ns start vars s i.0.0 i.1.0) (stmts_declare (names_after gang ns vars s) start (variables_after gang hs ns vars s) ss i.0.1 i.1.1)
