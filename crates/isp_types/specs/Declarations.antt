-- Declarations: which typed items each is, and beside it what its breaches are.
--     start   names from here on are the innermost scope's        vars   the variables that were declared so far
use Rattle.std.specs.Prelude.{ℕ, List, [], ◌∷◌, length, ◌&&◌, nat_lt, if◌then◌else◌, Result, Ok}
use Rattle.isp_base.specs.declared.types.Gang.{Gang}
use Rattle.isp_base.specs.declared.types.Span.{Span}
use Rattle.isp_base.specs.declared.types.Ty.{Ty}
use Rattle.isp_lex.specs.declared.fault.Fault.{Fault}
use Rattle.isp_lex.specs.declared.fault.Rule.TheVariants.{NameTwice}
use Rattle.isp_lex.specs.Faults.{fault}
use Rattle.isp_tree.specs.declared.stmt.Size.{Size}
use Rattle.isp_tree.specs.Tree.{Item, plain, with_value, with_size, Declaration, span_of_size}
use Rattle.isp_typed.specs.declared.variable.ArrayVariable.{ArrayVariable}
use Rattle.isp_typed.specs.declared.variable.Variable.{Variable}
use Rattle.isp_typed.specs.Typed.{TExpr, TItem, t_plain, t_with_value, t_with_size}
use Rattle.isp_exprs.specs.declared.scope.Binding.{Binding}
use Rattle.isp_exprs.specs.declared.words.ValueWords.{ValueWords}
use Rattle.isp_exprs.specs.Typing.{Typing, exactly, given, both, made, provided}
use Rattle.isp_exprs.specs.Words.{value_said, type_declared}
use Rattle.isp_exprs.specs.Scopes.{is_new}
use Rattle.isp_exprs.specs.Values.{converted}
use Rattle.isp_exprs.specs.Places.{mismatch}
use Rattle.isp_exprs.specs.Callees.{Heading}
use Rattle.isp_exprs.specs.Rules.{second, expr_typing, pair_then}
use Rattle.isp_types.specs.Numbering.{or_nothing, size_number, item_names, item_variables}

-- A local array has a size of 1 to 65,536; the fault stands at the size.
abbrev pub array_sized : Gang → ℕ → ValueWords → Size → Result ArrayVariable Fault
array_sized gang k v n =
    if nat_lt 0 (size_number gang n) && nat_lt (size_number gang n) 65537 then Ok (record { number = k; ty = type_declared v; constant = v.constant })
    else mismatch (span_of_size n)

abbrev pub with_initial : ℕ → Ty → Span → TExpr → TItem
with_initial k t s x = t_with_value k t (converted t.elem x) s

abbrev pub sized_item : Span → ArrayVariable → TItem
sized_item s a = t_with_size a s

module _ (gang : Gang) (hs : List Heading) where
  module _ (r : Result ValueWords Fault) (start : ℕ) where
    -- A name is new in its scope, and counts from after its initial value on; 21 at the later of two equal names.
    abbrev pub item_typing : List Binding → List Variable → Item → Typing TItem
    item_typing ns vars (plain w) =
        provided (is_new w.name start ns) (fault NameTwice w.span) (exactly (t_plain (length vars) (type_declared (or_nothing r)) w.span))
    item_typing ns vars (with_value w x s) =
        made (with_initial (length vars) (type_declared (or_nothing r)) s) (provided (is_new w.name start ns) (fault NameTwice w.span) (expr_typing gang hs ns x))
    item_typing ns vars (with_size w n s) =
        made (sized_item s) (provided (is_new w.name start ns) (fault NameTwice w.span) (given (array_sized gang (length vars) (or_nothing r) n)))

    abbrev pub items_typing : List Binding → List Variable → List Item → Typing (List TItem)
    items_typing ns vars [] = exactly []
    items_typing ns vars (i ∷ is) = made pair_then (both (item_typing ns vars i) (items_typing (item_names gang r ns vars i) (item_variables gang r vars i) is))

  -- 22 at words that contradict each other
  abbrev pub declaration_typing : List Binding → ℕ → List Variable → Declaration → Typing (List TItem)
  declaration_typing ns start vars d = made second (both (given (value_said d.ty)) (items_typing (value_said d.ty) start ns vars d.items))
