-- The verdict of an expression's typing rule, beside what the rule says that it is and what its breaches are.
use Rattle.std.specs.Prelude.{List}
use Rattle.isp_base.specs.declared.types.Gang.{Gang}
use Rattle.isp_tree.specs.Tree.{Expr}
use Rattle.isp_typed.specs.Promise.{Right}
use Rattle.isp_exprs.specs.declared.scope.Binding.{Binding}
use Rattle.isp_exprs.specs.Callees.{Heading}
use Rattle.isp_exprs.specs.Rules.{expr_typing}

-- Where the verdict is a typed expression, the expression is that one and no other, and has no breach. Where it is a fault, the expression is
-- nothing, and the fault is one of its breaches, before which none is answered. (The type of a `foreach_unique`'s index is a verdict.)
abbrev pub VerdictIsRight : Type 0
VerdictIsRight = (gang : Gang) (hs : List Heading) (ns : List Binding) (x : Expr)
    → Right (expr_typing gang hs ns x).verdict (expr_typing gang hs ns x).is (expr_typing gang hs ns x).breach
