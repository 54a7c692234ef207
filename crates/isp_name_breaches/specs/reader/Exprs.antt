-- The faults of names and types in an expression, in the order in which the code meets them.
use Rattle.std.specs.Prelude.{List, [], ◌∷◌, ◌++◌, Bool, Option, Some, None, Result}
use Rattle.isp_base.specs.declared.types.Gang.{Gang}
use Rattle.isp_base.specs.declared.types.Span.{Span}
use Rattle.isp_lex.specs.declared.fault.Fault.{Fault}
use Rattle.isp_tree.specs.declared.types.Word.{Word}
use Rattle.isp_tree.specs.Tree.{Expr, number, truth, program_index, program_count, place, call, brackets, cast, prefix, binary, choose, Place, variable, element}
use Rattle.isp_tree.specs.Tree.{Argument, by_value, by_reference, Arguments, no_arguments, argument_then, span_of_argument}
use Rattle.isp_typed.specs.Verdicts.{found, fault_unless}
use Rattle.isp_exprs.specs.declared.scope.Binding.{Binding}
use Rattle.isp_exprs.specs.declared.callee.Want.{Want}
use Rattle.isp_exprs.specs.Words.{value_said}
use Rattle.isp_exprs.specs.Scopes.{named}
use Rattle.isp_exprs.specs.Callees.{Heading, unless_unknown}
use Rattle.isp_exprs.specs.Calls.{suits, first_want, rest_of}
use Rattle.isp_exprs.specs.Rules.{callee_at, wants_at, past_at, expr_typing, argument_typing, call_of_typing}
use Rattle.isp_exprs.specs.reader.Lists.{fault_of}

-- of a fault that may be there, and of a verdict
abbrev pub told : Option Fault → List Fault
told None = []
told (Some f) = f ∷ []

abbrev pub refusal : {A : Type 0} → Result A Fault → List Fault
refusal v = told (fault_of v)

-- the faults of the parts of a node; where they have none, its own
abbrev pub own : List Fault → Option Fault → List Fault
own [] o = told o
own (f ∷ fs) o = f ∷ fs

-- the same of the verdict on the node
abbrev pub or_own : {A : Type 0} → List Fault → Result A Fault → List Fault
or_own fs v = own fs (fault_of v)

-- of a test that has to hold, and of what may be left out
abbrev pub unmet : Bool → Fault → List Fault
unmet test f = told (fault_unless test f)

abbrev pub of_any : {A : Type 0} → (A → List Fault) → Option A → List Fault
of_any g None = []
of_any g (Some a) = g a

module _ (gang : Gang) (hs : List Heading) (ns : List Binding) where
  -- of a call, of which the faults of the arguments are given
  abbrev pub call_faults : Word → Arguments → Span → List Fault → List Fault
  call_faults w xs s fs = or_own (refusal (unless_unknown w (callee_at hs w xs).0) ++ fs) (call_of_typing gang hs ns w xs s).verdict

  abbrev mutual
    pub expr_faults : Expr → List Fault
    expr_faults (number v s) = []
    expr_faults (truth b s) = []
    expr_faults (program_index s) = []
    expr_faults (program_count s) = []
    expr_faults (place p) = or_own (parts_faults p) (expr_typing gang hs ns (place p)).verdict
    expr_faults (call w xs s) = or_own (call_faults w xs s (arguments_faults (past_at hs w xs) (wants_at hs w xs) xs)) (expr_typing gang hs ns (call w xs s)).verdict
    expr_faults (brackets x s) = expr_faults x
    expr_faults (cast t x s) = refusal (value_said t) ++ expr_faults x
    expr_faults (prefix op x s) = expr_faults x
    expr_faults (binary op x y s) = expr_faults x ++ expr_faults y
    expr_faults (choose c x y s) = expr_faults c ++ (expr_faults x ++ expr_faults y)

    -- of the parts of a place
    pub parts_faults : Place → List Fault
    parts_faults (variable w) = refusal (named ns w)
    parts_faults (element w x s) = refusal (named ns w) ++ expr_faults x

    -- of an argument by itself
    pub argument_faults : Argument → List Fault
    argument_faults (by_value (place (variable w))) = refusal (named ns w)
    argument_faults (by_value (call w xs s)) = call_faults w xs s (arguments_faults (past_at hs w xs) (wants_at hs w xs) xs)
    argument_faults (by_value x) = expr_faults x
    argument_faults (by_reference p s) = parts_faults p

    pub arguments_faults : Want → List Want → Arguments → List Fault
    arguments_faults past ws no_arguments = []
    arguments_faults past ws (argument_then x xs) =
        or_own (argument_faults x) (found (suits (first_want past ws) (span_of_argument x)) (argument_typing gang hs ns x).verdict) ++ arguments_faults past (rest_of ws) xs

  -- of an argument where something is asked
  abbrev pub passed_faults : Want → Argument → List Fault
  passed_faults want x = or_own (argument_faults x) (found (suits want (span_of_argument x)) (argument_typing gang hs ns x).verdict)

  -- of a call of this name with these arguments
  abbrev pub call_of_faults : Word → Arguments → Span → List Fault
  call_of_faults w xs s = call_faults w xs s (arguments_faults (past_at hs w xs) (wants_at hs w xs) xs)
