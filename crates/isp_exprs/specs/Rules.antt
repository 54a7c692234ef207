-- Expressions: which typed tree each is, and beside it what its breaches are.
--     gang   the gang's size       hs   the functions of the program, as callers see them       ns   the names in scope
use Rattle.std.specs.Prelude.{ℕ, suc, List, [], ◌∷◌}
use Rattle.isp_base.specs.declared.types.Gang.{Gang}
use Rattle.isp_base.specs.declared.types.Span.{Span}
use Rattle.isp_tree.specs.declared.types.Word.{Word}
use Rattle.isp_tree.specs.Tree.{Expr, number, truth, program_index, program_count, place, call, brackets, cast, prefix, binary, choose, Place, variable, element}
use Rattle.isp_tree.specs.Tree.{Argument, by_value, by_reference, Arguments, no_arguments, argument_then, span_of_argument}
use Rattle.isp_typed.specs.Typed.{TExpr, t_constant, t_program_index, t_place, TPlace}
use Rattle.isp_exprs.specs.declared.scope.Binding.{Binding}
use Rattle.isp_exprs.specs.declared.callee.Callee.{Callee}
use Rattle.isp_exprs.specs.declared.callee.Want.{Want}
use Rattle.isp_exprs.specs.Typing.{Typing, exactly, given, both, made, found}
use Rattle.isp_exprs.specs.Words.{value_said}
use Rattle.isp_exprs.specs.Scopes.{named}
use Rattle.isp_exprs.specs.Values.{truth_value, count_value, in_brackets, cast_to, with_sign, joined, choice}
use Rattle.isp_exprs.specs.Places.{variable_at, element_at}
use Rattle.isp_exprs.specs.Passing.{Handed, h_value, Passed, Called, value_called, handed_call, handed_name, handed_reference, handed_element}
use Rattle.isp_exprs.specs.Callees.{Heading, callee, asked_past, unless_unknown}
use Rattle.isp_exprs.specs.Calls.{suits, first_want, rest_of, call_of}

-- how many arguments stand in a call
abbrev pub count : Arguments → ℕ
count no_arguments = 0
count (argument_then x xs) = suc (count xs)

abbrev pub second : {A B : Type 0} → A × B → B
second p = p.1

abbrev pub pair_then : {A : Type 0} → A × List A → List A
pair_then p = p.0 ∷ p.1

module _ (hs : List Heading) where
  -- what a call's name calls, and what it asks of each argument
  abbrev pub callee_at : Word → Arguments → Callee × List Want
  callee_at w xs = callee hs w.name (count xs)

  abbrev pub wants_at : Word → Arguments → List Want
  wants_at w xs = (callee_at w xs).1

  -- and of each past the last
  abbrev pub past_at : Word → Arguments → Want
  past_at w xs = asked_past (callee_at w xs).0

  -- A call, where `rule` types its arguments by what is asked of each, and of each past the last: 20 at an unknown name, which
  -- stands beside the faults of the arguments; 23 at a call with another number of arguments, 22 or 24 at a variable that
  -- cannot be loaded.
  abbrev pub call_typing : Word → Arguments → Span → (Want → List Want → Typing (List Passed)) → Typing Called
  call_typing w xs s rule = found (call_of s) (both (given (unless_unknown w (callee_at w xs).0)) (rule (past_at w xs) (wants_at w xs)))

module _ (gang : Gang) (hs : List Heading) (ns : List Binding) where
  abbrev mutual
    pub expr_typing : Expr → Typing TExpr
    -- A number has its own type; `programCount` is a number.
    expr_typing (number v s) = exactly (t_constant v s)
    expr_typing (truth b s) = exactly (t_constant (truth_value b) s)
    expr_typing (program_index s) = exactly (t_program_index s)
    expr_typing (program_count s) = exactly (t_constant (count_value gang) s)
    -- A variable and an element have the type they were declared with.
    expr_typing (place p) = made t_place (place_typing p)
    -- A call has the type of its result; 22 at a call without one.
    expr_typing (call w xs s) = found (value_called s) (call_typing hs w xs s (arguments_typing xs))
    -- Brackets keep the type, a cast says it; 22 at the words of a type.
    expr_typing (brackets x s) = made (in_brackets s) (expr_typing x)
    expr_typing (cast t x s) = made (cast_to s) (both (given (value_said t)) (expr_typing x))
    -- Operators convert their operands; the result has the common type, or is a bool.
    expr_typing (prefix op x s) = made (with_sign op s) (expr_typing x)
    expr_typing (binary op x y s) = made (joined op s) (both (expr_typing x) (expr_typing y))
    expr_typing (choose c x y s) = made (choice s) (both (expr_typing c) (both (expr_typing x) (expr_typing y)))

    -- A name is that of a variable which holds a value; before an index it is that of an array: 20 at an unknown name, 22 at an
    -- array where a value is wanted, and at an element of what is no array.
    pub place_typing : Place → Typing TPlace
    place_typing (variable w) = found (variable_at w.span) (given (named ns w))
    place_typing (element w x s) = found (element_at s) (both (given (named ns w)) (expr_typing x))

    -- What an argument is by itself: a name may be that of an array, and a call may be without a result.
    pub argument_typing : Argument → Typing Handed
    argument_typing (by_value (place (variable w))) = made (handed_name w.span) (given (named ns w))
    argument_typing (by_value (call w xs s)) = made handed_call (call_typing hs w xs s (arguments_typing xs))
    argument_typing (by_value x) = made h_value (expr_typing x)
    argument_typing (by_reference (variable w) s) = made (handed_reference w.span) (given (named ns w))
    argument_typing (by_reference (element w x e) s) = made (handed_element w.span) (both (given (named ns w)) (expr_typing x))

    -- Each argument suits what is asked in its place; 22 or 24 at one that does not.
    pub arguments_typing : Arguments → Want → List Want → Typing (List Passed)
    arguments_typing no_arguments past ws = exactly []
    arguments_typing (argument_then x xs) past ws =
        made pair_then (both (found (suits (first_want past ws) (span_of_argument x)) (argument_typing x)) (arguments_typing xs past (rest_of ws)))

  -- a call of this name with these arguments
  abbrev pub call_of_typing : Word → Arguments → Span → Typing Called
  call_of_typing w xs s = call_typing hs w xs s (arguments_typing xs)
