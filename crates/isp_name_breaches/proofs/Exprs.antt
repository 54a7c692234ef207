-- The faults of an expression are its breaches.
use Rattle.std.proofs.Common.{◌≡◌, sym, ◌∙◌}
use Rattle.std.specs.Prelude.{List, [], Option, None}
use Rattle.isp_base.specs.declared.types.Gang.{Gang}
use Rattle.isp_base.specs.declared.types.Span.{Span}
use Rattle.isp_lex.specs.declared.fault.Fault.{Fault}
use Rattle.isp_tree.specs.declared.types.Word.{Word}
use Rattle.isp_tree.specs.Tree.{Expr, number, truth, program_index, program_count, place, call, brackets, cast, prefix, binary, choose, Place, variable, element}
use Rattle.isp_tree.specs.Tree.{Argument, by_value, by_reference, Arguments, no_arguments, argument_then, span_of_argument}
use Rattle.isp_typed.specs.Typed.{t_place}
use Rattle.isp_typed.specs.Verdicts.{found}
use Rattle.isp_typed.proofs.Right.{just_right, given_right, made_right, found_right, both_right}
use Rattle.isp_exprs.specs.declared.scope.Binding.{Binding}
use Rattle.isp_exprs.specs.declared.callee.Want.{Want}
use Rattle.isp_exprs.specs.Words.{value_said}
use Rattle.isp_exprs.specs.Scopes.{named}
use Rattle.isp_exprs.specs.Places.{variable_at, element_at}
use Rattle.isp_exprs.specs.Passing.{value_called}
use Rattle.isp_exprs.specs.Callees.{Heading, unless_unknown}
use Rattle.isp_exprs.specs.Calls.{suits, first_want, rest_of, call_of}
use Rattle.isp_exprs.specs.Rules.{callee_at, wants_at, past_at, pair_then, call_of_typing, expr_typing, place_typing, argument_typing, arguments_typing}
use Rattle.isp_exprs.specs.reader.Lists.{fault_of}
use Rattle.isp_exprs.proofs.Exprs.{RightTyping, expr_right, argument_right, call_of_right}
use Rattle.isp_name_breaches.specs.reader.Exprs.{expr_faults, call_faults, argument_faults, arguments_faults, passed_faults, call_of_faults}
use Rattle.isp_name_breaches.proofs.Listed.{Lists, none_lists, refusal_lists, either_lists, own_lists, made_lists, sound_lists}

module _ (gang : Gang) (hs : List Heading) (ns : List Binding) where
  arguments_right : (xs : Arguments) (past : Want) (ws : List Want) → RightTyping (arguments_typing gang hs ns xs past ws)
  arguments_right no_arguments past ws = just_right []
  arguments_right (argument_then x xs) past ws = made_right pair_then _ _ _
      (both_right _ _ _ _ _ _ (found_right (suits (first_want past ws) (span_of_argument x)) _ _ _ (argument_right gang hs ns x)) (arguments_right xs past (rest_of ws)))

  call_lists : (w : Word) (xs : Arguments) (s : Span) (fs : List Fault) → Lists fs (arguments_typing gang hs ns xs (past_at hs w xs) (wants_at hs w xs)).breach
      → Lists (call_faults gang hs ns w xs s fs) (call_of_typing gang hs ns w xs s).breach
  call_lists w xs s fs l = own_lists (call_of s) _ _ _ _
      (either_lists _ _ _ _ (refusal_lists (unless_unknown w (callee_at hs w xs).0)) l)
      (both_right _ _ _ _ _ _ (given_right (unless_unknown w (callee_at hs w xs).0)) (arguments_right xs (past_at hs w xs) (wants_at hs w xs)))

  mutual
    pub expr_lists : (x : Expr) → Lists (expr_faults gang hs ns x) (expr_typing gang hs ns x).breach
    expr_lists (number v s) = none_lists
    expr_lists (truth b s) = none_lists
    expr_lists (program_index s) = none_lists
    expr_lists (program_count s) = none_lists
    expr_lists (place p) = place_lists p
    expr_lists (call w xs s) = own_lists (value_called s) _ _ _ _ (call_lists w xs s _ (arguments_lists xs (past_at hs w xs) (wants_at hs w xs))) (call_of_right gang hs ns w xs s)
    expr_lists (brackets x s) = expr_lists x
    expr_lists (cast t x s) = either_lists _ _ _ _ (refusal_lists (value_said t)) (expr_lists x)
    expr_lists (prefix op x s) = expr_lists x
    expr_lists (binary op x y s) = either_lists _ _ _ _ (expr_lists x) (expr_lists y)
    expr_lists (choose c x y s) = either_lists _ _ _ _ (expr_lists c) (either_lists _ _ _ _ (expr_lists x) (expr_lists y))

    place_lists : (p : Place) → Lists (expr_faults gang hs ns (place p)) (place_typing gang hs ns p).breach
    place_lists (variable w) = made_lists t_place _ _ _ (own_lists (variable_at w.span) _ _ _ _ (refusal_lists (named ns w)) (given_right (named ns w)))
    place_lists (element w x s) = made_lists t_place _ _ _ (own_lists (element_at s) _ _ _ _
        (either_lists _ _ _ _ (refusal_lists (named ns w)) (expr_lists x)) (both_right _ _ _ _ _ _ (given_right (named ns w)) (expr_right gang hs ns x)))

    pub argument_lists : (x : Argument) → Lists (argument_faults gang hs ns x) (argument_typing gang hs ns x).breach
    argument_lists (by_value (place (variable w))) = refusal_lists (named ns w)
    argument_lists (by_value (call w xs s)) = call_lists w xs s _ (arguments_lists xs (past_at hs w xs) (wants_at hs w xs))
    argument_lists (by_value (number v s)) = expr_lists (number v s)
    argument_lists (by_value (truth b s)) = expr_lists (truth b s)
    argument_lists (by_value (program_index s)) = expr_lists (program_index s)
    argument_lists (by_value (program_count s)) = expr_lists (program_count s)
    argument_lists (by_value (brackets x s)) = expr_lists (brackets x s)
    argument_lists (by_value (cast t x s)) = expr_lists (cast t x s)
    argument_lists (by_value (prefix op x s)) = expr_lists (prefix op x s)
    argument_lists (by_value (binary op x y s)) = expr_lists (binary op x y s)
    argument_lists (by_value (choose c x y s)) = expr_lists (choose c x y s)
    argument_lists (by_value (place (element w x s))) = expr_lists (place (element w x s))
    argument_lists (by_reference (variable w) s) = refusal_lists (named ns w)
    argument_lists (by_reference (element w x e) s) = either_lists _ _ _ _ (refusal_lists (named ns w)) (expr_lists x)

    arguments_lists : (xs : Arguments) (past : Want) (ws : List Want) → Lists (arguments_faults gang hs ns past ws xs) (arguments_typing gang hs ns xs past ws).breach
    arguments_lists no_arguments past ws = none_lists
    arguments_lists (argument_then x xs) past ws =
        either_lists _ _ _ _ (own_lists (suits (first_want past ws) (span_of_argument x)) _ _ _ _ (argument_lists x) (argument_right gang hs ns x)) (arguments_lists xs past (rest_of ws))

  pub call_of_lists : (w : Word) (xs : Arguments) (s : Span) → Lists (call_of_faults gang hs ns w xs s) (call_of_typing gang hs ns w xs s).breach
  call_of_lists w xs s = call_lists w xs s _ (arguments_lists xs (past_at hs w xs) (wants_at hs w xs))

  -- ---- where the checker finds something, there is no fault

  pub expr_sound : (x : Expr) (o : Option Fault) → o ≡ fault_of (expr_typing gang hs ns x).verdict → o ≡ None → expr_faults gang hs ns x ≡ []
  expr_sound x o e n = sound_lists _ _ _ _ (expr_lists x) (expr_right gang hs ns x) (sym e ∙ n)

  pub call_sound : (w : Word) (xs : Arguments) (s : Span) (o : Option Fault) → o ≡ fault_of (call_of_typing gang hs ns w xs s).verdict → o ≡ None → call_of_faults gang hs ns w xs s ≡ []
  call_sound w xs s o e n = sound_lists _ _ _ _ (call_of_lists w xs s) (call_of_right gang hs ns w xs s) (sym e ∙ n)

  pub passed_sound : (want : Want) (x : Argument) (o : Option Fault) → o ≡ fault_of (found (suits want (span_of_argument x)) (argument_typing gang hs ns x).verdict) → o ≡ None → passed_faults gang hs ns want x ≡ []
  passed_sound want x o e n = sound_lists _ _ _ _
      (own_lists (suits want (span_of_argument x)) _ _ _ _ (argument_lists x) (argument_right gang hs ns x)) (found_right (suits want (span_of_argument x)) _ _ _ (argument_right gang hs ns x)) (sym e ∙ n)
