-- The verdict of each rule of expressions is right.
use Rattle.std.proofs.Common.{◌≡◌, sym, ap}
use Rattle.std.specs.Prelude.{List, [], Result, Ok, Err}
use Rattle.isp_base.specs.declared.types.Gang.{Gang}
use Rattle.isp_base.specs.declared.types.Span.{Span}
use Rattle.isp_lex.specs.declared.fault.Fault.{Fault}
use Rattle.isp_tree.specs.declared.types.Word.{Word}
use Rattle.isp_tree.specs.Tree.{Expr, number, truth, program_index, program_count, place, call, brackets, cast, prefix, binary, choose, Place, variable, element}
use Rattle.isp_tree.specs.Tree.{Argument, by_value, by_reference, Arguments, no_arguments, argument_then, span_of_argument}
use Rattle.isp_typed.specs.Promise.{Right}
use Rattle.isp_typed.specs.Typed.{TExpr, t_constant, t_program_index, t_place}
use Rattle.isp_typed.proofs.Right.{just_right, given_right, made_right, found_right, both_right}
use Rattle.isp_exprs.specs.declared.scope.Binding.{Binding}
use Rattle.isp_exprs.specs.declared.callee.Want.{Want}
use Rattle.isp_exprs.specs.Typing.{Typing}
use Rattle.isp_exprs.specs.Words.{value_said}
use Rattle.isp_exprs.specs.Scopes.{named}
use Rattle.isp_exprs.specs.Values.{truth_value, count_value, in_brackets, cast_to, with_sign, joined, choice}
use Rattle.isp_exprs.specs.Places.{variable_at, element_at}
use Rattle.isp_exprs.specs.Passing.{h_value, Passed, value_called, handed_call, handed_name, handed_reference, handed_element}
use Rattle.isp_exprs.specs.Callees.{Heading, unless_unknown}
use Rattle.isp_exprs.specs.Calls.{suits, first_want, rest_of, call_of}
use Rattle.isp_exprs.specs.Rules.{callee_at, wants_at, past_at, pair_then, call_typing, call_of_typing, expr_typing, place_typing, argument_typing, arguments_typing}

-- the verdict of a rule is what the rule says, or else its first breach
abbrev pub RightTyping : {A : Type 0} → Typing A → Type 0
RightTyping rule = Right rule.verdict rule.is rule.breach

call_right : (hs : List Heading) (w : Word) (xs : Arguments) (s : Span) (rule : Want → List Want → Typing (List Passed))
    → RightTyping (rule (past_at hs w xs) (wants_at hs w xs)) → RightTyping (call_typing hs w xs s rule)
call_right hs w xs s rule r = found_right (call_of s) _ _ _ (both_right _ _ _ _ _ _ (given_right (unless_unknown w (callee_at hs w xs).0)) r)

module _ (gang : Gang) (hs : List Heading) (ns : List Binding) where
  mutual
    pub expr_right : (x : Expr) → RightTyping (expr_typing gang hs ns x)
    expr_right (number v s) = just_right (t_constant v s)
    expr_right (truth b s) = just_right (t_constant (truth_value b) s)
    expr_right (program_index s) = just_right (t_program_index s)
    expr_right (program_count s) = just_right (t_constant (count_value gang) s)
    expr_right (place p) = made_right t_place _ _ _ (place_right p)
    expr_right (call w xs s) = found_right (value_called s) _ _ _ (call_right hs w xs s (arguments_typing gang hs ns xs) (arguments_right xs (past_at hs w xs) (wants_at hs w xs)))
    expr_right (brackets x s) = made_right (in_brackets s) _ _ _ (expr_right x)
    expr_right (cast t x s) = made_right (cast_to s) _ _ _ (both_right _ _ _ _ _ _ (given_right (value_said t)) (expr_right x))
    expr_right (prefix op x s) = made_right (with_sign op s) _ _ _ (expr_right x)
    expr_right (binary op x y s) = made_right (joined op s) _ _ _ (both_right _ _ _ _ _ _ (expr_right x) (expr_right y))
    expr_right (choose c x y s) = made_right (choice s) _ _ _ (both_right _ _ _ _ _ _ (expr_right c) (both_right _ _ _ _ _ _ (expr_right x) (expr_right y)))

    pub place_right : (p : Place) → RightTyping (place_typing gang hs ns p)
    place_right (variable w) = found_right (variable_at w.span) _ _ _ (given_right (named ns w))
    place_right (element w x s) = found_right (element_at s) _ _ _ (both_right _ _ _ _ _ _ (given_right (named ns w)) (expr_right x))

    pub argument_right : (x : Argument) → RightTyping (argument_typing gang hs ns x)
    argument_right (by_value (place (variable w))) = made_right (handed_name w.span) _ _ _ (given_right (named ns w))
    argument_right (by_value (call w xs s)) = made_right handed_call _ _ _ (call_right hs w xs s (arguments_typing gang hs ns xs) (arguments_right xs (past_at hs w xs) (wants_at hs w xs)))
    argument_right (by_value (number v s)) = made_right h_value _ _ _ (expr_right (number v s))
    argument_right (by_value (truth b s)) = made_right h_value _ _ _ (expr_right (truth b s))
    argument_right (by_value (program_index s)) = made_right h_value _ _ _ (expr_right (program_index s))
    argument_right (by_value (program_count s)) = made_right h_value _ _ _ (expr_right (program_count s))
    argument_right (by_value (brackets x s)) = made_right h_value _ _ _ (expr_right (brackets x s))
    argument_right (by_value (cast t x s)) = made_right h_value _ _ _ (expr_right (cast t x s))
    argument_right (by_value (prefix op x s)) = made_right h_value _ _ _ (expr_right (prefix op x s))
    argument_right (by_value (binary op x y s)) = made_right h_value _ _ _ (expr_right (binary op x y s))
    argument_right (by_value (choose c x y s)) = made_right h_value _ _ _ (expr_right (choose c x y s))
    argument_right (by_value (place (element w x s))) = made_right h_value _ _ _ (expr_right (place (element w x s)))
    argument_right (by_reference (variable w) s) = made_right (handed_reference w.span) _ _ _ (given_right (named ns w))
    argument_right (by_reference (element w x e) s) = made_right (handed_element w.span) _ _ _ (both_right _ _ _ _ _ _ (given_right (named ns w)) (expr_right x))

    arguments_right : (xs : Arguments) (past : Want) (ws : List Want) → RightTyping (arguments_typing gang hs ns xs past ws)
    arguments_right no_arguments past ws = just_right []
    arguments_right (argument_then x xs) past ws = made_right pair_then _ _ _
        (both_right _ _ _ _ _ _ (found_right (suits (first_want past ws) (span_of_argument x)) _ _ _ (argument_right x)) (arguments_right xs past (rest_of ws)))

  pub call_of_right : (w : Word) (xs : Arguments) (s : Span) → RightTyping (call_of_typing gang hs ns w xs s)
  call_of_right w xs s = call_right hs w xs s (arguments_typing gang hs ns xs) (arguments_right xs (past_at hs w xs) (wants_at hs w xs))

  -- where an expression is t, its verdict is t
  pub expr_found : (x : Expr) (t : TExpr) → (expr_typing gang hs ns x).is t → (expr_typing gang hs ns x).verdict ≡ Ok t
  expr_found x t i = is (expr_typing gang hs ns x).verdict (expr_right x)
    where
      is : (v : Result TExpr Fault) → Right v (expr_typing gang hs ns x).is (expr_typing gang hs ns x).breach → v ≡ Ok t
      is (Ok u) r = ap (λ z. Ok z) (sym (r.by.only t i))
      is (Err e) r = absurd (r.by.nothing t i)
