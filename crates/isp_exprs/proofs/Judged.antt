-- The verdicts on an argument and on a call.
use Rattle.std.proofs.Common.{◌≡◌, ℕ, suc, refl, sym, ap, ◌∙◌}
use Rattle.std.proofs.lemmas.Bool.{false≢true}
use Rattle.std.specs.Prelude.{List, [], ◌∷◌, length, Bool, true, false, Result}
use Rattle.isp_base.specs.declared.types.Gang.{Gang}
use Rattle.isp_base.specs.declared.types.Span.{Span}
use Rattle.isp_lex.specs.declared.fault.Fault.{Fault}
use Rattle.isp_tree.specs.declared.types.Word.{Word}
use Rattle.isp_tree.specs.declared.expr.Argument as rust_argument
use Rattle.isp_tree.specs.Tree.{Expr, number, truth, program_index, program_count, place, call, brackets, cast, prefix, binary, choose, variable, element, by_value, listed}
use Rattle.isp_tree.specs.Views.{arguments_of}
use Rattle.isp_typed.specs.Verdicts.{both, found, made}
use Rattle.isp_exprs.specs.declared.scope.Binding.{Binding}
use Rattle.isp_exprs.specs.declared.callee.Callee.{Callee}
use Rattle.isp_exprs.specs.declared.callee.Want.{Want}
use Rattle.isp_exprs.specs.Passing.{Handed, Passed, h_value}
use Rattle.isp_exprs.specs.Callees.{Heading, callee, asked_past, unless_unknown}
use Rattle.isp_exprs.specs.Calls.{call_of, suits}
use Rattle.isp_exprs.specs.Rules.{count, call_of_typing, expr_typing, argument_typing, arguments_typing}

pub suits_is : (w want : Want) (s span : Span) (h handed : Result Handed Fault) → w ≡ want → s ≡ span → h ≡ handed → found (suits w s) h ≡ found (suits want span) handed
suits_is w want s span h handed a b c =
    ap (λ (z : Want). found (suits z s) h) a ∙ (ap (λ (z : Span). found (suits want z) h) b ∙ ap (λ (z : Result Handed Fault). found (suits want span) z) c)

count_is : (xs : List rust_argument.Argument) → count (listed (arguments_of xs)) ≡ length xs
count_is [] = refl
count_is (x ∷ xs) = ap suc (count_is xs)

pub call_is : (gang : Gang) (hs : List Heading) (ns : List Binding) (w : Word) (xs : List rust_argument.Argument) (s : Span) (c : Callee) (past : Want) (ws : List Want) (known : Result Callee Fault) (passed : Result (List Passed) Fault)
    → ◌≡◌ {A = Callee × List Want} (c, ws) (callee hs w.name (length xs))
    → past ≡ asked_past c
    → passed ≡ (arguments_typing gang hs ns (listed (arguments_of xs)) past ws).verdict
    → known ≡ unless_unknown w c
    → found (call_of s) (both known passed) ≡ (call_of_typing gang hs ns w (listed (arguments_of xs)) s).verdict
call_is gang hs ns w xs s c past ws known passed k a p u =
    ap (λ (z : Result Callee Fault). found (call_of s) (both z passed)) u
    ∙ (ap (λ (z : Result (List Passed) Fault). found (call_of s) (both (unless_unknown w c) z)) (p ∙ ap (λ (z : Want). (arguments_typing gang hs ns (listed (arguments_of xs)) z ws).verdict) a)
    ∙ (ap (λ (z : Callee × List Want). found (call_of s) (both (unless_unknown w z.0) (arguments_typing gang hs ns (listed (arguments_of xs)) (asked_past z.0) z.1).verdict)) k
    ∙ ap (λ (n : ℕ). found (call_of s) (both (unless_unknown w (callee hs w.name n).0) (arguments_typing gang hs ns (listed (arguments_of xs)) (asked_past (callee hs w.name n).0) (callee hs w.name n).1).verdict)) (sym (count_is xs))))

-- neither a name nor a call, so as an argument it is its value
abbrev pub is_plain : Expr → Bool
is_plain (place (variable w)) = false
is_plain (call w xs s) = false
is_plain x = true

pub plain_is : (gang : Gang) (hs : List Heading) (ns : List Binding) (x : Expr) → is_plain x ≡ true
    → (argument_typing gang hs ns (by_value x)).verdict ≡ made h_value (expr_typing gang hs ns x).verdict
plain_is gang hs ns (number v s) e = refl
plain_is gang hs ns (truth b s) e = refl
plain_is gang hs ns (program_index s) e = refl
plain_is gang hs ns (program_count s) e = refl
plain_is gang hs ns (place (variable w)) e = absurd (false≢true e)
plain_is gang hs ns (place (element w x s)) e = refl
plain_is gang hs ns (call w xs s) e = absurd (false≢true e)
plain_is gang hs ns (brackets x s) e = refl
plain_is gang hs ns (cast t x s) e = refl
plain_is gang hs ns (prefix op x s) e = refl
plain_is gang hs ns (binary op x y s) e = refl
plain_is gang hs ns (choose c x y s) e = refl
