-- Every expression that names and types accept is fine.
use Rattle.std.proofs.Common.{◌≡◌, suc, refl, sym, ap, subst}
use Rattle.std.specs.Prelude.{List, length, Ok}
use Rattle.isp_base.specs.declared.types.Gang.{Gang}
use Rattle.isp_base.specs.declared.types.Span.{Span}
use Rattle.isp_tree.specs.declared.types.Word.{Word}
use Rattle.isp_tree.specs.Sound.{InText, IsSoundExpr, IsSoundPlace, IsSoundArgument, AreSoundArguments}
use Rattle.isp_tree.specs.Tree.{Expr, number, truth, program_index, program_count, place, call, brackets, cast, prefix, binary, choose, Place, variable, element}
use Rattle.isp_tree.specs.Tree.{Argument, by_value, by_reference, Arguments, no_arguments, argument_then, span_of_argument}
use Rattle.isp_typed.specs.declared.variable.Variable.{Variable}
use Rattle.isp_typed.specs.Typed.{TExpr, TPlace, TFunction}
use Rattle.isp_typed.specs.Fine.{FinePlace}
use Rattle.isp_exprs.specs.declared.callee.Callee.{Callee}
use Rattle.isp_exprs.specs.declared.callee.Callee.TheVariants as callees
use Rattle.isp_exprs.specs.declared.callee.Want.{Want}
use Rattle.isp_exprs.specs.declared.scope.Binding.{Binding}
use Rattle.isp_exprs.specs.Values.{joining}
use Rattle.isp_exprs.specs.Passing.{Handed, Passed, Called}
use Rattle.isp_exprs.specs.Callees.{Heading, unless_unknown}
use Rattle.isp_exprs.specs.Calls.{first_want, rest_of}
use Rattle.isp_exprs.specs.Typing.{Typing}
use Rattle.isp_exprs.specs.Rules.{count, callee_at, wants_at, past_at, call_typing, call_of_typing, expr_typing, place_typing, argument_typing, arguments_typing}
use Rattle.isp_types.proofs.fine.Names.{InScope, named_is}
use Rattle.isp_types.proofs.fine.Callees.{Headed, Fits, callee_fits}
use Rattle.isp_types.proofs.fine.Values.{BareExpr, truth_fine, count_fine, cast_fine, sign_fine, joined_fine, choice_fine}
use Rattle.isp_types.proofs.fine.Passed.{ok_is, no_ok, place_known, element_known, FineHanded, handed_known, suits_fine}
use Rattle.isp_types.proofs.fine.Calls.{AllSuited, FineCalled, value_fine, handed_fine, call_fine}

-- what is called, where it is known, is what the name calls
unless_is : (w : Word) (c d : Callee) → unless_unknown w c ≡ Ok d → c ≡ d
unless_is w (callees.Function k r) d e = ok_is _ d e
unless_is w (callees.Library f) d e = ok_is _ d e
unless_is w callees.PackedStore d e = ok_is _ d e
unless_is w callees.PackedLoad d e = ok_is _ d e
unless_is w (callees.Miscounted packed) d e = ok_is _ d e
unless_is w callees.Unknown d e = absurd (no_ok e)

module _ (gang : Gang) (hs : List Heading) (gs : List TFunction) (all : List Variable) (ns : List Binding) (headed : Headed hs gs) (scope : InScope all ns) where
  -- a call whose arguments are fine
  made_fine : (w : Word) (xs : Arguments) (s : Span) → InText s → (rule : Want → List Want → Typing (List Passed))
      → ((ps : List Passed) → (rule (past_at hs w xs) (wants_at hs w xs)).is ps → AllSuited hs gs all (past_at hs w xs) (wants_at hs w xs) ps × (length ps ≡ count xs))
      → (r : Called) → (call_typing hs w xs s rule).is r → FineCalled hs gs all r
  made_fine w xs s i rule fine r p =
      let is = unless_is w (callee_at hs w xs).0 p.0.0 p.1.0 in
      let f = fine p.0.1 p.1.1 in
      call_fine hs gs all s i headed (count xs) p.0.0 (wants_at hs w xs) (subst (λ c. Fits hs (count xs) c (wants_at hs w xs)) is (callee_fits hs w.name (count xs))) (past_at hs w xs) p.0.1 f.0 f.1 r p.2

  mutual
    pub expr_fine : (x : Expr) → IsSoundExpr x → (t : TExpr) → (expr_typing gang hs ns x).is t → BareExpr gs all t
    expr_fine (number v s) h t i = subst (BareExpr gs all) (sym i) (h.0, refl)
    expr_fine (truth b s) h t i = subst (BareExpr gs all) (sym i) (truth_fine gs all b s, refl)
    expr_fine (program_index s) h t i = subst (BareExpr gs all) (sym i) (tt, refl)
    expr_fine (program_count s) h t i = subst (BareExpr gs all) (sym i) (count_fine gs all gang, refl)
    expr_fine (place p) h t i = subst (BareExpr gs all) (sym i.2) (place_fine p h i.0 i.1, refl)
    expr_fine (call w xs s) h t i = value_fine hs gs all s i.0 (made_fine w xs s h.2 (arguments_typing gang hs ns xs) (λ ps. arguments_fine xs (past_at hs w xs) (wants_at hs w xs) h.1 ps) i.0 i.1) t i.2
    expr_fine (brackets x s) h t i = subst (BareExpr gs all) (sym i.2) (((expr_fine x h.0 i.0 i.1).0, refl), refl)
    expr_fine (cast k x s) h t i = subst (BareExpr gs all) (sym i.2) (cast_fine gs all s i.0.0 i.0.1 (expr_fine x h.1 i.0.1 i.1.1))
    expr_fine (prefix op x s) h t i = subst (BareExpr gs all) (sym i.2) (sign_fine gs all op s i.0 (expr_fine x h.0 i.0 i.1))
    expr_fine (binary op x y s) h t i =
        subst (BareExpr gs all) (sym i.2) (joined_fine gs all s h.2 i.0.0 i.0.1 (expr_fine x h.0 i.0.0 i.1.0) (expr_fine y h.1 i.0.1 i.1.1) (joining op))
    expr_fine (choose c x y s) h t i =
        subst (BareExpr gs all) (sym i.2) (choice_fine gs all s i.0.0 i.0.1.0 i.0.1.1 (expr_fine c h.0 i.0.0 i.1.0) (expr_fine x h.1 i.0.1.0 i.1.1.0) (expr_fine y h.2 i.0.1.1 i.1.1.1))

    pub place_fine : (p : Place) → IsSoundPlace p → (t : TPlace) → (place_typing gang hs ns p).is t → FinePlace gs all t
    place_fine (variable w) h t i = place_known gs all w.span i.0 (named_is all ns scope w i.0 i.1) t i.2
    place_fine (element w x s) h t i = element_known gs all s h.2 i.0.0 (named_is all ns scope w i.0.0 i.1.0) i.0.1 (expr_fine x h.1 i.0.1 i.1.1).0 t i.2

    argument_fine : (x : Argument) → IsSoundArgument x → (t : Handed) → (argument_typing gang hs ns x).is t → FineHanded gs all t
    argument_fine (by_value (place (variable w))) h t i = subst (FineHanded gs all) (sym i.2) (handed_known gs all w.span i.0 (named_is all ns scope w i.0 i.1))
    argument_fine (by_value (call w xs s)) h t i =
        subst (FineHanded gs all) (sym i.2) (handed_fine hs gs all i.0 (made_fine w xs s h.2 (arguments_typing gang hs ns xs) (λ ps. arguments_fine xs (past_at hs w xs) (wants_at hs w xs) h.1 ps) i.0 i.1))
    argument_fine (by_value x) h t i = subst (FineHanded gs all) (sym i.2) (expr_fine x h i.0 i.1)
    argument_fine (by_reference (variable w) s) h t i = subst (FineHanded gs all) (sym i.2) (named_is all ns scope w i.0 i.1)
    argument_fine (by_reference (element w x e) s) h t i =
        subst (FineHanded gs all) (sym i.2) (named_is all ns scope w i.0.0 i.1.0, (expr_fine x h.0.1 i.0.1 i.1.1).0)

    arguments_fine : (xs : Arguments) (past : Want) (ws : List Want) → AreSoundArguments xs → (ps : List Passed) → (arguments_typing gang hs ns xs past ws).is ps
        → AllSuited hs gs all past ws ps × (length ps ≡ count xs)
    arguments_fine no_arguments past ws h ps i = rw i (tt, refl)
    arguments_fine (argument_then x xs) past ws h ps i =
        let one = i.1.0 in
        let later = arguments_fine xs past (rest_of ws) h.1 i.0.1 i.1.1 in
        rw i.2 ((suits_fine gs all (first_want past ws) (span_of_argument x) one.0 (argument_fine x h.0 one.0 one.1) i.0.0 one.2, later.0), ap suc later.1)

  pub call_of_fine : (w : Word) (xs : Arguments) (s : Span) → AreSoundArguments xs → InText s → (r : Called) → (call_of_typing gang hs ns w xs s).is r → FineCalled hs gs all r
  call_of_fine w xs s h i r p = made_fine w xs s i (arguments_typing gang hs ns xs) (λ ps. arguments_fine xs (past_at hs w xs) (wants_at hs w xs) h ps) r p
