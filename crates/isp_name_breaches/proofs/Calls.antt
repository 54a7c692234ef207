-- What the walk pushes for a call, and for a node of its own after its parts.
use Rattle.std.proofs.Common.{◌≡◌, ℕ, suc, ◌++◌, refl, sym, ap, ◌∙◌}
use Rattle.std.specs.Prelude.{List, [], ◌∷◌, length, Option, Some, Result, Ok, Err, ⊤}
use Rattle.std.specs.Result.{IfOk}
use Rattle.isp_base.specs.declared.types.Gang.{Gang}
use Rattle.isp_base.specs.declared.types.Span.{Span}
use Rattle.isp_lex.specs.declared.fault.Fault.{Fault}
use Rattle.isp_tree.specs.declared.types.Word.{Word}
use Rattle.isp_tree.specs.declared.expr.Argument as rust_argument
use Rattle.isp_tree.specs.Tree.{listed}
use Rattle.isp_tree.specs.Views.{arguments_of}
use Rattle.isp_exprs.specs.declared.scope.Binding.{Binding}
use Rattle.isp_exprs.specs.declared.callee.Callee.{Callee}
use Rattle.isp_exprs.specs.declared.callee.Want.{Want}
use Rattle.isp_exprs.specs.Callees.{Heading, callee, asked_past, unless_unknown}
use Rattle.isp_exprs.specs.Rules.{count, callee_at, wants_at, past_at, call_of_typing}
use Rattle.isp_exprs.specs.reader.Lists.{fault_of}
use Rattle.isp_name_breaches.specs.reader.Exprs.{refusal, own, arguments_faults, call_of_faults}

-- after the parts of a node, which begin at a place, comes its own fault or none
pub own_told : {E : Type 0} (r : Result ⊤ E) (before : ℕ) (old new : List Fault) (f : Fault) (seen here total : List Fault)
    → IfOk r (λ u. (xs ys : List Fault) → length xs ≡ before → old ≡ xs ++ ys → new ≡ xs ++ own ys (Some f))
    → length seen ≡ before → old ≡ seen ++ here → own here (Some f) ≡ total → IfOk r (λ u. new ≡ seen ++ total)
own_told (Ok u) before old new f seen here total h l e t = h seen here l e ∙ ap (λ (z : List Fault). seen ++ z) t
own_told (Err e) before old new f seen here total h l e' t = tt

count_is : (xs : List rust_argument.Argument) → count (listed (arguments_of xs)) ≡ length xs
count_is [] = refl
count_is (x ∷ xs) = ap suc (count_is xs)

module _ (gang : Gang) (hs : List Heading) (ns : List Binding) where
  -- the faults of a call, of what the code finds for its name
  pub call_told : (w : Word) (xs : List rust_argument.Argument) (s : Span) (c : Callee) (past : Want) (ws : List Want) (known : Result Callee Fault) (o : Option Fault) (f : Fault)
      → ◌≡◌ {A = Callee × List Want} (c, ws) (callee hs w.name (length xs))
      → past ≡ asked_past c
      → known ≡ unless_unknown w c
      → o ≡ fault_of (call_of_typing gang hs ns w (listed (arguments_of xs)) s).verdict
      → o ≡ Some f
      → own (refusal known ++ arguments_faults gang hs ns past ws (listed (arguments_of xs))) (Some f) ≡ call_of_faults gang hs ns w (listed (arguments_of xs)) s
  call_told w xs s c past ws known o f k a u d e =
      let ys = listed (arguments_of xs) in
      ap (λ (z : Result Callee Fault). own (refusal z ++ arguments_faults gang hs ns past ws ys) (Some f)) u
      ∙ (ap (λ (z : Want). own (refusal (unless_unknown w c) ++ arguments_faults gang hs ns z ws ys) (Some f)) a
      ∙ (ap (λ (z : Callee × List Want). own (refusal (unless_unknown w z.0) ++ arguments_faults gang hs ns (asked_past z.0) z.1 ys) (Some f)) k
      ∙ (ap (λ (n : ℕ). own (refusal (unless_unknown w (callee hs w.name n).0) ++ arguments_faults gang hs ns (asked_past (callee hs w.name n).0) (callee hs w.name n).1 ys) (Some f)) (sym (count_is xs))
      ∙ ap (λ (z : Option Fault). own (refusal (unless_unknown w (callee_at hs w ys).0) ++ arguments_faults gang hs ns (past_at hs w ys) (wants_at hs w ys) ys) z) (sym e ∙ d))))
