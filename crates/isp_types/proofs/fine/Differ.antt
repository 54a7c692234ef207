-- Names of functions, and of the parameters of one, differ.
use Rattle.std.proofs.Common.{◌≡◌, ℕ, ◌++◌, Bool, true, false, refl, sym, ap, subst, ◌∙◌}
use Rattle.std.specs.Prelude.{Option, List, [], ◌∷◌, map, bytes_eq, is_some, not, ◌&&◌, ◌||◌, Result}
use Rattle.std.specs.List.{list_any}
use Rattle.isp_base.specs.declared.types.Gang.{Gang}
use Rattle.isp_base.specs.declared.types.Ty.{Ty}
use Rattle.isp_lex.specs.declared.fault.Fault.{Fault}
use Rattle.isp_tree.specs.Tree.{Param, Block, Function}
use Rattle.isp_typed.specs.declared.variable.Variable.{Variable}
use Rattle.isp_typed.specs.Typed.{TBlock, TFunction}
use Rattle.isp_typed.specs.Fine.{all_new}
use Rattle.isp_exprs.specs.declared.scope.Binding.{Binding}
use Rattle.isp_exprs.specs.Callees.{Heading, library_named}
use Rattle.isp_types.specs.Functions.{param_variable, param_names, parameter_of, body_typing, functions_typing}

both : (a b : Bool) → a ≡ true → b ≡ true → (a && b) ≡ true
both a b p q = rw (p, q) refl

neither : (a b : Bool) → not (a || b) ≡ true → not b ≡ true
neither true b e = absurd (let no : ⊥ = cc in no)
neither false b e = e

any_named : (w : List ℕ) (ns : List Binding) → list_any (λ (b : Binding). bytes_eq b.name w) ns ≡ list_any (λ n. bytes_eq n w) (map (λ (b : Binding). b.name) ns)
any_named w [] = refl
any_named w (b ∷ ns) = ap (λ z. bytes_eq b.name w || z) (any_named w ns)

named_more : (ns : List Binding) (b : Binding) → map (λ (b : Binding). b.name) (ns ++ b ∷ []) ≡ map (λ (b : Binding). b.name) ns ++ b.name ∷ []
named_more [] b = refl
named_more (c ∷ ns) b = ap (λ z. c.name ∷ z) (named_more ns b)

pub params_differ : (gang : Gang) (hs : List Heading) (answer : Result (Option Ty) Fault) (ns : List Binding) (vars : List Variable) (ps : List Param) (b : Block) (t : TBlock) → (body_typing gang hs answer ns vars ps b).is t
    → all_new (map (λ (b : Binding). b.name) ns) (map (λ p. p.name) (map parameter_of ps)) ≡ true
params_differ gang hs answer ns vars [] b t i = refl
params_differ gang hs answer ns vars (p ∷ ps) b t i =
    let q = i.1.1 in
    let more = param_names ns vars p in
    both _ _ (ap not (sym (any_named p.word.name ns)) ∙ i.0)
    (subst (λ z. all_new z (map (λ p. p.name) (map parameter_of ps)) ≡ true) (named_more ns _)
    (params_differ gang hs answer more (vars ++ param_variable p ∷ []) ps b q.0.1 q.1.1))

pub functions_differ : (gang : Gang) (hs : List Heading) (earlier : List (List ℕ)) (fs : List Function) (gs : List TFunction) → (functions_typing gang hs earlier fs).is gs
    → all_new earlier (map (λ g. g.name) gs) ≡ true
functions_differ gang hs earlier [] gs i = rw i refl
functions_differ gang hs earlier (f ∷ fs) gs i =
    rw (i.2, i.1.0.2) (both _ _ (neither (is_some (library_named f.word.name)) (list_any (λ n. bytes_eq n f.word.name) earlier) i.1.0.1.0) (functions_differ gang hs (earlier ++ f.word.name ∷ []) fs i.0.1 i.1.1))
