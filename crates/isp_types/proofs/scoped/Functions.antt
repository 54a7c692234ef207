-- Every program that names and types accept is scoped.
use Rattle.std.proofs.Common.{◌≡◌, ℕ, ◌++◌, true, refl, sym, ap, subst, ◌∙◌, arith, length-append, ltb-true}
use Rattle.std.specs.Prelude.{Option, List, [], ◌∷◌, length, map, nat_lt, Result, Ok}
use Rattle.std.specs.List.{All}
use Rattle.std.proofs.lemmas.Bool.{lt-ltb}
use Rattle.std.proofs.lemmas.List.{length-map}
use Rattle.std.proofs.lemmas.List.Elements.{All-cons, All-head, All-tail}
use Rattle.isp_base.specs.declared.types.Gang.{Gang}
use Rattle.isp_base.specs.declared.types.Ty.{Ty}
use Rattle.isp_lex.specs.Lexing.{IsWord}
use Rattle.isp_lex.specs.declared.fault.Fault.{Fault}
use Rattle.isp_tree.specs.Sound.{IsSoundBlock, IsSoundParam, IsSoundFunction, IsSound}
use Rattle.isp_tree.specs.Tree.{Param, Block, Function}
use Rattle.isp_typed.specs.declared.variable.Variable.{Variable}
use Rattle.isp_typed.specs.Scoped.{Scope, BlockAt, number_after_block, ScopedFunction, IsScoped}
use Rattle.isp_typed.specs.Typed.{TBlock, TFunction, Program}
use Rattle.isp_exprs.specs.declared.scope.Known.{Known}
use Rattle.isp_exprs.specs.declared.scope.Binding.{Binding}
use Rattle.isp_exprs.specs.Words.{value_said}
use Rattle.isp_exprs.specs.Scopes.{with_name}
use Rattle.isp_exprs.specs.Callees.{Heading}
use Rattle.isp_types.specs.Numbering.{block_variables}
use Rattle.isp_types.specs.Functions.{param_variable, param_names, params_names, parameter_of, heading, param_span, body_typing, function_typing, functions_typing, IsProgram}
use Rattle.isp_types.proofs.Meanings.{none_known, known_mapped, known_added}
use Rattle.isp_types.proofs.fine.Simples.{no_all}
use Rattle.isp_types.proofs.fine.Functions.{params_after, params_are, declared_is}
use Rattle.isp_types.proofs.scoped.Names.{IsIn, AllIn}
use Rattle.isp_types.proofs.scoped.Stmts.{BlockDone, block_scoped}

-- the first so many variables
abbrev below : ℕ → Scope
below n = λ x. nat_lt x n

longer : (vars : List Variable) (x : Variable) (k : ℕ) → below (length vars) k ≡ true → below (length (vars ++ x ∷ [])) k ≡ true
longer vars x k e = lt-ltb k (length (vars ++ x ∷ [])) (omega (arith, ltb-true k (length vars) e, length-append vars (x ∷ [])))

last_below : (vars : List Variable) (x : Variable) → below (length (vars ++ x ∷ [])) (length vars) ≡ true
last_below vars x = lt-ltb (length vars) (length (vars ++ x ∷ [])) (omega (arith, length-append vars (x ∷ [])))

param_added : (ns : List Binding) (vars : List Variable) (w : List ℕ) (x : Variable) → AllIn (below (length vars)) ns → AllIn (below (length (vars ++ x ∷ []))) (with_name ns vars w (Ok x))
param_added ns vars w x scope =
    known_added (IsIn (below (length (vars ++ x ∷ [])))) ns vars w x
    (known_mapped (IsIn (below (length vars))) (IsIn (below (length (vars ++ x ∷ [])))) (λ (k : Known). longer vars x k.number) ns scope) (last_below vars x)

module _ (gang : Gang) (hs : List Heading) (answer : Result (Option Ty) Fault) where
  body_scoped : (ns : List Binding) (vars : List Variable) (ps : List Param) (b : Block) → IsSoundBlock b → AllIn (below (length vars)) ns → (t : TBlock) → (body_typing gang hs answer ns vars ps b).is t
      → BlockDone (below (length (params_after vars ps))) (length (params_after vars ps)) (block_variables gang hs (params_names ns vars ps) (params_after vars ps) b) t
  body_scoped ns vars [] b h scope t i = block_scoped gang hs answer (below (length vars)) ns 0 vars (length vars) b h scope refl t i
  body_scoped ns vars (p ∷ ps) b h scope t i =
      let q = i.1.1 in
      let inner = param_names ns vars p in
      let more = vars ++ param_variable p ∷ [] in
      let known : AllIn (below (length more)) inner =
      subst (λ r. AllIn (below (length more)) (with_name ns vars p.word.name r)) (sym (declared_is (value_said p.ty) q.0.0 (param_variable p) q.1.0)) (param_added ns vars p.word.name (param_variable p) scope) in
      subst (BlockDone (below (length (params_after more ps))) (length (params_after more ps)) (block_variables gang hs (params_names inner more ps) (params_after more ps) b)) (sym q.2) (body_scoped inner more ps b h known q.0.1 q.1.1)

-- the names of parameters are words
param_words : (ps : List Param) → All IsSoundParam ps → All (λ p. IsWord p.name) (map parameter_of ps)
param_words [] h = no_all (λ p. IsWord p.name)
param_words (p ∷ ps) h = All-cons (λ p. IsWord p.name) (parameter_of p) (map parameter_of ps) (All-head IsSoundParam p ps h).word.word (param_words ps (All-tail IsSoundParam p ps h))

params_counted : (ps : List Param) → length (params_after [] ps) ≡ length (map param_span ps)
params_counted ps = ap length (params_are [] ps) ∙ (length-map ps param_variable ∙ sym (length-map ps param_span))

module _ (gang : Gang) (hs : List Heading) where
  function_scoped : (earlier : List (List ℕ)) (f : Function) → IsSoundFunction f → (g : TFunction) → (function_typing gang hs earlier f).is g → ScopedFunction g
  function_scoped earlier f h g i =
      let ps = f.params in
      let done = body_scoped gang hs _ [] [] ps f.body h.body (none_known (IsIn (below 0))) i.0.1 i.1.1.1 in
      subst ScopedFunction (sym i.2) (record {
        body = subst (λ n. BlockAt (below n) n i.0.1) (params_counted ps) done.0;
        all = subst (λ n. number_after_block n i.0.1 ≡ length (block_variables gang hs (params_names [] [] ps) (params_after [] ps) f.body)) (params_counted ps) done.1
            ∙ ap (λ vars. length (block_variables gang hs (params_names [] [] ps) vars f.body)) (params_are [] ps);
        name = h.word.word;
        words = param_words ps h.params;
      })

  functions_scoped : (earlier : List (List ℕ)) (fs : List Function) → All IsSoundFunction fs → (ts : List TFunction) → (functions_typing gang hs earlier fs).is ts → All ScopedFunction ts
  functions_scoped earlier [] h ts i = subst (All ScopedFunction) (sym i) (no_all ScopedFunction)
  functions_scoped earlier (f ∷ fs) h ts i = subst (All ScopedFunction) (sym i.2)
      (All-cons ScopedFunction i.0.0 i.0.1 (function_scoped earlier f (All-head IsSoundFunction f fs h) i.0.0 i.1.0) (functions_scoped (earlier ++ f.word.name ∷ []) fs (All-tail IsSoundFunction f fs h) i.0.1 i.1.1))

pub program_scoped : (gang : Gang) (fs : List Function) (p : Program) → IsSound fs → IsProgram gang fs p → IsScoped p
program_scoped gang fs p h i = subst IsScoped (sym i.2) (record { each = functions_scoped gang (map heading fs) [] fs h.each i.0 i.1 })
