-- The faults of a program are its breaches.
use Rattle.std.proofs.Common.{◌≡◌, sym, subst, append_assoc}
use Rattle.std.specs.Prelude.{ℕ, List, [], ◌∷◌, ◌++◌, map, Option, Result}
use Rattle.isp_base.specs.declared.types.Gang.{Gang}
use Rattle.isp_base.specs.declared.types.Ty.{Ty}
use Rattle.isp_lex.specs.declared.fault.Fault.{Fault}
use Rattle.isp_lex.specs.declared.fault.Rule.TheVariants.{NameTwice, Mismatch}
use Rattle.isp_lex.specs.Faults.{fault}
use Rattle.isp_tree.specs.Tree.{Param, Block, Function}
use Rattle.isp_typed.specs.declared.variable.Variable.{Variable}
use Rattle.isp_exprs.specs.declared.scope.Binding.{Binding}
use Rattle.isp_exprs.specs.Words.{value_said, answer_said}
use Rattle.isp_exprs.specs.Scopes.{is_new}
use Rattle.isp_exprs.specs.Callees.{Heading}
use Rattle.isp_types.specs.Functions.{param_variable, param_names, params_names, param_fits, heading, is_free, body_typing, function_typing, functions_typing, Breach}
use Rattle.isp_name_breaches.specs.reader.Exprs.{refusal, unmet}
use Rattle.isp_name_breaches.specs.reader.Stmts.{twice, block_faults}
use Rattle.isp_name_breaches.specs.reader.Programs.{parameters_faults, params_variables, inside_faults, functions_faults, program_faults}
use Rattle.isp_name_breaches.proofs.Listed.{Lists, none_lists, refusal_lists, either_lists, unless_lists}
use Rattle.isp_name_breaches.proofs.Stmts.{block_lists}

-- the parts of a parameter, one after another
regrouped : (a b c d e : List Fault) → ((a ++ (b ++ c)) ++ d) ++ e ≡ a ++ (b ++ (c ++ (d ++ e)))
regrouped a b c d e = simp append_assoc

module _ (gang : Gang) (hs : List Heading) where
  body_lists : (answer : Result (Option Ty) Fault) (ns : List Binding) (vars : List Variable) (ps : List Param) (b : Block)
      → Lists (parameters_faults ns vars ps ++ block_faults gang hs answer (params_names ns vars ps) 0 (params_variables vars ps) b) (body_typing gang hs answer ns vars ps b).breach
  body_lists answer ns vars [] b = block_lists gang hs answer ns 0 vars b
  body_lists answer ns vars (p ∷ ps) b =
      let after = param_names ns vars p in
      let more = vars ++ param_variable p ∷ [] in
      subst (λ (z : List Fault). Lists z (body_typing gang hs answer ns vars (p ∷ ps) b).breach)
      (sym (regrouped (twice p.word 0 ns) (unmet (param_fits p) (fault Mismatch p.word.span)) (refusal (value_said p.ty)) (parameters_faults after more ps)
      (block_faults gang hs answer (params_names after more ps) 0 (params_variables more ps) b)))
      (unless_lists (is_new p.word.name 0 ns) (fault NameTwice p.word.span) _ _
      (unless_lists (param_fits p) (fault Mismatch p.word.span) _ _
      (either_lists _ _ _ _ (refusal_lists (value_said p.ty)) (body_lists answer after more ps b))))

  function_lists : (earlier : List (List ℕ)) (f : Function)
      → Lists (unmet (is_free earlier f.word.name) (fault NameTwice f.word.span) ++ inside_faults gang hs f) (function_typing gang hs earlier f).breach
  function_lists earlier f =
      unless_lists (is_free earlier f.word.name) (fault NameTwice f.word.span) _ _
      (either_lists _ _ _ _ (refusal_lists (answer_said f.answer)) (body_lists (answer_said f.answer) [] [] f.params f.body))

  functions_lists : (earlier : List (List ℕ)) (fs : List Function) → Lists (functions_faults gang hs earlier fs) (functions_typing gang hs earlier fs).breach
  functions_lists earlier [] = none_lists
  functions_lists earlier (f ∷ fs) = either_lists _ _ _ _ (function_lists earlier f) (functions_lists (earlier ++ f.word.name ∷ []) fs)

-- the faults of a program are its breaches
pub program_lists : (gang : Gang) (fs : List Function) → Lists (program_faults gang fs) (Breach gang fs)
program_lists gang fs = functions_lists gang (map heading fs) [] fs
