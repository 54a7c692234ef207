-- The faults of names and types in functions and programs, in the order in which the code meets them.
use Rattle.std.specs.Prelude.{ℕ, List, [], ◌∷◌, ◌++◌, map}
use Rattle.isp_base.specs.declared.types.Gang.{Gang}
use Rattle.isp_lex.specs.declared.fault.Fault.{Fault}
use Rattle.isp_lex.specs.declared.fault.Rule.TheVariants.{NameTwice, Mismatch}
use Rattle.isp_lex.specs.Faults.{fault}
use Rattle.isp_tree.specs.Tree.{Param, Function}
use Rattle.isp_typed.specs.declared.variable.Variable.{Variable}
use Rattle.isp_exprs.specs.declared.scope.Binding.{Binding}
use Rattle.isp_exprs.specs.Words.{value_said, answer_said}
use Rattle.isp_exprs.specs.Callees.{Heading}
use Rattle.isp_types.specs.Functions.{param_variable, param_names, params_names, param_fits, heading, is_free}
use Rattle.isp_name_breaches.specs.reader.Exprs.{refusal, unmet}
use Rattle.isp_name_breaches.specs.reader.Stmts.{twice, block_faults}

abbrev pub parameter_faults : List Binding → Param → List Fault
parameter_faults ns p = twice p.word 0 ns ++ (unmet (param_fits p) (fault Mismatch p.word.span) ++ refusal (value_said p.ty))

abbrev pub parameters_faults : List Binding → List Variable → List Param → List Fault
parameters_faults ns vars [] = []
parameters_faults ns vars (p ∷ ps) = parameter_faults ns p ++ parameters_faults (param_names ns vars p) (vars ++ param_variable p ∷ []) ps

-- the variables after parameters
abbrev pub params_variables : List Variable → List Param → List Variable
params_variables vars [] = vars
params_variables vars (p ∷ ps) = params_variables (vars ++ param_variable p ∷ []) ps

module _ (gang : Gang) (hs : List Heading) where
  -- of a function but for its name
  abbrev pub inside_faults : Function → List Fault
  inside_faults f =
      refusal (answer_said f.answer)
      ++ (parameters_faults [] [] f.params ++ block_faults gang hs (answer_said f.answer) (params_names [] [] f.params) 0 (params_variables [] f.params) f.body)

  abbrev pub functions_faults : List (List ℕ) → List Function → List Fault
  functions_faults earlier [] = []
  functions_faults earlier (f ∷ fs) =
      (unmet (is_free earlier f.word.name) (fault NameTwice f.word.span) ++ inside_faults f) ++ functions_faults (earlier ++ f.word.name ∷ []) fs

abbrev pub program_faults : Gang → List Function → List Fault
program_faults gang fs = functions_faults gang (map heading fs) [] fs
