-- Functions and programs: which typed tree each is, and beside it what its breaches are.
use Rattle.std.specs.Prelude.{ℕ, List, [], ◌∷◌, ◌++◌, map, bytes_eq, Bool, true, false, not, ◌||◌, Option, option_map, is_some, Result, Ok, Err}
use Rattle.std.specs.List.{list_any}
use Rattle.isp_base.specs.declared.types.Gang.{Gang}
use Rattle.isp_base.specs.declared.types.Rate.{Rate}
use Rattle.isp_base.specs.declared.types.Rate.TheVariants.{Uniform, Varying}
use Rattle.isp_base.specs.declared.types.Span.{Span}
use Rattle.isp_base.specs.declared.types.Ty.{Ty}
use Rattle.isp_base.specs.declared.signature.Parameter.{Parameter}
use Rattle.isp_lex.specs.declared.fault.Fault.{Fault}
use Rattle.isp_lex.specs.declared.fault.Rule.TheVariants.{NameTwice, Mismatch}
use Rattle.isp_lex.specs.Faults.{fault}
use Rattle.isp_tree.specs.declared.function.Linkage.{Linkage}
use Rattle.isp_tree.specs.declared.function.Linkage.TheVariants as linkage
use Rattle.isp_tree.specs.Tree.{Param, Block, Function}
use Rattle.isp_typed.specs.declared.variable.Holds.TheVariants as holds
use Rattle.isp_typed.specs.declared.variable.Variable.{Variable}
use Rattle.isp_typed.specs.Typed.{TBlock, TFunction, Program}
use Rattle.isp_exprs.specs.declared.callee.Want.{Want}
use Rattle.isp_exprs.specs.declared.callee.Want.TheVariants.{ValueOf, ArrayOf, NoReference}
use Rattle.isp_exprs.specs.declared.scope.Binding.{Binding}
use Rattle.isp_exprs.specs.declared.words.ValueWords.{ValueWords}
use Rattle.isp_exprs.specs.Typing.{Typing, exactly, given, both, made, provided}
use Rattle.isp_exprs.specs.Words.{value_said, answer_said, rate_or_varying}
use Rattle.isp_exprs.specs.Scopes.{is_new, with_name}
use Rattle.isp_exprs.specs.Callees.{Heading, library_named}
use Rattle.isp_exprs.specs.Rules.{second, pair_then}
use Rattle.isp_types.specs.Numbering.{or_nothing, declared, value_variable, block_variables}
use Rattle.isp_types.specs.Statements.{block_typing}

-- ---- parameters

abbrev pub param_words : Param → ValueWords
param_words p = or_nothing (value_said p.ty)

-- what a parameter holds: a value, or an array by reference
abbrev pub variable_for : Bool → ValueWords → Variable
variable_for true w = record { holds = holds.Given w.elem; constant = w.constant }
variable_for false w = value_variable w

abbrev pub param_variable : Param → Variable
param_variable p = variable_for p.is_array (param_words p)

-- the names after a parameter, and after several
abbrev pub param_names : List Binding → List Variable → Param → List Binding
param_names ns vars p = with_name ns vars p.word.name (declared (value_said p.ty) (param_variable p))

abbrev pub params_names : List Binding → List Variable → List Param → List Binding
params_names ns vars [] = ns
params_names ns vars (p ∷ ps) = params_names (param_names ns vars p) (vars ++ param_variable p ∷ []) ps

-- what it asks of an argument; where its type is not found, that it has no `&`
abbrev pub param_want : Param → Want
param_want p = asked p.is_array (value_said p.ty)
  where
    asked : Bool → Result ValueWords Fault → Want
    asked array (Err f) = NoReference
    asked true (Ok w) = ArrayOf w.elem w.constant
    asked false (Ok w) = ValueOf w.elem

-- An array parameter is uniform.
abbrev pub is_uniform_array : Bool → Result ValueWords Fault → Bool
is_uniform_array true (Ok w) = is_uniform_rate (rate_or_varying w.rate)
  where
    is_uniform_rate : Rate → Bool
    is_uniform_rate Uniform = true
    is_uniform_rate Varying = false
is_uniform_array array r = true

abbrev pub param_fits : Param → Bool
param_fits p = is_uniform_array p.is_array (value_said p.ty)

-- what a caller of an exported function sees of it
abbrev pub parameter_of : Param → Parameter
parameter_of p = record { name = p.word.name; elem = (param_words p).elem; is_array = p.is_array }

-- ---- functions

-- a function as callers see it
abbrev pub heading : Function → Heading
heading f = record { name = f.word.name; answer = answer_said f.answer; wants = map param_want f.params }

-- a name that neither the library has nor an earlier function
abbrev pub is_free : List (List ℕ) → List ℕ → Bool
is_free earlier w = not (is_some (library_named w) || list_any (λ n. bytes_eq n w) earlier)

abbrev pub is_export : Linkage → Bool
is_export linkage.Export = true
is_export l = false

-- the variables of a function, its parameters first, where hs are the functions of the program as callers see them
abbrev pub variables_of : Gang → List Heading → Function → List Variable
variables_of gang hs f = block_variables gang hs (params_names [] [] f.params) (map param_variable f.params) f.body

-- where the name of a parameter stands
abbrev pub param_span : Param → Span
param_span p = p.word.span

abbrev pub function_made : Gang → List Heading → Function → Option Ty × TBlock → TFunction
function_made gang hs f p = record {
  name = f.word.name;
  span = f.word.span;
  exported = list_any is_export f.linkages;
  parameters = map parameter_of f.params;
  gives = option_map (λ t. t.elem) p.0;
  params = map param_span f.params;
  answer = p.0;
  variables = variables_of gang hs f;
  body = p.1;
}

module _ (gang : Gang) (hs : List Heading) where
  -- Parameters and the body's outermost declarations are one scope: 21 at the later of two equal names, 22 at an array that is
  -- not uniform and at words that contradict each other.
  abbrev pub body_typing : Result (Option Ty) Fault → List Binding → List Variable → List Param → Block → Typing TBlock
  body_typing answer ns vars [] b = block_typing gang hs answer ns 0 vars b
  body_typing answer ns vars (p ∷ ps) b = provided (is_new p.word.name 0 ns) (fault NameTwice p.word.span) (provided (param_fits p) (fault Mismatch p.word.span)
      (made second (both (given (value_said p.ty))
      (body_typing answer (param_names ns vars p) (vars ++ param_variable p ∷ []) ps b))))

  -- a function after earlier ones, of which the names are given; 21 at a name that is taken
  abbrev pub function_typing : List (List ℕ) → Function → Typing TFunction
  function_typing earlier f = made (function_made gang hs f) (provided (is_free earlier f.word.name) (fault NameTwice f.word.span)
      (both (given (answer_said f.answer)) (body_typing (answer_said f.answer) [] [] f.params f.body)))

  abbrev pub functions_typing : List (List ℕ) → List Function → Typing (List TFunction)
  functions_typing earlier [] = exactly []
  functions_typing earlier (f ∷ fs) = made pair_then (both (function_typing earlier f) (functions_typing (earlier ++ f.word.name ∷ []) fs))

-- ---- programs: a function may be called before it stands

abbrev pub program_made : Gang → List TFunction → Program
program_made gang gs = record { gang = gang; functions = gs }

abbrev pub program_typing : Gang → List Function → Typing Program
program_typing gang fs = made (program_made gang) (functions_typing gang (map heading fs) [] fs)

-- which typed program the functions of a text are
abbrev pub IsProgram : Gang → List Function → Program → Type 0
IsProgram gang fs = (program_typing gang fs).is

-- their breaches
abbrev pub Breach : Gang → List Function → Fault → Type 0
Breach gang fs = (program_typing gang fs).breach
