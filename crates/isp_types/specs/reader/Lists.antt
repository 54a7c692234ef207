-- What further functions of the code give. No part of the promise.
use Rattle.std.specs.Prelude.{◌≡◌, ℕ, List, [], ◌==◌, map, Bool, true, not, ◌||◌, Option, Some, None, option_map, is_some, Result, Ok, Err}
use Rattle.std.specs.List.{list_any}
use Rattle.isp_base.specs.declared.types.Gang.{Gang}
use Rattle.isp_base.specs.declared.types.Span.{Span}
use Rattle.isp_base.specs.declared.types.Ty.{Ty}
use Rattle.isp_lex.specs.declared.fault.Fault.{Fault}
use Rattle.isp_lex.specs.declared.fault.Rule.TheVariants.{NameTwice, Mismatch, BadPrint}
use Rattle.isp_lex.specs.Faults.{fault}
use Rattle.isp_tree.specs.declared.types.Word.{Word}
use Rattle.isp_tree.specs.Tree.{Expr, Simple, Item, plain, with_value, with_size, Range, Param, Block, Function}
use Rattle.isp_typed.specs.declared.variable.Variable.{Variable}
use Rattle.isp_typed.specs.Verdicts.{both, made, beside, first_of, fault_unless}
use Rattle.isp_typed.specs.Typed.{TExpr, TItem, t_plain, TSimple, TStmt, TBlock, TFunction}
use Rattle.isp_exprs.specs.declared.scope.Binding.{Binding}
use Rattle.isp_exprs.specs.declared.words.ValueWords.{ValueWords}
use Rattle.isp_exprs.specs.Typing.{perhaps}
use Rattle.isp_exprs.specs.Words.{value_said, answer_said, type_declared}
use Rattle.isp_exprs.specs.Scopes.{Meaning, is_new}
use Rattle.isp_exprs.specs.Callees.{Heading, library_named}
use Rattle.isp_types.specs.Declarations.{array_sized, with_initial, sized_item}
use Rattle.isp_types.specs.Functions.{param_fits, parameter_of, param_span, is_export, function_made, body_typing}
use Rattle.isp_exprs.specs.Rules.{expr_typing}
use Rattle.isp_types.specs.Statements.{places, test_typing, block_typing}
use Rattle.isp_types.specs.Simple.{simple_typing}
use Rattle.isp_exprs.specs.reader.Lists.{fault_of}

-- the fault of a name that is not new
abbrev pub twice : Word → ℕ → List Binding → Option Fault
twice w start ns = fault_unless (is_new w.name start ns) (fault NameTwice w.span)

-- the fault of a text that has another number of places than there are values
abbrev pub print_fault : List ℕ → Span → ℕ → Option Fault
print_fault text span count = fault_unless (places text == count) (fault BadPrint span)

-- a variable by its number, where its type is found
abbrev pub known_next : ℕ → Result Variable Fault → Meaning
known_next k (Ok v) = Ok (record { number = k; variable = v })
known_next k (Err f) = Err f

-- whether a value given back, or none, agrees with what the function gives back
abbrev pub agrees_with : Result (Option Ty) Fault → Bool → Bool
agrees_with (Err f) has = true
agrees_with (Ok None) has = not has
agrees_with (Ok (Some t)) has = has

module _ (gang : Gang) (hs : List Heading) (ns : List Binding) where
  abbrev pub bounds_verdict : Range → Result (TExpr × TExpr) Fault
  bounds_verdict r = both (expr_typing gang hs ns r.start).verdict (expr_typing gang hs ns r.end).verdict

  -- the step of a `for`, which may be left out, and the verdict on its body
  abbrev pub step_and_body_verdict : Option Simple → Result TStmt Fault → Result (Option TSimple × TStmt) Fault
  step_and_body_verdict p body = both (perhaps (simple_typing gang hs ns) p).verdict body

  -- what stands after the first part of a `for`: its test, its step and the verdict on its body
  abbrev pub after_first_verdict : Option Expr → Option Simple → Result TStmt Fault → Result (Option TExpr × (Option TSimple × TStmt)) Fault
  after_first_verdict x p body = both (perhaps (test_typing gang hs ns) x).verdict (step_and_body_verdict p body)

  -- an item, of which the fault of its name and the words of its type are given
  abbrev pub item_verdict : Option Fault → ℕ → ValueWords → Item → Result TItem Fault
  item_verdict seen k v (plain w) = beside seen (Ok (t_plain k (type_declared v) w.span))
  item_verdict seen k v (with_value w x s) = made (with_initial k (type_declared v) s) (beside seen (expr_typing gang hs ns x).verdict)
  item_verdict seen k v (with_size w n s) = made (sized_item s) (beside seen (array_sized gang k v n))

-- ---- functions

-- the first fault of a parameter
abbrev pub param_fault : List Binding → Param → Option Fault
param_fault ns p = first_of (first_of (twice p.word 0 ns) (fault_unless (param_fits p) (fault Mismatch p.word.span))) (fault_of (value_said p.ty))

-- The fault of parameters, whatever the body: beside the verdict on a body after them it gives the verdict on the body with them.
abbrev pub IsParamsFault : List Binding → List Variable → List Param → List Binding → List Variable → Option Fault → Type 0
IsParamsFault ns vars ps after more o = (gang : Gang) (hs : List Heading) (answer : Result (Option Ty) Fault) (b : Block)
    → beside o (block_typing gang hs answer after 0 more b).verdict ≡ (body_typing gang hs answer ns vars ps b).verdict

-- a function, of which the fault of its name is given
abbrev pub function_verdict : Gang → List Heading → Option Fault → Function → Result TFunction Fault
function_verdict gang hs taken f =
    made (function_made gang hs f) (beside taken (both (answer_said f.answer) (body_typing gang hs (answer_said f.answer) [] [] f.params f.body).verdict))

-- the fault of a function's name that the library has or an earlier function
abbrev pub name_fault : Word → Bool → Option Fault
name_fault w is_taken = fault_unless (not (is_some (library_named w.name) || is_taken)) (fault NameTwice w.span)

-- a function of its result, variables and body
abbrev pub function_of_parts : Function → Option Ty → List Variable → TBlock → TFunction
function_of_parts f t vars b = record {
  name = f.word.name;
  span = f.word.span;
  exported = list_any is_export f.linkages;
  parameters = map parameter_of f.params;
  gives = option_map (λ u. u.elem) t;
  params = map param_span f.params;
  answer = t;
  variables = vars;
  body = b;
}
