-- The verdict of each rule of functions and programs is right.
use Rattle.std.specs.Prelude.{ℕ, List, [], ◌∷◌, ◌++◌, map, Option, Result}
use Rattle.isp_base.specs.declared.types.Gang.{Gang}
use Rattle.isp_base.specs.declared.types.Ty.{Ty}
use Rattle.isp_lex.specs.declared.fault.Fault.{Fault}
use Rattle.isp_lex.specs.declared.fault.Rule.TheVariants.{NameTwice, Mismatch}
use Rattle.isp_lex.specs.Faults.{fault}
use Rattle.isp_tree.specs.Tree.{Param, Block, Function}
use Rattle.isp_typed.specs.declared.variable.Variable.{Variable}
use Rattle.isp_typed.proofs.Right.{just_right, given_right, made_right, both_right, beside_right}
use Rattle.isp_exprs.specs.declared.scope.Binding.{Binding}
use Rattle.isp_exprs.specs.Words.{value_said, answer_said}
use Rattle.isp_exprs.specs.Scopes.{is_new}
use Rattle.isp_exprs.specs.Callees.{Heading}
use Rattle.isp_exprs.specs.Rules.{second, pair_then}
use Rattle.isp_exprs.proofs.Exprs.{RightTyping}
use Rattle.isp_types.specs.Functions.{param_variable, param_names, param_fits, heading, is_free, function_made, program_made, body_typing, functions_typing, program_typing}
use Rattle.isp_types.proofs.Stmts.{block_right}

module _ (gang : Gang) (hs : List Heading) where
  body_right : (answer : Result (Option Ty) Fault) (ns : List Binding) (vars : List Variable) (ps : List Param) (b : Block)
      → RightTyping (body_typing gang hs answer ns vars ps b)
  body_right answer ns vars [] b = block_right gang hs answer ns 0 vars b
  body_right answer ns vars (p ∷ ps) b = beside_right (is_new p.word.name 0 ns) (fault NameTwice p.word.span) _ _ _ (beside_right (param_fits p) (fault Mismatch p.word.span) _ _ _
      (made_right second _ _ _ (both_right _ _ _ _ _ _ (given_right (value_said p.ty))
      (body_right answer (param_names ns vars p) (vars ++ param_variable p ∷ []) ps b))))

  pub functions_right : (earlier : List (List ℕ)) (fs : List Function)
      → RightTyping (functions_typing gang hs earlier fs)
  functions_right earlier [] = just_right []
  functions_right earlier (f ∷ fs) = made_right pair_then _ _ _ (both_right _ _ _ _ _ _
      (made_right (function_made gang hs f) _ _ _ (beside_right (is_free earlier f.word.name) (fault NameTwice f.word.span) _ _ _
      (both_right _ _ _ _ _ _ (given_right (answer_said f.answer)) (body_right (answer_said f.answer) [] [] f.params f.body))))
      (functions_right (earlier ++ f.word.name ∷ []) fs))

pub program_right : (gang : Gang) (fs : List Function) → RightTyping (program_typing gang fs)
program_right gang fs = made_right (program_made gang) _ _ _ (functions_right gang (map heading fs) [] fs)
