use Rattle.std.proofs.Common.{◌≡◌, drop, take, map, List, ◌++◌}
use Rattle.std.specs.Prelude.{Option, Result}
use Rattle.isp_base.specs.declared.types.Gang.{Gang}
use Rattle.isp_base.specs.declared.types.Ty.{Ty}
use Rattle.isp_lex.specs.declared.fault.Fault.{Fault}
use Rattle.isp_tree.specs.Tree.{Block}
use Rattle.isp_tree.specs.Views.{param_of as read_param}
use Rattle.isp_typed.specs.Verdicts.{beside}
use Rattle.isp_exprs.specs.Callees.{Heading}
use Rattle.isp_types.specs.Functions.{param_variable, params_names, body_typing}
use Rattle.isp_types.proofs.function.declare_all.Given as goal

abbrev pub invariant-loop-p : goal.invariant-loop-p
invariant-loop-p l = record {
  fault : (gang : Gang) (hs : List Heading) (answer : Result (Option Ty) Fault) (b : Block)
      → beside l.seen (body_typing gang hs answer l.scope l.variables.items (map read_param (drop l.p-index l.all)) b).verdict
      ≡ (body_typing gang hs answer l.initial.scope l.initial.variables.items (map read_param l.all) b).verdict;
  names : params_names l.scope l.variables.items (map read_param (drop l.p-index l.all)) ≡ params_names l.initial.scope l.initial.variables.items (map read_param l.all);
  variables : l.variables.items ≡ l.initial.variables.items ++ map param_variable (map read_param (take l.p-index l.all));
}
