use Rattle.std.proofs.Common.{◌≡◌, ◌++◌, drop, map}
use Rattle.std.specs.Vec.Iter.{into_iter_items}
use Rattle.isp_run_data.specs.Showing.{shown}
use Rattle.isp_run_data.proofs.shown.shown_of.Given as goal

abbrev pub invariant-loop-parameter : goal.invariant-loop-parameter
invariant-loop-parameter l = record {
  params : map (λ x. x.0) (shown l.outputs l.function.signature.params.items l.function.variables.items l.fn.arrays.items)
      ≡ l.shown.signature.params.items ++ map (λ x. x.0) (shown l.outputs (drop l.parameter-index l.function.signature.params.items) l.variables (into_iter_items l.left));
  arrays : map (λ x. x.1) (shown l.outputs l.function.signature.params.items l.function.variables.items l.fn.arrays.items)
      ≡ l.shown.arrays.items ++ map (λ x. x.1) (shown l.outputs (drop l.parameter-index l.function.signature.params.items) l.variables (into_iter_items l.left));
}
