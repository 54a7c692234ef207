use Rattle.std.proofs.Common.{◌≡◌, ◌^◌, ◌%◌}
use Rattle.isp_base.specs.Arguments.{tabulate}
use Rattle.isp_base.specs.Values.{width}
use Rattle.isp_gang_arrays.specs.Stores.{stores_of}
use Rattle.isp_model.proofs.ending.array_now.Given as goal

abbrev pub invariant-loop-place : goal.invariant-loop-place
invariant-loop-place l = l.now ≡ record { elem = l.array.elem; bits = tabulate l.place (λ i. stores_of l.run.stores.items l.store i % 2 ^ width l.array.elem) }
