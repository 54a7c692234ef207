use Rattle.std.proofs.Common.{◌≡◌}
use Rattle.isp_base.specs.Arguments.{rows}
use Rattle.isp_type_laws.specs.Cut.{rows_cut}
use Rattle.isp_gang_arrays.specs.Stores.{stores_of}
use Rattle.isp_model.proofs.Cutting.{cut_from}
use Rattle.isp_model.proofs.ending.arrays.Given as goal

abbrev pub invariant-loop-place : goal.invariant-loop-place
invariant-loop-place l = cut_from l.arrays.items l.place l.arguments (stores_of l.run.stores.items) ≡ rows_cut (rows l.arguments) (stores_of l.run.stores.items)
