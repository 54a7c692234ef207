use Rattle.std.proofs.Common.{◌≡◌}
use Rattle.isp_gang_values.specs.Seen.{map_of}
use Rattle.isp_gang_run.proofs.Printed.{items_from}
use Rattle.isp_gang_run.proofs.printing.push_row.Given as goal

abbrev pub invariant-loop-instance : goal.invariant-loop-instance
invariant-loop-instance l = l.output.items ≡ items_from l.fn.output.items l.elem l.instance (map_of l.row)
