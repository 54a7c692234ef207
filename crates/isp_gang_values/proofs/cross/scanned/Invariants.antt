use Rattle.std.proofs.Common.{◌≡◌, None}
use Rattle.isp_base.specs.Cross.{exclusive_scan}
use Rattle.isp_base.specs.Maps.{on}
use Rattle.isp_base.specs.Sets.{flag_of}
use Rattle.isp_gang_values.specs.Seen.{map_of}
use Rattle.isp_gang_values.proofs.Made.{Made}
use Rattle.isp_gang_values.proofs.cross.scanned.Given as goal

abbrev pub invariant-loop-instance : goal.invariant-loop-instance
invariant-loop-instance l =
    record {
      so_far : l.total ≡ exclusive_scan l.operator l.elem (map_of l.row) l.instance;
      made : Made None (on (flag_of l.set) (exclusive_scan l.operator l.elem (map_of l.row))) l.scan l.instance;
    }
