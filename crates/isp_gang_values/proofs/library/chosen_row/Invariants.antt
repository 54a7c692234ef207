use Rattle.std.proofs.Common.{None}
use Rattle.isp_meaning.specs.Library.{chosen_one}
use Rattle.isp_gang_values.specs.Seen.{map_of}
use Rattle.isp_gang_values.proofs.Made.{Made}
use Rattle.isp_gang_values.proofs.library.chosen_row.Given as goal

abbrev pub invariant-loop-instance : goal.invariant-loop-instance
invariant-loop-instance l = Made None (λ p. chosen_one (map_of l.tests p) (map_of l.first p) (map_of l.second p)) l.row l.instance
