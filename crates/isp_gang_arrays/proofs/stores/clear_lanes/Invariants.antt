use Rattle.std.proofs.Common.{◌≡◌, length}
use Rattle.isp_base.specs.Sets.{flag_of}
use Rattle.isp_gang_values.specs.Growing.{lanes_of}
use Rattle.isp_gang_arrays.proofs.Puts.{Zeroed}
use Rattle.isp_gang_arrays.proofs.stores.clear_lanes.Given as goal

abbrev pub invariant-loop-place : goal.invariant-loop-place
invariant-loop-place l = record { zeroed : Zeroed (flag_of l.set) (lanes_of l.initial.rows.items) l.rows.items l.place; long : length l.rows.items ≡ length l.initial.rows.items }
