use Rattle.std.proofs.Common.{ap, refl, arith, ◌∙◌}
use Rattle.std.proofs.Math.ListN.{length-set}
use Rattle.isp_base.specs.Sets.{flag_of}
use Rattle.isp_gang_values.specs.Growing.{lanes_of}
use Rattle.isp_base.specs.Maps.{lane_of}
use Rattle.isp_gang_arrays.specs.Stores.{with_zeros}
use Rattle.isp_gang_arrays.proofs.Puts.{zeroed_begins, zeroed_next, zeroed_all}
use Rattle.isp_gang_arrays.proofs.stores.clear_lanes.Goals as goal

pub loop-place-init : goal.loop-place-init
loop-place-init c = record { zeroed = zeroed_begins (flag_of c.args.set.now) c.args.rows.now.items; long = refl }

pub loop-place-preserved : goal.loop-place-preserved
loop-place-preserved c =
    record {
      zeroed = zeroed_next (flag_of c.args.set.now) (lanes_of c.args.rows.now.items) c.loop-place.rows.items c.loop-place.place c.cleared.result
          c.index.result.now c.loop-place.invariant.zeroed
          (omega (arith, c.loop-place.invariant.long, c.loop-place-test.true, c.len-place-end.ensures))
          (c.cleared.ensures ∙ ap (λ z. with_zeros (flag_of c.args.set.now) (lane_of z)) c.index.ensures);
      long = length-set c.loop-place.rows.items c.loop-place.place c.cleared.result ∙ c.loop-place.invariant.long;
    }

pub returns : goal.returns
returns c = zeroed_all (flag_of c.args.set.now) c.args.rows.now.items c.loop-place.rows.items c.loop-place.place (omega (arith, c.loop-place-test.false, c.len-place-end.ensures)) c.loop-place.invariant.zeroed
