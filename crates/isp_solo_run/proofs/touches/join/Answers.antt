use Rattle.std.proofs.Common.{refl, ap, arith, ◌∙◌}
use Rattle.std.proofs.Math.ListN.{length-set}
use Rattle.std.specs.Prelude.{is_some}
use Rattle.isp_solo_run.specs.Arrays.{read_in, wrote_in}
use Rattle.isp_solo_run.specs.Touches.{touched}
use Rattle.isp_solo_run.proofs.Touching.{joined_none, joined_one}
use Rattle.isp_solo_run.proofs.touches.join.Goals as goal

pub loop-place-init : goal.loop-place-init
loop-place-init c = record { joined = joined_none (λ t e. touched t c.args.instance (read_in c.args.array.now e) (is_some (wrote_in c.args.array.now e))) c.args.touches.now; long = refl }

pub loop-place-preserved : goal.loop-place-preserved
loop-place-preserved c =
    record {
      joined = joined_one c.args.instance (read_in c.args.array.now) (λ e. is_some (wrote_in c.args.array.now e)) c.args.touches.now
          c.loop-place.touches c.loop-place.place c.touched.result _ c.read_at-read.result c.is_some-stored.result c.loop-place.invariant.joined
          (omega (arith, c.loop-place.invariant.long, c.loop-place-test.true)) c.touched.ensures c.read_at-read.ensures (c.is_some-stored.ensures ∙ ap is_some c.stored_at.ensures);
      long = length-set c.loop-place.touches c.loop-place.place c.touched.result ∙ c.loop-place.invariant.long;
    }
