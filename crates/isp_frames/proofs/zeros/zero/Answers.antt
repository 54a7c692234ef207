use Rattle.std.proofs.Common.{◌∙◌, ap}
use Rattle.isp_base.specs.Maps.{Lanes}
use Rattle.isp_frames.specs.Begun.{Seen, seen}
use Rattle.isp_frames.proofs.Begins.{zeros}
use Rattle.isp_frames.proofs.zeros.zero.Goals as goal

pub returns : goal.returns
returns g c =
    let as_seen : Lanes → Seen = λ f. record { elem = c.args.elem; lanes = f } in
    ap seen c.zero.ensures ∙ ap as_seen (zeros g.row.N)
