use Rattle.std.proofs.Common.{sym, ap, []}
use Rattle.std.specs.Prelude.{slice_index_or}
use Rattle.isp_code.specs.Conf.{Say}
use Rattle.isp_frames.specs.Rows.{FrameRows}
use Rattle.isp_frames.specs.Views.{conf_of}
use Rattle.isp_says.proofs.says.say.Goals as goal

pub returns-clause-ok : goal.returns-clause-ok
returns-clause-ok g c =
    let h = c.args.here.now in
    let f = c.args.frame.now in
    record { acts = λ s ws out. ap (λ (z : FrameRows). Say (slice_index_or h.code.texts c.args.text []) (conf_of s z ws out)) (sym c.next.ensures); at_next = c.next.ensures }
