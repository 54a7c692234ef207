use Rattle.std.proofs.Common.{sym, ap}
use Rattle.isp_code.specs.Conf.{Say}
use Rattle.isp_base.specs.Maps.{on}
use Rattle.isp_base.specs.Prints.{list_text}
use Rattle.isp_base.specs.Types.{gang_width}
use Rattle.isp_code.specs.Registers.{elem_of}
use Rattle.isp_frames.specs.Rows.{FrameRows}
use Rattle.isp_frames.specs.Views.{conf_of, vectors_at, masks_at}
use Rattle.isp_says.proofs.says.print_vector.Goals as goal

pub returns-clause-ok : goal.returns-clause-ok
returns-clause-ok g c =
    let h = c.args.here.now in
    let f = c.args.frame.now in
    record {
      acts = λ s ws out. ap (λ (z : FrameRows). Say
          (list_text (elem_of h.routine c.args.x) (gang_width h.code.gang) (on (masks_at f c.args.k.number) (vectors_at f c.args.x.number)))
          (conf_of s z ws out)) (sym c.next.ensures);
      at_next = c.next.ensures;
    }
