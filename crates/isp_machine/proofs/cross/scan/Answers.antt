use Rattle.std.proofs.Common.{refl, sym, ◌∙◌}
use Rattle.isp_base.specs.Cross.{exclusive_scan}
use Rattle.isp_code.specs.Lines.{scan_of}
use Rattle.isp_code.specs.Registers.{elem_of}
use Rattle.isp_base.specs.Maps.{on, over}
use Rattle.isp_frames.specs.Views.{masks_at, vectors_at}
use Rattle.isp_machine.proofs.Written.{vector_elem_is}
use Rattle.isp_machine.proofs.cross.scan.Goals as goal

pub returns-clause-written : goal.returns-clause-written
returns-clause-written g c =
    let a = c.args in
    let h = a.here.now.routine in
    let f = a.frame.now in
    let m = masks_at f a.target.mask.number in
    λ s. record {
      value = c.exclusive_scan.new.out;
      elem = c.exclusive_scan.ensures.elem ∙ c.vector.ensures.elem ∙ sym (vector_elem_is h f c.requires.shaped a.target.register c.requires.operands.0.0);
      written = record {
        lanes = on m (exclusive_scan (scan_of a.scan) (elem_of h a.target.register) (on m (vectors_at f a.x.number)));
        value = λ ws out. refl;
        bits = c.exclusive_scan.ensures.lanes ∙ (λ j. over (on (c.mask-mask.ensures j) (exclusive_scan (c.scan_operator.ensures j) (c.vector.ensures.elem j) (on (c.mask-mask.ensures j) (c.vector-from.ensures.lanes j)))) (c.vector.ensures.lanes j));
      };
      now = c.set_vector.ensures;
    }
