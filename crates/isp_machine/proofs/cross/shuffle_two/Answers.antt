use Rattle.std.proofs.Common.{refl, sym, ◌∙◌}
use Rattle.isp_base.specs.Cross.{shuffle_two}
use Rattle.isp_base.specs.Maps.{on, over}
use Rattle.isp_base.specs.Types.{gang_width}
use Rattle.isp_frames.specs.Views.{masks_at, vectors_at}
use Rattle.isp_machine.proofs.Written.{vector_elem_is}
use Rattle.isp_machine.proofs.cross.shuffle_two.Goals as goal

pub returns-clause-written : goal.returns-clause-written
returns-clause-written g c =
    let a = c.args in
    let h = a.here.now.routine in
    let f = a.frame.now in
    let m = masks_at f a.target.mask.number in
    λ s. record {
      value = c.shuffle_two.new.out;
      elem = c.shuffle_two.ensures.elem ∙ c.vector.ensures.elem ∙ sym (vector_elem_is h f c.requires.shaped a.target.register c.requires.operands.0.0);
      written = record {
        lanes = on m (shuffle_two (gang_width a.here.now.code.gang) (on m (vectors_at f a.x.number)) (on m (vectors_at f a.y.number)) (on m (vectors_at f a.i.number)));
        value = λ ws out. refl;
        bits = c.shuffle_two.ensures.lanes ∙ (λ j. over (on (c.mask-mask.ensures j)
            (shuffle_two (c.requires.gang j) (on (c.mask-mask.ensures j) (c.vector-first.ensures.lanes j))
            (on (c.mask-mask.ensures j) (c.vector-second.ensures.lanes j)) (on (c.mask-mask.ensures j) (c.vector-lanes.ensures.lanes j))))
            (c.vector.ensures.lanes j));
      };
      now = c.set_vector.ensures;
    }
