use Rattle.std.proofs.Common.{refl, sym, ◌∙◌}
use Rattle.isp_base.specs.Cross.{insert}
use Rattle.isp_base.specs.Maps.{on, over}
use Rattle.isp_base.specs.Types.{gang_width}
use Rattle.isp_base.specs.Values.{number}
use Rattle.isp_base.specs.declared.types.Elem.TheVariants.{I32}
use Rattle.isp_frames.specs.Views.{masks_at, scalars_at, vectors_at}
use Rattle.isp_machine.proofs.Written.{vector_elem_is}
use Rattle.isp_machine.proofs.cross.insert.Goals as goal

pub returns-clause-written : goal.returns-clause-written
returns-clause-written g c =
    let a = c.args in
    let h = a.here.now.routine in
    let f = a.frame.now in
    let m = masks_at f a.target.mask.number in
    λ s. record {
      value = c.insert.new.out;
      elem = c.insert.ensures.elem ∙ c.vector.ensures.elem ∙ sym (vector_elem_is h f c.requires.shaped a.target.register c.requires.operands.0.0);
      written = record {
        lanes = on m (insert (gang_width a.here.now.code.gang) (on m (vectors_at f a.x.number)) (number I32 (scalars_at f a.i.number)) (scalars_at f a.y.number));
        value = λ ws out. refl;
        bits = c.insert.ensures.lanes ∙ (λ j. over (on (c.mask-mask.ensures j)
            (insert (c.requires.gang j) (on (c.mask-mask.ensures j) (c.vector-from.ensures.lanes j)) (number I32 (c.scalar-lane.ensures.value j))
            (c.scalar-bits.ensures.value j))) (c.vector.ensures.lanes j));
      };
      now = c.set_vector.ensures;
    }
