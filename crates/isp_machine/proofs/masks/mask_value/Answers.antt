use Rattle.std.proofs.Common.{sym, ap, ◌∙◌, pos, ◌+ℤ◌, int_lt, nat_lt, ◌&&◌}
use Rattle.isp_base.specs.Values.{number}
use Rattle.isp_base.specs.declared.types.Elem.TheVariants.{I64}
use Rattle.isp_code.specs.Lines.{mask_value}
use Rattle.isp_code.specs.declared.instr.MaskInstr.{MaskInstr}
use Rattle.isp_frames.specs.Views.{conf_of, scalars_at}
use Rattle.isp_machine.proofs.masks.mask_value.Goals as goal

pub returns-in-Range : goal.returns-in-Range
returns-in-Range g c = λ s ws out.
    ap (λ (i : MaskInstr). mask_value c.args.here.now.code c.args.here.now.routine (conf_of s c.args.frame.now ws out) i) c.in-Range.is
    ∙ sym (c.range.ensures ∙ (λ j p. nat_lt p (c.requires.gang j) && int_lt (number I64 (scalars_at c.args.frame.now c.in-Range.first.number) +ℤ pos p) (number I64 (scalars_at c.args.frame.now c.in-Range.end.number))))
