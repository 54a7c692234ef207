use Rattle.std.proofs.Common.{ap, ◌∙◌, pos, ◌+ℤ◌, int_lt, nat_lt, ◌&&◌}
use Rattle.isp_base.specs.Sets.{flag_of}
use Rattle.isp_base.specs.Values.{number}
use Rattle.isp_base.specs.declared.types.Elem.TheVariants.{I64}
use Rattle.isp_frames.proofs.MaskViews.{ranged}
use Rattle.isp_machine.proofs.masks.range.Goals as goal

pub returns : goal.returns
returns g c =
    ap flag_of c.range.ensures
    ∙ ranged g.row.N (λ p. int_lt (number I64 c.scalar.result +ℤ pos p) (number I64 c.scalar-2.result))
    ∙ (λ i p. nat_lt p g.row.N && int_lt (number I64 (c.scalar.ensures.value i) +ℤ pos p) (number I64 (c.scalar-2.ensures.value i)))
