use Rattle.std.proofs.Common.{ap, ◌∙◌}
use Rattle.isp_typed.specs.Views.{exprs_of}
use Rattle.isp_lower.specs.Emitted.{layout}
use Rattle.isp_masks.specs.Printed.{rates_of, registers_of}
use Rattle.isp_masks.proofs.Telling.{printed}
use Rattle.isp_masks.proofs.printing.prints.Goals as goal

pub returns : goal.returns
returns c =
    let a = c.args in
    printed (layout a.on.now) a.b.now c.values.new.b c.tell.new.b a.text.now (exprs_of a.all.now) c.as_slice.result.now a.site.mask.number a.site.slot.number
    (ap rates_of c.as_slice.ensures.value ∙ c.in_ok-shown.ensures.rates) (ap registers_of c.as_slice.ensures.value ∙ c.in_ok-shown.ensures.registers)
    c.in_ok-shown.ensures.code c.in_ok-tell.ensures
