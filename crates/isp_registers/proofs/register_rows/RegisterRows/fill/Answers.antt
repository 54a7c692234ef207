use Rattle.std.proofs.Common.{◌∙◌, ◌+◌, ◌-◌, ◌∷◌, [], ap, arith, map, length, length-append}
use Rattle.isp_lower_code.specs.Rows.{with_many_fresh}
use Rattle.isp_registers.specs.Lookup.{row_of}
use Rattle.isp_registers.specs.declared.registers.RegisterName.TheVariants as one
use Rattle.isp_registers.proofs.Filling.{fill_step, pushed_fresh}
use Rattle.isp_registers.proofs.register_rows.RegisterRows.fill.Goals as goal

pub loop-number-preserved : goal.loop-number-preserved
loop-number-preserved c =
    let rows = c.loop-number.self in
    let n = c.loop-number.number in
    let t = c.args.elem in
    let pushed = c.in_ok-push.ensures.ok in
    let added = ap (map row_of) pushed ∙ pushed_fresh rows n t c.loop-number.invariant.0 in (
      omega (arith, ap length pushed, length-append rows (record { name = one.Fresh n; elem = t } ∷ []), c.loop-number.invariant.0),
      ap (with_many_fresh (c.args.end - (n + 1)) t) added ∙ fill_step n c.args.end t (map row_of rows) c.loop-number-test.true ∙ c.loop-number.invariant.1,
    )
