use Rattle.std.proofs.Common.{◌∙◌}
use Rattle.isp_base.specs.declared.types.Rate.TheVariants.{Uniform, Varying}
use Rattle.isp_registers.proofs.Homes.{one_array, one_value}
use Rattle.isp_registers.proofs.beginning.add_variables.Goals as goal

pub loop-number-preserved : goal.loop-number-preserved
loop-number-preserved c =
    let vs = c.args.variables.now in
    let n = c.loop-number.number in (
      one_value Uniform vs n _ _ _ _ c.loop-number-test.true c.in_ok-add_variable.ensures.scalars c.loop-number.invariant.0,
      one_value Varying vs n _ _
          _ _ c.loop-number-test.true c.in_ok-add_variable.ensures.vectors c.loop-number.invariant.1,
      one_array vs n _ _ _ _ c.loop-number-test.true
          c.in_ok-add_variable.ensures.arrays c.loop-number.invariant.2,
      c.in_ok-add_variable.ensures.loaded ∙ c.loop-number.invariant.3,
    )
