use Rattle.std.proofs.Common.{◌≡◌, ◌++◌, drop}
use Rattle.isp_base.specs.declared.types.Rate.TheVariants.{Uniform, Varying}
use Rattle.isp_lower_code.specs.FirstRows.{array_rows, value_rows}
use Rattle.isp_registers.specs.Growth.{rows_of}
use Rattle.isp_registers.proofs.beginning.add_variables.Given as goal

abbrev pub invariant-loop-number : goal.invariant-loop-number
invariant-loop-number l =
    ((rows_of l.registers).scalars ++ value_rows Uniform l.number (drop l.number l.variables) ≡ (rows_of l.initial.registers).scalars ++ value_rows Uniform 0 l.variables)
    × ((rows_of l.registers).vectors ++ value_rows Varying l.number (drop l.number l.variables) ≡ (rows_of l.initial.registers).vectors ++ value_rows Varying 0 l.variables)
    × ((rows_of l.registers).arrays ++ array_rows l.number (drop l.number l.variables) ≡ (rows_of l.initial.registers).arrays ++ array_rows 0 l.variables)
    × ((rows_of l.registers).loaded ≡ (rows_of l.initial.registers).loaded)
