use Rattle.std.proofs.Common.{◌≡◌, ◌++◌, drop}
use Rattle.std.specs.Prelude.{slice_index_or}
use Rattle.isp_base.specs.declared.types.Elem.TheVariants.{Bool as Truth}
use Rattle.isp_code.specs.Listing.{routine_of}
use Rattle.isp_code.specs.Registers.{param_elems, scalars_of}
use Rattle.isp_code.specs.declared.register.Class.TheVariants.{Scalar}
use Rattle.isp_constants.proofs.elems.scalar_elem.Given as goal

abbrev pub invariant-loop-param : goal.invariant-loop-param
invariant-loop-param l =
    slice_index_or (scalars_of (routine_of l.function)) l.number Truth ≡ slice_index_or (param_elems Scalar (drop l.param-index l.function.params.items) ++ l.function.scalars.items) l.left Truth
