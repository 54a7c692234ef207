-- The variables that a `foreach` and its kin declare: each is constant.
use Rattle.std.specs.Prelude.{true}
use Rattle.isp_base.specs.declared.types.Elem.{Elem}
use Rattle.isp_base.specs.declared.types.Elem.TheVariants.{I32, I64}
use Rattle.isp_base.specs.declared.types.Rate.TheVariants.{Uniform, Varying}
use Rattle.isp_typed.specs.declared.variable.Holds.TheVariants as holds
use Rattle.isp_typed.specs.declared.variable.Variable.{Variable}
use Rattle.isp_typed.specs.Typed.{ty_of}

-- the index of a `foreach` is a varying int32
abbrev pub foreach_index : Variable
foreach_index = record { holds = holds.Value (ty_of Varying I32); constant = true }

-- that of a `foreach_unique` is a uniform of the type of its value
abbrev pub unique_index : Elem → Variable
unique_index e = record { holds = holds.Value (ty_of Uniform e); constant = true }

-- that of a `foreach_active` is a uniform int64
abbrev pub active_index : Variable
active_index = unique_index I64
