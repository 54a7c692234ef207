-- The types of values and groups of locals, as the code names them.
use Rattle.std.specs.Prelude.{List, [], ◌∷◌}
use Rattle.isp_code.specs.declared.function.Returns.{Returns}
use Rattle.isp_code.specs.declared.function.Returns.TheVariants as returns
use Rattle.isp_wasm_meaning.specs.Module as wasm
use Rattle.isp_wasm_meaning.specs.Valid.{sized}
use Rattle.isp_wasm.specs.Places.{size_of}
use Rattle.isp_wasm_binary.specs.Modules as binary
use Rattle.isp_wasm_write.specs.declared.kernel.Caller.{Caller}
use Rattle.isp_wasm_write.specs.declared.kernel.Caller.TheVariants as callers
use Rattle.isp_wasm_module.specs.declared.types.ValueType.{ValueType}
use Rattle.isp_wasm_module.specs.declared.types.ValueType.TheVariants.{I32, I64, V128}
use Rattle.isp_wasm_module.specs.declared.groups.Group.{Group}

abbrev pub typed : ValueType → wasm.ValueType
typed I32 = wasm.I32
typed I64 = wasm.I64
typed V128 = wasm.V128

abbrev pub group_of : Group → binary.Group
group_of g = record { count = g.count; type = typed g.kind }

-- the types of what is given back; to other functions a vector is not given as such
abbrev pub result_types : Returns → Caller → List wasm.ValueType
result_types returns.Nothing c = []
result_types (returns.Scalar t) c = sized (size_of t) ∷ []
result_types (returns.Vector t) callers.Host = sized (size_of t) ∷ []
result_types (returns.Vector t) callers.Function = []
