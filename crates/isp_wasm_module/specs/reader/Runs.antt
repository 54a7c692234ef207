-- Groups of locals, as one goes along their types.
use Rattle.std.specs.Prelude.{ℕ, suc, List, [], ◌∷◌, if◌then◌else◌}
use Rattle.isp_wasm_meaning.specs.Module.{ValueType}
use Rattle.isp_wasm_binary.specs.Binary.{is_same}
use Rattle.isp_wasm_binary.specs.Modules.{Group}

-- so many of a type come before
abbrev pub runs : ℕ → ValueType → List ValueType → List Group
runs n u [] = record { count = n; type = u } ∷ []
runs n u (t ∷ ts) = if is_same t u then runs (suc n) u ts else record { count = n; type = u } ∷ runs 1 t ts
