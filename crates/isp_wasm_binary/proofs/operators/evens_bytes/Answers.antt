use Rattle.std.proofs.Common.{sym, ap}
use Rattle.std.specs.Prelude.{slice_index}
use Rattle.isp_wasm_meaning.specs.Lists.{listed, evens}
use Rattle.isp_wasm_binary.specs.Named.{shape}
use Rattle.isp_wasm_binary.proofs.operators.evens_bytes.Goals as goal

pub returns-in-I32x4 : goal.returns-in-I32x4
returns-in-I32x4 c = ap (λ s. listed 16 (slice_index (evens (shape s)))) (sym c.in-I32x4.is)

pub returns-in-I64x2 : goal.returns-in-I64x2
returns-in-I64x2 c = ap (λ s. listed 16 (slice_index (evens (shape s)))) (sym c.in-I64x2.is)
