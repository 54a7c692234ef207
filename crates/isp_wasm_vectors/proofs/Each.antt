-- One part or lane after the other.
use Rattle.std.proofs.Common.{◌≡◌, ℕ, ◌+◌, ◌++◌, ap, add-one}
use Rattle.isp_wasm_meaning.specs.Syntax.{Code}
use Rattle.isp_wasm.specs.Templates.{each}
use Rattle.isp_wasm_binary.specs.Instructions.{code_bytes}

pub one_more : (n : ℕ) (body : ℕ → Code) → code_bytes (each (n + 1) body) ≡ code_bytes (each n body) ++ code_bytes (body n)
one_more n body = ap (λ m. code_bytes (each m body)) (add-one n)
