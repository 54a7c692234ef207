use Rattle.std.proofs.Common.{◌≡◌, ◌++◌, drop}
use Rattle.isp_wasm.specs.Templates.{arrays_code}
use Rattle.isp_wasm_binary.specs.Instructions.{code_bytes}
use Rattle.isp_wasm_write.specs.Settings.{setting}
use Rattle.isp_wasm_write.proofs.kernel.Kernel.array_lines.Given as goal

-- with the lines of those that are left, it has the lines of all
abbrev pub invariant-loop-local : goal.invariant-loop-local
invariant-loop-local l =
    l.out ++ code_bytes (arrays_code (setting l.self) (drop l.local-index l.locals) l.number) ≡ l.initial.out ++ code_bytes (arrays_code (setting l.self) l.locals l.first)
