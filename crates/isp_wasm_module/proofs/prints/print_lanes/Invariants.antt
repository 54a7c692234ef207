use Rattle.std.proofs.Common.{◌≡◌, ◌++◌}
use Rattle.isp_wasm.specs.Templates.{each, print_item}
use Rattle.isp_wasm_binary.specs.Instructions.{code_bytes}
use Rattle.isp_wasm_write.specs.Settings.{setting}
use Rattle.isp_wasm_module.proofs.prints.print_lanes.Given as goal

-- the lanes so far
abbrev pub invariant-loop-number : goal.invariant-loop-number
invariant-loop-number l = l.out ≡ l.initial.out ++ code_bytes (each l.number (print_item (setting l.kernel) l.pair.0 l.pair.1))
