use Rattle.std.proofs.Common.{◌≡◌, drop}
use Rattle.std.specs.List.{list_any}
use Rattle.isp_wasm.specs.Stack.{is_call}
use Rattle.isp_wasm_write.proofs.entry.has_call.Given as goal

-- it is as the others say
abbrev pub invariant-loop-instr : goal.invariant-loop-instr
invariant-loop-instr l = list_any is_call (drop l.instr-index l.function.code.items) ≡ list_any is_call l.function.code.items
