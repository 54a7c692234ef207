use Rattle.std.proofs.Common.{◌≡◌, ◌++◌}
use Rattle.isp_wasm.specs.Templates.{each}
use Rattle.isp_wasm_binary.specs.Instructions.{code_bytes}
use Rattle.isp_wasm_write.specs.Opened.{member_zeroed}
use Rattle.isp_wasm_write.specs.Settings.{setting}
use Rattle.isp_wasm_write.proofs.kernel.Kernel.members_zeroed.Given as goal

-- the lanes so far
abbrev pub invariant-loop-lane : goal.invariant-loop-lane
invariant-loop-lane l = l.out ≡ l.initial.out ++ code_bytes (each l.lane (member_zeroed (setting l.self) l.array l.mask))
