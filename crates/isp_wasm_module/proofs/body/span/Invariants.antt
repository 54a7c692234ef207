use Rattle.std.proofs.Common.{◌≡◌, ◌++◌, ◌-◌}
use Rattle.isp_wasm.specs.Templates as templates
use Rattle.isp_wasm_binary.specs.Instructions.{code_bytes}
use Rattle.isp_wasm_write.specs.Settings.{setting}
use Rattle.isp_wasm_module.proofs.body.span.Given as goal

-- what is written, and what the others will add
abbrev pub invariant-loop-number : goal.invariant-loop-number
invariant-loop-number l =
    l.out ++ code_bytes (templates.span (setting l.kernel) l.depth l.number (l.end - l.number)) ≡ l.initial.out ++ code_bytes (templates.span (setting l.kernel) l.depth l.start (l.end - l.start))
