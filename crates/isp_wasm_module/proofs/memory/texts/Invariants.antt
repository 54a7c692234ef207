use Rattle.std.proofs.Common.{◌≡◌, ◌++◌, drop}
use Rattle.isp_wasm.specs.Module.{joined}
use Rattle.isp_wasm_module.proofs.memory.texts.Given as goal

-- the texts so far, and the others
abbrev pub invariant-loop-number : goal.invariant-loop-number
invariant-loop-number l = l.out ++ joined (drop l.number l.code.texts) ≡ joined l.code.texts
