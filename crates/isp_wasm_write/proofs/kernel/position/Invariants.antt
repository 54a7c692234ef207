use Rattle.std.proofs.Common.{◌≡◌, ◌+◌, drop}
use Rattle.isp_wasm.specs.Locals.{position}
use Rattle.isp_wasm_write.proofs.kernel.position.Given as goal

-- the name stands no earlier
abbrev pub invariant-loop-number : goal.invariant-loop-number
invariant-loop-number l = position l.names l.name ≡ l.number + position (drop l.number l.names) l.name
