use Rattle.std.proofs.Common.{◌≡◌, ◌+◌, drop}
use Rattle.isp_wasm.specs.Stack.{bytes_in}
use Rattle.isp_wasm_write.proofs.opened.bytes_in.Given as goal

-- with the bytes of those that are left, it is the bytes of all
abbrev pub invariant-loop-local : goal.invariant-loop-local
invariant-loop-local l = l.sum + bytes_in l.lanes (drop l.local-index l.locals) ≡ bytes_in l.lanes l.locals
