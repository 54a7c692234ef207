use Rattle.std.proofs.Common.{◌≡◌, ◌+◌, ◌*◌, ◌≤◌, drop}
use Rattle.isp_wasm.specs.Stack.{bytes_in}
use Rattle.isp_wasm_module.proofs.opened.bytes_in.Given as goal

-- with the bytes of those that are left, it is the bytes of all
abbrev pub invariant-loop-local : goal.invariant-loop-local
invariant-loop-local l =
    record { few : l.sum ≤ l.local-index * 1099511627776; same : l.sum + bytes_in l.lanes (drop l.local-index l.locals) ≡ bytes_in l.lanes l.locals }
