use Rattle.std.proofs.Common.{◌≡◌, ◌+◌, ◌*◌, ◌≤◌, length, drop}
use Rattle.isp_wasm.specs.Module.{joined}
use Rattle.isp_wasm_module.proofs.fits.text_length.Given as goal

-- the bytes so far, and those of the other texts
abbrev pub invariant-loop-number : goal.invariant-loop-number
invariant-loop-number l =
    record { few : l.total ≤ l.number * 18446744073709551615; same : l.total + length (joined (drop l.number l.code.texts)) ≡ length (joined l.code.texts) }
