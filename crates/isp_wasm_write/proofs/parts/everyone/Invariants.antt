use Rattle.std.proofs.Common.{◌≡◌, ℕ, ◌+◌, ◌*◌, ◌<◌, length, get_or}
use Rattle.isp_base.specs.Sets.{everyone}
use Rattle.isp_wasm_meaning.specs.Meaning.{flags}
use Rattle.isp_wasm_write.proofs.parts.everyone.Given as goal

-- the bytes so far
abbrev pub invariant-loop-lane : goal.invariant-loop-lane
invariant-loop-lane l =
    record { long : length l.bytes ≡ 16; each : (k : ℕ) → k < l.lane → get_or l.bytes k 0 ≡ flags 8 (everyone l.lanes (l.part * 16 + k)) }
