use Rattle.std.proofs.Common.{◌≡◌, ℕ, ◌+◌, ◌*◌, ◌<◌, length, get_or}
use Rattle.std.specs.Prelude.{if◌then◌else◌, nat_lt}
use Rattle.isp_wasm_write.proofs.parts.numbers.Given as goal

-- the bytes so far
abbrev pub invariant-loop-lane : goal.invariant-loop-lane
invariant-loop-lane l =
    record { long : length l.bytes ≡ 16; each : (k : ℕ) → k < l.lane → get_or l.bytes k 0 ≡ (if nat_lt (l.part * 16 + k) l.lanes then l.part * 16 + k else 127) }
