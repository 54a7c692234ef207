-- the greatest so far, with those that are left, is the greatest of all
use Rattle.std.proofs.Common.{◌≡◌, ◌≤◌, drop, max}
use Rattle.isp_lower_code.specs.Named.{behind_registers}
use Rattle.isp_lower.proofs.named.behind.Given as goal

abbrev pub invariant-loop-register : goal.invariant-loop-register
invariant-loop-register l =
    (max l.most (behind_registers l.class (drop l.register-index l.registers)) ≡ behind_registers l.class l.registers) × (l.most ≤ 4294967296)
