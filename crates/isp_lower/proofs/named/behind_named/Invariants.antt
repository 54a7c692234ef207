-- the greatest so far, with those that the lines that are left name, is the greatest of all
use Rattle.std.proofs.Common.{◌≡◌, ◌≤◌, drop, max}
use Rattle.isp_lower_code.specs.Named.{behind_named}
use Rattle.isp_lower.proofs.named.behind_named.Given as goal

abbrev pub invariant-loop-line : goal.invariant-loop-line
invariant-loop-line l = (max l.most (behind_named l.class (drop l.line-index l.code)) ≡ behind_named l.class l.code) × (l.most ≤ 4294967296)
