use Rattle.std.proofs.Common.{◌≡◌, ◌+◌, ◌≤◌, drop}
use Rattle.isp_case_command.specs.Showing.{differing}
use Rattle.isp_case_command.proofs.page.differing.Given as goal

abbrev pub invariant-loop-one : goal.invariant-loop-one
invariant-loop-one l = record {
  counted : l.count + differing (drop l.one-index l.tried) ≡ differing l.tried;
  few : l.count ≤ l.one-index;
}
