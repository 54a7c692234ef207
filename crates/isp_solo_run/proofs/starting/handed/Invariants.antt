use Rattle.std.proofs.Common.{◌≡◌, ◌≤◌, map}
use Rattle.isp_meaning.specs.Runs.{handed}
use Rattle.isp_solo_run.specs.Seen.{passed_seen}
use Rattle.isp_solo_run.proofs.Started.{handed_from}
use Rattle.isp_solo_run.proofs.starting.handed.Given as goal

abbrev pub invariant-loop-place : goal.invariant-loop-place
invariant-loop-place l =
    record {
      sofar : handed_from (map passed_seen l.passed.items) l.next l.place l.arguments ≡ handed 0 l.arguments;
      low : l.next ≤ l.place;
    }
