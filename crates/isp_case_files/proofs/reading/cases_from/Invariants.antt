use Rattle.std.proofs.Common.{◌≡◌, ◌+◌, drop, map}
use Rattle.serde_json.specs.View.{items_view}
use Rattle.isp_case_files.specs.Cases.{as_listed, cases_from}
use Rattle.isp_case_files.proofs.Turns.{with_done}
use Rattle.isp_case_files.proofs.reading.cases_from.Given as goal

abbrev pub invariant-loop-place : goal.invariant-loop-place
invariant-loop-place l =
    cases_from 1 (items_view l.values) ≡ with_done (map as_listed l.found.items) (cases_from (l.place + 1) (items_view (drop l.place l.values)))
