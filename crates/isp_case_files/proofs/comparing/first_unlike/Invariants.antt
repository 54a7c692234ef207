use Rattle.std.proofs.Common.{◌≡◌, drop}
use Rattle.serde_json.specs.View.{items_view}
use Rattle.isp_case_files.specs.Answers.{same_items}
use Rattle.isp_case_files.proofs.comparing.first_unlike.Given as goal

abbrev pub invariant-loop-place : goal.invariant-loop-place
invariant-loop-place l = same_items (items_view l.wanted) (items_view l.fn.found) ≡ same_items (items_view (drop l.place l.wanted)) (items_view l.rest)
