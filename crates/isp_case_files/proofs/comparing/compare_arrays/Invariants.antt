use Rattle.std.proofs.Common.{◌≡◌}
use Rattle.serde_json.specs.View.{members_view, view}
use Rattle.isp_case_files.specs.Answers.{agree_arrays}
use Rattle.isp_case_files.proofs.comparing.compare_arrays.Given as goal

abbrev pub invariant-loop-name : goal.invariant-loop-name
invariant-loop-name l = agree_arrays (members_view l.fn.arrays.entries) (view l.found) ≡ agree_arrays (members_view l.name-iterator) (view l.found)
