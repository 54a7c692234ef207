use Rattle.std.proofs.Common.{◌≡◌, ◌≤◌, ◌++◌, ◌-◌, drop, length, map}
use Rattle.serde_json.specs.View.{view}
use Rattle.isp_server.specs.Completions.{library_item}
use Rattle.isp_server.specs.Library.{signatures}
use Rattle.isp_server.proofs.completion.push_library.Given as goal

abbrev pub invariant-loop-found : goal.invariant-loop-found
invariant-loop-found l =
    (l.number ≤ length signatures) × (map view l.items.items ++ map library_item (drop l.number signatures) ≡ map view l.initial.items.items ++ map library_item signatures)

abbrev pub decreases-loop-found : goal.decreases-loop-found
decreases-loop-found l = length signatures - l.number
