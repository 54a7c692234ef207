use Rattle.std.proofs.Common.{◌≡◌, ◌++◌, drop, map}
use Rattle.serde_json.specs.View.{view}
use Rattle.isp_server.specs.Completions.{name_items}
use Rattle.isp_server.proofs.completion.push_names.Given as goal

abbrev pub invariant-loop-i : goal.invariant-loop-i
invariant-loop-i l = map view l.items.items ++ name_items l.kind l.tokens (drop l.i-index l.found) ≡ map view l.initial.items.items ++ name_items l.kind l.tokens l.found
