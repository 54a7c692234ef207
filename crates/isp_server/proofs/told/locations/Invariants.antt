use Rattle.std.proofs.Common.{◌≡◌, ◌++◌, drop, map}
use Rattle.serde_json.specs.View.{view}
use Rattle.isp_server.specs.Told.{location}
use Rattle.isp_server.proofs.told.locations.Given as goal

abbrev pub invariant-loop-start : goal.invariant-loop-start
invariant-loop-start l =
    map view l.found.items ++ map (location l.uri l.text) (drop l.start-index l.starts) ≡ map (location l.uri l.text) l.starts
