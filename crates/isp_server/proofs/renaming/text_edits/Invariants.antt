use Rattle.std.proofs.Common.{◌≡◌, ◌++◌, drop, map}
use Rattle.serde_json.specs.View.{view}
use Rattle.isp_server.specs.Renaming.{text_edit}
use Rattle.isp_server.proofs.renaming.text_edits.Given as goal

abbrev pub invariant-loop-span : goal.invariant-loop-span
invariant-loop-span l = map view l.edits.items ++ map (text_edit l.text l.name) (drop l.span-index l.spans) ≡ map (text_edit l.text l.name) l.spans
