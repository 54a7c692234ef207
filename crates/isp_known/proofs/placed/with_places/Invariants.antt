use Rattle.std.proofs.Common.{◌≡◌, ◌++◌, drop, map}
use Rattle.isp_known.specs.Placed.{placed}
use Rattle.isp_known.proofs.placed.with_places.Given as goal

abbrev pub invariant-loop-note : goal.invariant-loop-note
invariant-loop-note l = l.found.items ++ map (placed l.tokens) (drop l.note-index l.notes) ≡ map (placed l.tokens) l.notes
