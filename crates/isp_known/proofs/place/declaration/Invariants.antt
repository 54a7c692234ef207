use Rattle.std.proofs.Common.{◌≡◌, drop}
use Rattle.isp_known.specs.Places.{declaration_of}
use Rattle.isp_known.proofs.place.declaration.Given as goal

abbrev pub invariant-loop-note : goal.invariant-loop-note
invariant-loop-note l = declaration_of l.subject (drop l.note-index l.notes) ≡ declaration_of l.subject l.notes
