use Rattle.std.proofs.Common.{◌≡◌, take}
use Rattle.isp_known.specs.Places.{places_of}
use Rattle.isp_known.proofs.place.mentions.Given as goal

abbrev pub invariant-loop-note : goal.invariant-loop-note
invariant-loop-note l = l.places.items ≡ places_of l.declared l.subject (take l.note-index l.notes)
