use Rattle.std.proofs.Common.{◌≡◌, drop}
use Rattle.isp_known.specs.Places.{subject_at}
use Rattle.isp_known.proofs.place.subject_at.Given as goal

abbrev pub invariant-loop-note : goal.invariant-loop-note
invariant-loop-note l = subject_at l.start (drop l.note-index l.notes) ≡ subject_at l.start l.notes
