use Rattle.std.proofs.Common.{take}
use Rattle.isp_known.proofs.Narrowest.{Best}
use Rattle.isp_known.proofs.place.value_at.Given as goal

abbrev pub invariant-loop-note : goal.invariant-loop-note
invariant-loop-note l = Best l.at (take l.note-index l.notes) l.best
