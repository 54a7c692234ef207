use Rattle.std.proofs.Common.{sym, false}
use Rattle.isp_gang_values.proofs.Vectors.{at_there, at_past}
use Rattle.isp_solo_run.proofs.arrays.is_marked.Goals as goal

pub returns-then-place-marks : goal.returns-then-place-marks
returns-then-place-marks c = sym (at_there (λ x. x) false c.args.marks.now c.args.place false c.if-place-marks.true)

pub returns-else-place-marks : goal.returns-else-place-marks
returns-else-place-marks c = sym (at_past (λ x. x) false c.args.marks.now c.args.place c.if-place-marks.false)
