use Rattle.isp_packed.proofs.Writes.{answer_too_long, array_too_long}
use Rattle.isp_packed.proofs.answers.wanted.Goals as goal

pub returns-in_err-bytes : goal.returns-in_err-bytes
returns-in_err-bytes c =
    rw c.from_residual.ensures (array_too_long c.args.arrays.now c.args.returned c.loop-array.array-index c.array-item.result c.loop-array-test.true c.array-item.is c.in_err-bytes.ensures)

pub returns-in_err-wanted : goal.returns-in_err-wanted
returns-in_err-wanted c =
    rw c.from_residual-in_err-wanted.ensures
    (answer_too_long c.args.arrays.now c.args.returned c.loop-array.array-index c.array-item.result c.loop-array.wanted c.in_ok-bytes.bytes c.loop-array-test.true c.array-item.is c.loop-array.invariant c.in_ok-bytes.ensures c.in_err-wanted.ensures)
