use Rattle.std.proofs.Common.{◌≤◌, length, sym, arith, drop_of_length-le}
use Rattle.isp_known.proofs.Found.{none_declared}
use Rattle.isp_known.proofs.place.declaration.Goals as goal

pub returns-clause-none : goal.returns-clause-none
returns-clause-none c =
    let over : length c.args.notes.now ≤ c.loop-note.note-index = omega arith in
    let e = rw (drop_of_length-le c.args.notes.now over) at c.loop-note.invariant in
    none_declared c.args.notes.now c.args.subject (sym e)
