use Rattle.std.proofs.Common.{◌≤◌, length, sym, arith, drop_of_length-le}
use Rattle.isp_known.proofs.Found.{none_named}
use Rattle.isp_known.proofs.place.subject_at.Goals as goal

pub returns-clause-none : goal.returns-clause-none
returns-clause-none c =
    let over : length c.args.notes.now ≤ c.loop-note.note-index = omega arith in
    let e = rw (drop_of_length-le c.args.notes.now over) at c.loop-note.invariant in
    none_named c.args.notes.now c.args.start (sym e)
