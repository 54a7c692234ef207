use Rattle.std.proofs.Common.{◌≤◌, length, subst, arith}
use Rattle.std.specs.Prelude.{List}
use Rattle.std.proofs.lemmas.List.{take_all}
use Rattle.isp_known.specs.declared.note.Note.{Note}
use Rattle.isp_known.proofs.Narrowest.{Best, best_step, no_best}
use Rattle.isp_known.proofs.place.value_at.Goals as goal

pub loop-note-preserved : goal.loop-note-preserved
loop-note-preserved c = best_step c.args.at c.args.notes.now c.loop-note.note-index _ c.loop-note.best _ c.loop-note-test.true c.next_best-best.ensures c.loop-note.invariant

pub returns-clause-none : goal.returns-clause-none
returns-clause-none c =
    let over : length c.args.notes.now ≤ c.loop-note.note-index = omega arith in
    no_best c.args.at c.args.notes.now c.loop-note.best (subst (λ (z : List Note). Best c.args.at z c.loop-note.best) (take_all c.loop-note.note-index c.args.notes.now over) c.loop-note.invariant)
