use Rattle.std.proofs.Common.{◌≤◌, ◌∙◌, ℕ, List, ap, length, sym, subst, arith}
use Rattle.std.proofs.lemmas.List.{take_all}
use Rattle.std.specs.List.{All}
use Rattle.isp_known.specs.Places.{Names, places_of}
use Rattle.isp_known.proofs.Found.{places_more, places_name}
use Rattle.isp_known.proofs.place.mentions.Goals as goal

pub loop-note-preserved : goal.loop-note-preserved
loop-note-preserved c = places_more c.args.declared c.args.subject c.args.notes.now c.loop-note.note-index _ c.loop-note.places.items _ c.loop-note-test.true c.loop-note.invariant c.in_ok-push_named.ensures

pub returns-clause-each : goal.returns-clause-each
returns-clause-each c =
    let ns = c.args.notes.now in
    let over : length ns ≤ c.loop-note.note-index = omega arith in
    let e = c.loop-note.invariant ∙ ap (places_of c.args.declared c.args.subject) (take_all c.loop-note.note-index ns over) in
    subst (λ (ps : List ℕ). All (λ k. Names ns k c.args.subject) ps) (sym e) (places_name c.args.declared c.args.subject ns)
