use Rattle.std.proofs.Common.{◌≡◌, [], ◌∷◌, refl, rules, ◌∙◌}
use Rattle.std.specs.Fmt.{decimal}
use Rattle.isp_asm.proofs.PlaceReadings.{ends_late, out_of_order, place_read}
use Rattle.isp_asm.proofs.line.span.Goals as goal
use Rattle.isp_asm.proofs.line.span.Goals.{else-start-end-via-then-start-end+else-end-le-SOURCE_LIMIT, else-start-end-via-else-start-end}

pub returns-else-start-end-clause-err : goal.returns-else-start-end-clause-err
returns-else-start-end-clause-err c =
    let start : decimal c.in_ok-start.field-0 ≡ c.args.start.now = search rules in
    let end : decimal c.in_ok-end.field-0 ≡ c.args.end.now = search rules in
    let read = place_read (c.args.start.now ∷ c.args.end.now ∷ []) _ _ c.in_ok-start.field-0 c.in_ok-end.field-0 refl start end c.in_ok-start.ensures.fits c.in_ok-end.ensures.fits (search rules) (search rules) in
    elim c.else-start-end.branch [
      | else-start-end-via-then-start-end+else-end-le-SOURCE_LIMIT w ↦ read ∙ (rw (ends_late c.in_ok-start.field-0 c.in_ok-end.field-0 w.if-end-le-SOURCE_LIMIT.false) refl)
      | else-start-end-via-else-start-end w ↦ read ∙ (rw (out_of_order c.in_ok-start.field-0 c.in_ok-end.field-0 w.if-start-end.false) refl)
    ]
