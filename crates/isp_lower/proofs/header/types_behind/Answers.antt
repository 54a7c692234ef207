use Rattle.std.proofs.Common.{ap, ◌∙◌, arith, Vec, Global}
use Rattle.isp_base.specs.declared.types.Elem.{Elem}
use Rattle.isp_lower.proofs.Headers.{get_or_row, types_step, types_skip}
use Rattle.isp_lower.proofs.header.types_behind.Goals.{then-place-count+in_ok-push, else-place-count}
use Rattle.isp_lower.proofs.header.types_behind.Goals as goal

pub loop-place-preserved : goal.loop-place-preserved
loop-place-preserved c =
    elim c.if-place-count.branch [
      | then-place-count+in_ok-push w ↦
          ap (λ (z : Vec Elem Global). z.items) w.types-is ∙ w.in_ok-push.ensures.items
          ∙ types_step c.args.rows.now c.loop-place.place c.args.count _ c.loop-place.types.items c.loop-place-test.true w.if-place-count.true c.loop-place.invariant
      | else-place-count w ↦
          ap (λ (z : Vec Elem Global). z.items) w.types-is
          ∙ types_skip c.args.rows.now c.loop-place.place c.args.count (get_or_row c.args.rows.now c.loop-place.place c.loop-place-test.true)
          c.loop-place.types.items c.loop-place-test.true (omega (arith, w.if-place-count.false)) c.loop-place.invariant
    ]
