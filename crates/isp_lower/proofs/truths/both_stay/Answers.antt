use Rattle.std.proofs.Common.{sym, ap, ◌∙◌}
use Rattle.std.specs.Prelude.{◌&&◌}
use Rattle.isp_typed.specs.Views.{expr_of}
use Rattle.isp_lower_code.specs.Stays.{stays_at}
use Rattle.isp_lower.specs.Emitted.{layout}
use Rattle.isp_lower.proofs.truths.both_stay.Goals as goal

pub returns-then-stays_at : goal.returns-then-stays_at
returns-then-stays_at c =
    let l = layout c.args.on.now in
    c.stays_at-then-stays_at.ensures ∙ ap (λ b. b && stays_at l c.args.rate (expr_of c.args.otherwise.now)) (sym c.if-stays_at.true ∙ c.stays_at.ensures)

pub returns-else-stays_at : goal.returns-else-stays_at
returns-else-stays_at c =
    let l = layout c.args.on.now in
    c.if-stays_at.false ∙ ap (λ b. b && stays_at l c.args.rate (expr_of c.args.otherwise.now)) (sym c.if-stays_at.false ∙ c.stays_at.ensures)
