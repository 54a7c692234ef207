use Rattle.std.proofs.Common.{◌<◌, ◌++◌, length, ap, ◌∙◌, arith}
use Rattle.isp_base.specs.Sets.{flag_of}
use Rattle.isp_base.specs.Types.{gang_width}
use Rattle.isp_gang_run.proofs.Printed.{text_at, nothing_shown, past_exprs, past_values}
use Rattle.isp_gang_run.proofs.printing.show_at.Goals as goal

pub returns-then-place-shown : goal.returns-then-place-shown
returns-then-place-shown c = nothing_shown c.args.output.now.items _ (past_exprs (gang_width c.args.gang) (flag_of c.args.set.now) c.args.shown.now c.args.values.now c.args.place c.if-place-shown.true)

pub returns-then-place-values : goal.returns-then-place-values
returns-then-place-values c = nothing_shown c.args.output.now.items _ (past_values (gang_width c.args.gang) (flag_of c.args.set.now) c.args.shown.now c.args.values.now c.args.place c.if-place-values.true)

pub returns : goal.returns
returns c =
    let h : c.args.place < length c.args.shown.now = omega (arith, c.if-place-shown.false) in
    let k : c.args.place < length c.args.values.now = omega (arith, c.if-place-values.false) in
    c.in_ok-show.ensures ∙ ap (λ y. c.args.output.now.items ++ y) (text_at (gang_width c.args.gang) (flag_of c.args.set.now) c.args.shown.now c.args.values.now c.args.place c.index-shown-place.result _ h k c.index-shown-place.is)
