use Rattle.isp_gang_run.specs.Due.{due_now}
use Rattle.isp_gang_run.specs.declared.state.Evaluator.{Evaluator}
use Rattle.isp_gang_run.proofs.Progress.{same_leaves}
use Rattle.std.proofs.Common.{◌++◌, map, ap, ◌∙◌}
use Rattle.isp_base.specs.Sets.{flag_of}
use Rattle.isp_base.specs.Types.{gang_width}
use Rattle.isp_typed.specs.Views.{exprs_of}
use Rattle.isp_base.specs.Prints.{print_text}
use Rattle.isp_meaning.specs.Printing.{shown_all}
use Rattle.isp_gang_values.specs.Seen.{payload_of}
use Rattle.isp_gang_run.proofs.Arms.{print_comes}
use Rattle.isp_gang_run.proofs.state.Evaluator.print.Goals as goal

pub returns-clause-ok : goal.returns-clause-ok
returns-clause-ok c =
    let old = c.args.self.now in
    print_comes old c.leave.new.self c.show_text.new.output c.args.text.now c.args.shown.now c.args.values.now c.args.set c.all.result
    (c.in_ok-show_text.ensures ∙ ap (λ g. old.output.items
    ++ print_text c.args.text.now (shown_all (gang_width g) (flag_of c.args.set) (exprs_of c.args.shown.now) (map payload_of c.args.values.now)))
    c.gang-gang.ensures) c.all.ensures c.leave.ensures

pub returns-clause-fewer : goal.returns-clause-fewer
returns-clause-fewer c =
    same_leaves c.args.self.now c.leave.new.self 0 (ap (λ (e : Evaluator). due_now e) c.leave.ensures)
