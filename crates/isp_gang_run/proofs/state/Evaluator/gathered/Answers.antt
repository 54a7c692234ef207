use Rattle.isp_gang_run.proofs.Progress.{no_more}
use Rattle.std.proofs.Common.{refl, sym, ap, map, subst, ◌∙◌}
use Rattle.isp_base.specs.Sets.{flag_of}
use Rattle.isp_base.specs.Types.{gang_width}
use Rattle.isp_meaning.specs.Library.{argument, library_value}
use Rattle.isp_gang_values.specs.Seen.{payload_of}
use Rattle.isp_gang_run.specs.Passing.{gathers_all}
use Rattle.isp_gang_run.specs.Tasks.{Comes}
use Rattle.isp_gang_run.proofs.Gathers.{library_comes}
use Rattle.isp_gang_run.proofs.Results.{on_ok}
use Rattle.isp_gang_run.proofs.state.Evaluator.gathered.Goals as goal

pub returns-in-Library-clause-ok : goal.returns-in-Library-clause-ok
returns-in-Library-clause-ok c =
    let ms = map payload_of c.args.values.now in
    library_comes c.args.self.now (record c.args.self.now { value = c.called-self.result }) c.in-Library.function c.in-Library.elem (flag_of c.args.set) ms c.args.gathering c.in-Library.is refl
    (c.called-self.ensures ∙ ap (λ g. library_value (gang_width g) c.in-Library.elem (flag_of c.args.set) c.in-Library.function (argument ms 0) (argument ms 1) (argument ms 2)) c.gang.ensures)

pub returns-in-Print-clause-ok : goal.returns-in-Print-clause-ok
returns-in-Print-clause-ok c =
    on_ok c.print.result
    (subst (λ g. Comes c.args.self.now c.print.new.self (gathers_all c.args.self.now g (flag_of c.args.set) (map payload_of c.args.values.now))) (sym c.in-Print.is))
    c.print.ensures.ok

pub returns-in-Library-clause-fewer : goal.returns-in-Library-clause-fewer
returns-in-Library-clause-fewer c =
    no_more c.args.self.now 0
