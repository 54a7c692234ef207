use Rattle.std.proofs.Common.{refl}
use Rattle.isp_base.specs.Sets.{flag_of}
use Rattle.isp_typed.specs.Views.{place_of}
use Rattle.isp_meaning.specs.Places.{Element}
use Rattle.isp_gang_values.specs.Seen.{payload_of}
use Rattle.isp_gang_run.specs.Tasks.{Comes, does, writes}
use Rattle.isp_gang_run.specs.declared.tasks.Task.TheVariants as task
use Rattle.isp_gang_run.proofs.Results.{on_ok, if_err}
use Rattle.isp_gang_run.proofs.Turns.{halts_same}
use Rattle.isp_gang_run.proofs.state.Evaluator.indexed.Goals as goal

pub returns-clause-err : goal.returns-clause-err
returns-clause-err c =
    let old = c.args.self.now in
    if_err c.placed.result
    (λ e h. halts_same old c.placed.new.self (does old (task.Indexed c.args.target c.args.array c.args.elem c.args.writing c.args.set))
    (writes old c.args.writing (place_of c.args.target.now) (Element c.args.array c.args.elem (payload_of old.value)) (flag_of c.args.set)) e
    (λ w. refl) h)
    c.placed.ensures.err

pub returns-clause-ok : goal.returns-clause-ok
returns-clause-ok c =
    let old = c.args.self.now in
    on_ok c.placed.result
    (λ (h : Comes old c.placed.new.self (writes old c.args.writing (place_of c.args.target.now) (Element c.args.array c.args.elem (payload_of old.value)) (flag_of c.args.set))).
    record { by = λ w. h.by w; counts = λ w k. h.counts w k })
    c.placed.ensures.ok
