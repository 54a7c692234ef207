use Rattle.std.proofs.Common.{ap, subst, ◌∙◌, ◌-◌, map}
use Rattle.isp_base.specs.Sets.{Mask, everyone}
use Rattle.isp_base.specs.Types.{gang_width}
use Rattle.isp_typed.specs.Views.{function_of}
use Rattle.isp_gang_run.specs.Passing.{does_call}
use Rattle.isp_gang_run.specs.Seen.{passed_seen}
use Rattle.isp_gang_run.specs.Tasks.{Comes, Halts}
use Rattle.isp_gang_run.proofs.Leading.{first_ends, first_halts}
use Rattle.isp_gang_run.proofs.Turns.{at_err}
use Rattle.isp_gang_run.proofs.state.Evaluator.done.Goals as goal

pub returns-in_err-finish-clause-err : goal.returns-in_err-finish-clause-err
returns-in_err-finish-clause-err c =
    let old = c.args.self.now in
    let f = λ (a : Mask). does_call old (old.left - 1) (function_of c.args.function.now) a (map passed_seen c.args.passed.now) in
    at_err c.from_residual-in_err-finish.result c.in_err-finish.field-0.0 (Halts old c.finish.new.self (f (everyone (gang_width old.program.now.gang)))) c.from_residual-in_err-finish.ensures.1
    (first_halts old c.begin.new.self c.finish.new.self (f (everyone (gang_width old.program.now.gang))) c.requires.nothing
    (subst (λ (a : Mask). Comes old c.begin.new.self (f a)) (c.everyone-set.ensures ∙ ap (λ g. everyone (gang_width g)) c.gang.ensures)
    c.in_ok-begin.ensures.ok) c.in_err-finish.field-0.0 c.in_err-finish.ensures.err)

pub returns-clause-ok : goal.returns-clause-ok
returns-clause-ok c =
    let old = c.args.self.now in
    let f = λ (a : Mask). does_call old (old.left - 1) (function_of c.args.function.now) a (map passed_seen c.args.passed.now) in
    first_ends old c.begin.new.self c.finish.new.self (f (everyone (gang_width old.program.now.gang))) c.requires.nothing
    (subst (λ (a : Mask). Comes old c.begin.new.self (f a)) (c.everyone-set.ensures ∙ ap (λ g. everyone (gang_width g)) c.gang.ensures)
    c.in_ok-begin.ensures.ok) c.in_ok-finish.ensures.ok
