use Rattle.isp_solo_run.proofs.Writes.{simple_by}
use Rattle.std.proofs.Common.{refl}
use Rattle.std.proofs.Common.{ap, ◌∙◌}
use Rattle.isp_typed.specs.Views.{call_of, expr_of, simple_of}
use Rattle.isp_solo_meaning.specs.Answers.{Has}
use Rattle.isp_solo_meaning.specs.Steps.{simple}
use Rattle.isp_solo_meaning.specs.Values.{answer_call}
use Rattle.isp_solo_run.specs.Tasks.{bound_in, calls_in, done, store_seen, value_at}
use Rattle.isp_solo_run.proofs.Steps.{done_then, tells_by}
use Rattle.isp_solo_run.proofs.state.Single.simple.Goals as goal

pub returns-in-Value : goal.returns-in-Value
returns-in-Value c =
    let r = store_seen c.args.self.now in
    simple_by c.both.result c.args.self.now c.both.new.self c.args.simple _ _ c.in-Value.is
    (done_then r (value_at c.args.self.now.setting r (expr_of c.in-Value.x) r.state) (λ fr l i s. Has tt s))
    c.both.ensures

pub returns-in-Call : goal.returns-in-Call
returns-in-Call c =
    let r = store_seen c.args.self.now in
    simple_by c.call_and_go.result c.args.self.now c.call_and_go.new.self c.args.simple _ _ c.in-Call.is
    (done_then r (answer_call (bound_in c.args.self.now.setting) c.args.self.now.setting.instance r.frame (calls_in c.args.self.now.setting r.left) (call_of c.in-Call.call) r.state) (λ fr l i s. Has tt s))
    c.call_and_go.ensures

pub returns-in-Assign : goal.returns-in-Assign
returns-in-Assign c =
    let r = store_seen c.args.self.now in
    simple_by c.target.result c.args.self.now c.target.new.self c.args.simple _ _ c.in-Assign.is
    refl
    c.target.ensures

pub returns-in-Update : goal.returns-in-Update
returns-in-Update c =
    let r = store_seen c.args.self.now in
    simple_by c.target-in-Update.result c.args.self.now c.target-in-Update.new.self c.args.simple _ _ c.in-Update.is
    refl
    c.target-in-Update.ensures

pub returns-in-Step : goal.returns-in-Step
returns-in-Step c =
    let r = store_seen c.args.self.now in
    simple_by c.target-in-Step.result c.args.self.now c.target-in-Step.new.self c.args.simple _ _ c.in-Step.is
    refl
    c.target-in-Step.ensures
