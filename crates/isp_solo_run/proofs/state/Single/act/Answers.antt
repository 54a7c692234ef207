use Rattle.std.proofs.Common.{refl, sym, ap}
use Rattle.isp_solo_meaning.specs.Answers.{Has}
use Rattle.isp_solo_run.specs.Tasks.{given, store_seen, state_seen}
use Rattle.isp_solo_run.proofs.Steps.{acts}
use Rattle.isp_solo_run.proofs.state.Single.act.Goals as goal

pub returns-in-Value : goal.returns-in-Value
returns-in-Value c = acts c.value.result c.args.self.now c.value.new.self c.args.task _ _ c.in-Value.is refl c.value.ensures

pub returns-in-Load : goal.returns-in-Load
returns-in-Load c = acts c.load.result c.args.self.now c.load.new.self c.args.task _ _ c.in-Load.is refl c.load.ensures

pub returns-in-Convert : goal.returns-in-Convert
returns-in-Convert c = acts c.give.result c.args.self.now c.give.new.self c.args.task _ _ c.in-Convert.is (ap (λ k. given (store_seen c.args.self.now) (Has k (state_seen c.args.self.now))) (sym c.convert.ensures)) c.give.ensures

pub returns-in-Unary : goal.returns-in-Unary
returns-in-Unary c = acts c.give-in-Unary.result c.args.self.now c.give-in-Unary.new.self c.args.task _ _ c.in-Unary.is
    (ap (λ k. given (store_seen c.args.self.now) (Has k (state_seen c.args.self.now))) (sym c.apply_unary.ensures)) c.give-in-Unary.ensures

pub returns-in-Right : goal.returns-in-Right
returns-in-Right c = acts c.right.result c.args.self.now c.right.new.self c.args.task _ _ c.in-Right.is refl c.right.ensures

pub returns-in-Join : goal.returns-in-Join
returns-in-Join c = acts c.join.result c.args.self.now c.join.new.self c.args.task _ _ c.in-Join.is refl c.join.ensures

pub returns-in-Logic : goal.returns-in-Logic
returns-in-Logic c = acts c.logic.result c.args.self.now c.logic.new.self c.args.task _ _ c.in-Logic.is refl c.logic.ensures

pub returns-in-Choose : goal.returns-in-Choose
returns-in-Choose c = acts c.choose.result c.args.self.now c.choose.new.self c.args.task _ _ c.in-Choose.is refl c.choose.ensures

pub returns-in-Values : goal.returns-in-Values
returns-in-Values c = acts c.one_more.result c.args.self.now c.one_more.new.self c.args.task _ _ c.in-Values.is refl c.one_more.ensures

pub returns-in-Arguments : goal.returns-in-Arguments
returns-in-Arguments c = acts c.arguments.result c.args.self.now c.arguments.new.self c.args.task _ _ c.in-Arguments.is refl c.arguments.ensures

pub returns-in-Argument : goal.returns-in-Argument
returns-in-Argument c = acts c.argument.result c.args.self.now c.argument.new.self c.args.task _ _ c.in-Argument.is refl c.argument.ensures

pub returns-in-Return : goal.returns-in-Return
returns-in-Return c = acts c.resume.result c.args.self.now c.resume.new.self c.args.task _ _ c.in-Return.is refl c.resume.ensures
