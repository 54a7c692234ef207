use Rattle.isp_solo_run.specs.Tasks.{BranchesOn, Follows, KeepsOn, Tests, TurnedOn, TurnsWith}
use Rattle.std.proofs.Common.{subst}
use Rattle.std.proofs.Common.{refl, sym, ap}
use Rattle.isp_solo_run.specs.Tasks.{store_seen, branches_on, follows, turns_with, tests_on, keeps_on, turned_on}
use Rattle.isp_solo_run.proofs.Steps.{acts}
use Rattle.isp_solo_run.proofs.state.Single.act_statement.Goals as goal

pub returns-in-Simple : goal.returns-in-Simple
returns-in-Simple c = acts c.simple.result c.args.self.now c.simple.new.self c.args.task _ _ c.in-Simple.is refl c.simple.ensures

pub returns-in-Go : goal.returns-in-Go
returns-in-Go c = acts c.go_on.result c.args.self.now c.go_on.new.self c.args.task _ _ c.in-Go.is refl c.go_on.ensures

pub returns-in-Indexed : goal.returns-in-Indexed
returns-in-Indexed c = acts c.placed.result c.args.self.now c.placed.new.self c.args.task _ _ c.in-Indexed.is refl c.placed.ensures

pub returns-in-Assign : goal.returns-in-Assign
returns-in-Assign c = acts c.assign.result c.args.self.now c.assign.new.self c.args.task _ _ c.in-Assign.is refl c.assign.ensures

pub returns-in-Update : goal.returns-in-Update
returns-in-Update c = acts c.update.result c.args.self.now c.update.new.self c.args.task _ _ c.in-Update.is refl c.update.ensures

pub returns-in-Items : goal.returns-in-Items
returns-in-Items c = acts c.items.result c.args.self.now c.items.new.self c.args.task _ _ c.in-Items.is refl c.items.ensures

pub returns-in-Declared : goal.returns-in-Declared
returns-in-Declared c = acts c.declared.result c.args.self.now c.declared.new.self c.args.task _ _ c.in-Declared.is refl c.declared.ensures

pub returns-in-Run : goal.returns-in-Run
returns-in-Run c = acts c.run.result c.args.self.now c.run.new.self c.args.task _ _ c.in-Run.is refl c.run.ensures

pub returns-in-Answer : goal.returns-in-Answer
returns-in-Answer c = acts c.answer.result c.args.self.now c.answer.new.self c.args.task _ _ c.in-Answer.is refl c.answer.ensures

pub returns-in-Assert : goal.returns-in-Assert
returns-in-Assert c = acts c.assert.result c.args.self.now c.assert.new.self c.args.task _ _ c.in-Assert.is refl c.assert.ensures

pub returns-in-Statements : goal.returns-in-Statements
returns-in-Statements c = acts c.went.result c.args.self.now c.went.new.self c.args.task _ _ c.in-Statements.is refl (subst (λ b. Follows c.went.result c.args.self.now c.went.new.self b) c.deref.ensures c.went.ensures)

pub returns-in-Branch : goal.returns-in-Branch
returns-in-Branch c = acts c.branch-self.result c.args.self.now c.branch-self.new.self c.args.task _ _ c.in-Branch.is refl (subst (λ b. BranchesOn c.branch-self.result c.args.self.now c.branch-self.new.self b) c.deref-in-Branch.ensures c.branch-self.ensures)

pub returns-in-Turn : goal.returns-in-Turn
returns-in-Turn c = acts c.with_value.result c.args.self.now c.with_value.new.self c.args.task _ _ c.in-Turn.is refl (subst (λ b. TurnsWith c.with_value.result c.args.self.now c.with_value.new.self b) c.deref-in-Turn.ensures c.with_value.ensures)

pub returns-in-Test : goal.returns-in-Test
returns-in-Test c = acts c.test.result c.args.self.now c.test.new.self c.args.task _ _ c.in-Test.is refl (subst (λ b. Tests c.test.result c.args.self.now c.test.new.self b) c.deref-in-Test.ensures c.test.ensures)

pub returns-in-Tested : goal.returns-in-Tested
returns-in-Tested c = acts c.tested.result c.args.self.now c.tested.new.self c.args.task _ _ c.in-Tested.is refl (subst (λ b. KeepsOn c.tested.result c.args.self.now c.tested.new.self b) c.deref-in-Tested.ensures c.tested.ensures)

pub returns-in-Turned : goal.returns-in-Turned
returns-in-Turned c = acts c.turned.result c.args.self.now c.turned.new.self c.args.task _ _ c.in-Turned.is refl (subst (λ b. TurnedOn c.turned.result c.args.self.now c.turned.new.self b) c.deref-in-Turned.ensures c.turned.ensures)
