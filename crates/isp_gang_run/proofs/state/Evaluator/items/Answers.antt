use Rattle.isp_typed.specs.declared.stmt.TypedItem.{TypedItem}
use Rattle.isp_gang_run.specs.Due.{due_now, item_due, items_due, own}
use Rattle.isp_typed.specs.Views.{item_of, items_of}
use Rattle.isp_gang_run.proofs.Progress.{after_leaves, leaves_as, same_leaves}
use Rattle.std.proofs.Common.{sym, subst, arith, List, ap}
use Rattle.isp_gang_run.specs.Tasks.{Does}
use Rattle.isp_gang_run.specs.declared.state.Evaluator.{Evaluator}
use Rattle.isp_gang_run.specs.declared.tasks.Task.TheVariants as task
use Rattle.isp_gang_run.proofs.Assignments.{no_items, one_item}
use Rattle.isp_gang_run.proofs.Blocks.{headed}
use Rattle.isp_gang_run.proofs.Lists.{nothing_left}
use Rattle.isp_gang_run.proofs.state.Evaluator.items.Goals as goal

pub returns-in-empty-clause-ok : goal.returns-in-empty-clause-ok
returns-in-empty-clause-ok c =
    subst (λ (e : Evaluator). Does c.args.self.now e (task.Items c.args.items c.args.set)) (sym c.forget.ensures)
    (no_items c.args.self.now c.args.items c.args.set (nothing_left c.args.items.now c.in-empty.len_below))

pub returns-in_ok-item-in-len1-up-clause-ok : goal.returns-in_ok-item-in-len1-up-clause-ok
returns-in_ok-item-in-len1-up-clause-ok c =
    one_item c.args.self.now c.later.new.self c.item.new.self c.args.items _ c.item-item.result c.args.set
    (headed c.args.items.now c.item-item.result (omega (arith, c.in-len1-up.len_at_least)) c.item-item.is)
    (record { items = c.in_ok-later-in-len1-up.ensures.ok; same = c.in_ok-later-in-len1-up.ensures.rest }) c.in_ok-item-in-len1-up.ensures.ok

pub returns-in-empty-clause-fewer : goal.returns-in-empty-clause-fewer
returns-in-empty-clause-fewer c =
    same_leaves c.args.self.now c.forget.new.self (own c.args.self.now items_due (items_of c.args.items.now)) (ap (λ (e : Evaluator). due_now e) c.forget.ensures)

pub returns-in_ok-item-in-len1-up-clause-fewer : goal.returns-in_ok-item-in-len1-up-clause-fewer
returns-in_ok-item-in-len1-up-clause-fewer c =
    leaves_as c.args.self.now c.item.new.self c.args.self.now.left (ap (λ (xs : List TypedItem). own c.args.self.now items_due (items_of xs))
    (headed c.args.items.now c.item-item.result (omega (arith, c.in-len1-up.len_at_least)) c.item-item.is))
    (after_leaves c.args.self.now c.later.new.self c.item.new.self (task.Items _ c.args.set) (λ e. own e item_due (item_of c.item-item.result)) c.in_ok-later-in-len1-up.ensures.ok c.in_ok-later-in-len1-up.ensures.rest c.in_ok-item-in-len1-up.ensures.fewer)
