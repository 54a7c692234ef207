use Rattle.isp_typed.specs.declared.stmt.TypedFirst.{TypedFirst}
use Rattle.std.proofs.Common.{List, Some, ap, sym, ◌∙◌}
use Rattle.isp_gang_run.proofs.Progress.{leaves_as}
use Rattle.isp_typed.specs.declared.stmt.TypedItem.{TypedItem}
use Rattle.isp_typed.specs.Views.{first_of, items_of}
use Rattle.isp_gang_run.specs.Due.{call_due, items_due, own}
use Rattle.isp_gang_run.specs.Most.{first_most, one}
use Rattle.isp_gang_run.proofs.Arms.{first_items, first_simple}
use Rattle.isp_gang_run.proofs.state.Evaluator.some_first.Goals as goal

pub returns-in_ok-later-in-Declare-clause-ok : goal.returns-in_ok-later-in-Declare-clause-ok
returns-in_ok-later-in-Declare-clause-ok c =
    first_items c.args.self.now c.args.set c.later.new.self c.tick.new.self c.tick.ensures c.args.first c.in-Declare.items _ c.as_slice.result
    c.in-Declare.is c.as_slice.ensures.value c.in_ok-later-in-Declare.ensures.ok c.in_ok-later-in-Declare.ensures.rest

pub returns-in_ok-later-in-Simple-clause-ok : goal.returns-in_ok-later-in-Simple-clause-ok
returns-in_ok-later-in-Simple-clause-ok c =
    first_simple c.args.self.now c.args.set c.later-in-Simple.new.self c.args.first _ c.in-Simple.is c.in_ok-later-in-Simple.ensures.ok c.in_ok-later-in-Simple.ensures.rest

pub returns-in_ok-later-in-Declare-clause-fewer : goal.returns-in_ok-later-in-Declare-clause-fewer
returns-in_ok-later-in-Declare-clause-fewer c =
    leaves_as c.args.self.now c.later.new.self c.args.self.now.left (ap (λ (x : TypedFirst). first_most (own c.args.self.now call_due) (Some (first_of x))) c.in-Declare.is ∙ ap (λ (xs : List TypedItem). one (own c.args.self.now items_due (items_of xs))) (sym c.as_slice.ensures.value)) c.in_ok-later-in-Declare.ensures.fewer

pub returns-in_ok-later-in-Simple-clause-fewer : goal.returns-in_ok-later-in-Simple-clause-fewer
returns-in_ok-later-in-Simple-clause-fewer c =
    leaves_as c.args.self.now c.later-in-Simple.new.self c.args.self.now.left (ap (λ (x : TypedFirst). first_most (own c.args.self.now call_due) (Some (first_of x))) c.in-Simple.is) c.in_ok-later-in-Simple.ensures.fewer
