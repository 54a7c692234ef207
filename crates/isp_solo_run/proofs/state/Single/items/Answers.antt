use Rattle.isp_solo_run.proofs.Writes.{no_items_tells, one_item_tells}
use Rattle.std.proofs.Common.{ap, sym, arith, length, take, drop, ◌-◌}
use Rattle.isp_solo_run.specs.Tasks.{declares, goes, store_seen}
use Rattle.isp_typed.specs.Views.{item_of}
use Rattle.isp_solo_run.specs.declared.state.Single.{Single}
use Rattle.isp_solo_run.proofs.Lists.{nothing_left, headed}
use Rattle.isp_solo_run.proofs.Results.{at_ok}
use Rattle.isp_solo_run.proofs.Steps.{tells_by, then_tells}
use Rattle.isp_solo_run.proofs.Writes.{no_items, one_item}
use Rattle.isp_solo_run.proofs.state.Single.items.Goals as goal

pub returns-in-empty : goal.returns-in-empty
returns-in-empty c =
    let old = c.args.self.now in
    no_items_tells c.go_on.result old c.go_on.new.self c.args.items (nothing_left c.args.items.now c.in-empty.len_below) c.go_on.ensures

pub returns-in-Ok : goal.returns-in-Ok
returns-in-Ok c =
    let old = c.args.self.now in
    one_item_tells c.item.result old c.push.new.self c.item.new.self c.args.items c.item-item.result _
    (headed c.args.items.now c.item-item.result (omega (arith, c.in-len1-up.len_at_least)) c.item-item.is)
    (at_ok c.push.result _ c.in-Ok.is c.push.ensures.more) (at_ok c.push.result _ c.in-Ok.is c.push.ensures.rest) c.item.ensures
