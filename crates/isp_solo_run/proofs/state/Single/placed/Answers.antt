use Rattle.std.proofs.Common.{refl, subst, sym}
use Rattle.std.proofs.Common.{ap, ◌∙◌}
use Rattle.isp_typed.specs.Views.{place_of}
use Rattle.isp_solo_run.specs.Seen.{spot_seen}
use Rattle.isp_solo_run.specs.Tasks.{Writes, store_seen}
use Rattle.isp_solo_run.proofs.Steps.{tells_by}
use Rattle.isp_solo_run.proofs.Writes.{assign_node, update_node}
use Rattle.isp_solo_run.proofs.state.Single.placed.Goals as goal

pub returns-in-Assign : goal.returns-in-Assign
returns-in-Assign c =
    subst (λ w. Writes c.both.result c.args.self.now c.both.new.self w (place_of c.args.target.now) (spot_seen c.args.place)) (sym c.in-Assign.is)
    (tells_by _ c.both.result c.args.self.now c.both.new.self _ _ (assign_node c.args.self.now (store_seen c.args.self.now) c.in-Assign.value (place_of c.args.target.now) c.args.place c.span.result c.span.ensures)
    c.both.ensures)

pub returns-in-Update : goal.returns-in-Update
returns-in-Update c =
    subst (λ w. Writes c.both-in-Update.result c.args.self.now c.both-in-Update.new.self w (place_of c.args.target.now) (spot_seen c.args.place)) (sym c.in-Update.is)
    (tells_by _ c.both-in-Update.result c.args.self.now c.both-in-Update.new.self _ _ (update_node c.args.self.now (store_seen c.args.self.now) c.in-Update.operator c.in-Update.elem c.in-Update.value c.args.target c.args.place c.in-Update.span)
    c.both-in-Update.ensures)

pub returns-in-Step : goal.returns-in-Step
returns-in-Step c =
    subst (λ w. Writes c.update.result c.args.self.now c.update.new.self w (place_of c.args.target.now) (spot_seen c.args.place)) (sym c.in-Step.is)
    (tells_by _ c.update.result c.args.self.now c.update.new.self _ _ refl c.update.ensures)
