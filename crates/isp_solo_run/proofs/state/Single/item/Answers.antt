use Rattle.isp_solo_run.specs.Tasks.{Declares}
use Rattle.std.proofs.Common.{refl, subst, sym}
use Rattle.std.proofs.Common.{◌∙◌, ap}
use Rattle.isp_typed.specs.Views.{item_of}
use Rattle.isp_solo_meaning.specs.Alone.{written}
use Rattle.isp_solo_meaning.specs.Places.{cleared}
use Rattle.isp_solo_run.specs.Seen.{frame_seen}
use Rattle.isp_solo_run.specs.Tasks.{declares, store_seen}
use Rattle.isp_solo_run.proofs.Results.{at_ok}
use Rattle.isp_solo_run.proofs.Steps.{changed_tells, tells_by}
use Rattle.isp_solo_run.proofs.Writes.{item_value}
use Rattle.isp_solo_run.proofs.state.Single.item.Goals as goal

pub returns-in-Ok : goal.returns-in-Ok
returns-in-Ok c =
    let old = c.args.self.now in
    subst (λ k. Declares c.go_on.result old c.go_on.new.self (item_of k)) (sym c.in-Plain.is)
    (changed_tells c.go_on.result old c.write.new.self c.go_on.new.self _ (written c.in-Plain.ty.rate c.in-Plain.number 0) (at_ok c.write.result _ c.in-Ok.is c.write.ensures) refl c.go_on.ensures)

pub returns-in-Value : goal.returns-in-Value
returns-in-Value c =
    let old = c.args.self.now in
    subst (λ k. Declares c.both.result old c.both.new.self (item_of k)) (sym c.in-Value.is)
    (tells_by _ c.both.result old c.both.new.self _ _ (item_value old (store_seen old) c.in-Value.number c.in-Value.ty (record { ref_ptr = (0, 0); now = c.in-Value.value }) c.in-Value.span) c.both.ensures)

pub returns-in-Ok-clear : goal.returns-in-Ok-clear
returns-in-Ok-clear c =
    let old = c.args.self.now in
    subst (λ k. Declares c.go_on-in-Ok-clear.result old c.go_on-in-Ok-clear.new.self (item_of k)) (sym c.in-Array.is)
    (changed_tells c.go_on-in-Ok-clear.result old c.clear.new.self c.go_on-in-Ok-clear.new.self _
    (cleared (frame_seen old.here) c.in-Array.array.ty.rate c.in-Array.array.number) (at_ok c.clear.result _ c.in-Ok-clear.is c.clear.ensures) refl c.go_on-in-Ok-clear.ensures)
