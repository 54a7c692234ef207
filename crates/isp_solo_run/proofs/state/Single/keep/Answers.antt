use Rattle.std.proofs.Common.{subst, sym}
use Rattle.isp_solo_meaning.specs.Places.{element_kept, kept}
use Rattle.isp_solo_run.specs.Seen.{frame_seen, spot_seen}
use Rattle.isp_solo_run.specs.Tasks.{Changes}
use Rattle.isp_solo_run.specs.declared.places.Place.{Place}
use Rattle.std.specs.Prelude.{OnOk}
use Rattle.isp_solo_run.proofs.state.Single.keep.Goals as goal

pub returns-in-Variable : goal.returns-in-Variable
returns-in-Variable c =
    subst (λ (k : Place). OnOk c.write.result (Changes c.args.self.now c.write.new.self (kept (frame_seen c.args.self.now.here) (spot_seen k) c.args.bits))) (sym c.in-Variable.is) c.write.ensures

pub returns-in-Element : goal.returns-in-Element
returns-in-Element c =
    subst (λ (k : Place). OnOk c.store.result (Changes c.args.self.now c.store.new.self
    (kept (frame_seen c.args.self.now.here) (spot_seen k) c.args.bits))) (sym c.in-Element.is)
    (subst (λ e. OnOk c.store.result (Changes c.args.self.now c.store.new.self
    (element_kept (frame_seen c.args.self.now.here) c.in-Element.array.ty.rate c.in-Element.array e c.args.bits))) c.element.ensures
    c.store.ensures)
