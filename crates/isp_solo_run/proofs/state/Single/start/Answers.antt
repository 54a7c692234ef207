use Rattle.isp_solo_run.proofs.Foreach.{start_tells}
use Rattle.std.proofs.Common.{ap, refl}
use Rattle.isp_solo_run.specs.declared.rounds.Bounds.{Bounds}
use Rattle.isp_solo_run.specs.Tasks.{store_seen}
use Rattle.isp_solo_run.proofs.Foreach.{start_is}
use Rattle.isp_solo_run.proofs.Steps.{tells_by}
use Rattle.isp_solo_run.proofs.state.Single.start.Goals as goal

pub returns : goal.returns
returns c =
    let old = c.args.self.now in
    start_tells c.both.result old c.both.new.self c.args.bounds old.value
    (record { ref_ptr = (0, 0); now = c.deref.result.now.range.now.end }) refl (ap (λ (d : Bounds). d.range.now.end) c.deref.ensures)
    c.both.ensures
