use Rattle.isp_solo_run.proofs.Runs.{first_items_tells, first_simple_tells}
use Rattle.std.proofs.Common.{ap, refl, Some}
use Rattle.isp_typed.specs.Views.{first_of}
use Rattle.isp_typed.specs.declared.stmt.TypedFirst.{TypedFirst}
use Rattle.isp_solo_run.specs.Tasks.{store_seen}
use Rattle.isp_solo_run.proofs.Runs.{first_items, first_simple}
use Rattle.isp_solo_run.proofs.Steps.{tells_by}
use Rattle.isp_solo_run.proofs.state.Single.some_first.Goals as goal

pub returns-in-Declare : goal.returns-in-Declare
returns-in-Declare c =
    let old = c.args.self.now in
    first_items_tells c.both.result old c.both.new.self c.args.after c.as_slice.result c.in-Declare.items.items (Some (first_of c.args.first.now))
    c.in-Declare.span c.as_slice.ensures.value (ap (λ (x : TypedFirst). Some (first_of x)) c.in-Declare.is)
    c.both.ensures

pub returns-in-Simple : goal.returns-in-Simple
returns-in-Simple c =
    let old = c.args.self.now in
    first_simple_tells c.both-in-Simple.result old c.both-in-Simple.new.self c.args.after (record { ref_ptr = (0, 0); now = c.in-Simple.simple }) (Some (first_of c.args.first.now)) (ap (λ (x : TypedFirst). Some (first_of x)) c.in-Simple.is)
    c.both-in-Simple.ensures
