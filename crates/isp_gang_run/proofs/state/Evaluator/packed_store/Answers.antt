use Rattle.isp_gang_run.proofs.Progress.{no_more}
use Rattle.std.proofs.Common.{ℕ, sym, ap, ap₂, ◌∙◌}
use Rattle.isp_base.specs.Access.{scatter}
use Rattle.isp_base.specs.Maps.{put}
use Rattle.isp_base.specs.Sets.{flag_of, lowest}
use Rattle.isp_base.specs.Types.{gang_width}
use Rattle.isp_base.specs.Values.{number}
use Rattle.isp_base.specs.declared.types.Gang.{Gang}
use Rattle.isp_base.specs.Cross.{packed_outside}
use Rattle.isp_gang_values.specs.Seen.{map_of}
use Rattle.isp_gang_arrays.specs.Packing.{places_at}
use Rattle.isp_gang_arrays.specs.Stores.{stores_of}
use Rattle.isp_gang_run.specs.Tasks.{Halts, does}
use Rattle.isp_gang_run.specs.declared.tasks.Task.TheVariants as task
use Rattle.isp_gang_run.proofs.PackedCalls.{store_does, store_halts}
use Rattle.isp_gang_run.proofs.Turns.{at_err}
use Rattle.isp_gang_run.proofs.state.Evaluator.packed_store.Goals as goal

pub returns-clause-ok : goal.returns-clause-ok
returns-clause-ok c =
    let old = c.args.self.now in
    let z = number c.args.elements.elem c.args.elements.first in
    let a = flag_of c.args.set in
    let f = stores_of old.stores.items in
    let k = c.store-store.result in
    store_does old c.args.elements c.args.span c.args.set c.put_each.new.stores c.count-self.result (map_of c.places-at.result) (map_of c.spread-values.result) k
    (sym (ap₂ (λ (g : Gang) (n : ℕ). lowest (gang_width g) (packed_outside n z a)) c.gang-size.ensures c.extent-count.ensures) ∙ sym c.outside-offender.ensures ∙ c.in_ok-checked.ensures.ok)
    c.store-store.ensures (c.places-at.ensures ∙ ap (λ n. places_at n z a) c.extent-count.ensures) c.spread-values.ensures
    (c.in_ok-put_each.ensures ∙ ap (λ (g : Gang). put f k (scatter (gang_width g) (map_of c.places-at.result) (map_of c.spread-values.result) (f k))) c.gang-size.ensures)
    c.count-self.ensures

pub returns-in_err-checked-clause-err : goal.returns-in_err-checked-clause-err
returns-in_err-checked-clause-err c =
    let old = c.args.self.now in
    let z = number c.args.elements.elem c.args.elements.first in
    let a = flag_of c.args.set in
    let h = c.in_err-checked.ensures.err in
    at_err c.from_residual.result c.in_err-checked.field-0.0 (Halts old old (does old (task.PackedStore c.args.elements c.args.span c.args.set))) c.from_residual.ensures.1
    (store_halts old c.args.elements c.args.span c.args.set c.in_err-checked.field-0.0 h.0
    (sym (ap₂ (λ (g : Gang) (n : ℕ). lowest (gang_width g) (packed_outside n z a)) c.gang-size.ensures c.extent-count.ensures) ∙ sym c.outside-offender.ensures ∙ h.1) h.2)

pub returns-clause-fewer : goal.returns-clause-fewer
returns-clause-fewer c =
    no_more c.args.self.now 0
