use Rattle.isp_gang_run.specs.Due.{due_now}
use Rattle.isp_gang_run.proofs.Progress.{same_leaves}
use Rattle.std.proofs.Common.{ℕ, List, Vec, Global, sym, ap, ap₂, ◌∙◌, unsigned_abs}
use Rattle.isp_base.specs.Cross.{packed_index, rank, packed_outside}
use Rattle.isp_base.specs.Maps.{Map, on}
use Rattle.isp_base.specs.Sets.{flag_of, lowest}
use Rattle.isp_base.specs.Types.{gang_width}
use Rattle.isp_base.specs.Values.{number}
use Rattle.isp_base.specs.declared.types.Gang.{Gang}
use Rattle.isp_meaning.specs.Payloads.{One, Each}
use Rattle.isp_gang_values.specs.Seen.{map_of}
use Rattle.isp_gang_run.specs.Passing.{packs_from}
use Rattle.isp_gang_arrays.specs.Stores.{stores_of}
use Rattle.isp_gang_run.specs.Tasks.{Halts}
use Rattle.isp_gang_run.specs.declared.state.Evaluator.{Evaluator}
use Rattle.isp_gang_run.specs.declared.tasks.Packing.TheVariants as packing
use Rattle.isp_gang_run.proofs.PackedCalls.{load_comes, load_halts}
use Rattle.isp_gang_run.proofs.Turns.{at_err}
use Rattle.isp_gang_run.proofs.state.Evaluator.packed_load.Goals as goal

pub returns-clause-ok : goal.returns-clause-ok
returns-clause-ok c =
    let old = c.args.self.now in
    let z = number c.args.elements.elem c.args.elements.first in
    let a = flag_of c.args.set in
    load_comes old c.args.elements c.args.span c.args.set c.tick.new.self c.tick.ensures c.args.variable c.write.new.self (Each (map_of c.held-row.result)) c.count-self.result
    (sym (ap₂ (λ (g : Gang) (k : ℕ). lowest (gang_width g) (packed_outside k z a)) c.gang.ensures c.extent-count.ensures) ∙ sym c.outside-offender.ensures ∙ c.in_ok-checked.ensures.ok)
    (λ w. ap Each (c.held-row.ensures ∙ ap₂ {C = Map} (λ (xs : List (Vec ℕ Global)) (k : ℕ). on a (λ p. stores_of xs k (unsigned_abs (packed_index z a p)))) c.as_slice.ensures.value c.store-store.ensures))
    c.in_ok-write.ensures.ok
    (c.count-self.ensures ∙ ap (λ (e : Evaluator). One (rank a (gang_width e.program.now.gang))) (c.in_ok-write.ensures.ok.same))

pub returns-in_err-checked-clause-err : goal.returns-in_err-checked-clause-err
returns-in_err-checked-clause-err c =
    let old = c.args.self.now in
    let b = c.args.elements.array in
    let z = number c.args.elements.elem c.args.elements.first in
    let a = flag_of c.args.set in
    let h = c.in_err-checked.ensures.err in
    at_err c.from_residual.result c.in_err-checked.field-0.0 (Halts old (record old { work = c.tick.new.self }) (packs_from old (packing.Load c.args.variable) b z c.args.span a)) c.from_residual.ensures.1
    (load_halts old c.args.elements c.args.span c.args.set c.tick.new.self c.tick.ensures c.args.variable c.in_err-checked.field-0.0 h.0
    (sym (ap₂ (λ (g : Gang) (k : ℕ). lowest (gang_width g) (packed_outside k z a)) c.gang.ensures c.extent-count.ensures) ∙ sym c.outside-offender.ensures ∙ h.1) h.2)

pub returns-clause-fewer : goal.returns-clause-fewer
returns-clause-fewer c =
    same_leaves c.args.self.now c.write.new.self 0 (ap (λ (e : Evaluator). due_now e) c.in_ok-write.ensures.ok.same)
