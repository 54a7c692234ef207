use Rattle.std.proofs.Common.{sym, ap, ◌∙◌}
use Rattle.isp_gang_values.specs.Growing.{values_of}
use Rattle.isp_gang_values.proofs.Vectors.{at_there, at_past}
use Rattle.isp_gang_arrays.proofs.stores.element_at.Goals as goal

pub returns-then-store-stores : goal.returns-then-store-stores
returns-then-store-stores c =
    c.at.ensures ∙ ap (λ xs. values_of xs c.args.place) (c.as_slice.ensures.value ∙ ap (λ v. v.items) c.index-stores-store.is)
    ∙ sym (ap (λ f. f c.args.place) (at_there (λ v. values_of v.items) (λ e. 0) c.args.stores.now c.args.store c.index-stores-store.result c.if-store-stores.true))

pub returns-else-store-stores : goal.returns-else-store-stores
returns-else-store-stores c = sym (ap (λ f. f c.args.place) (at_past (λ v. values_of v.items) (λ e. 0) c.args.stores.now c.args.store c.if-store-stores.false))
