use Rattle.std.proofs.Common.{sym, ap, ◌∙◌}
use Rattle.isp_base.specs.Maps.{put}
use Rattle.isp_gang_values.specs.Growing.{values_of}
use Rattle.isp_gang_values.proofs.Vectors.{at_past, written}
use Rattle.isp_gang_arrays.specs.Stores.{stores_of}
use Rattle.isp_gang_arrays.proofs.Puts.{put_same}
use Rattle.isp_gang_arrays.proofs.stores.clear.Goals as goal

pub returns-then-store-stores : goal.returns-then-store-stores
returns-then-store-stores c =
    written (λ v. values_of v.items) (λ e. 0) c.args.stores.now c.clear.new.self c.args.store c.if-store-stores.true
    ∙ ap (λ xs. put (stores_of c.args.stores.now) c.args.store (values_of xs)) c.clear.ensures.items

pub returns-else-store-stores : goal.returns-else-store-stores
returns-else-store-stores c = sym (put_same (stores_of c.args.stores.now) c.args.store (λ e. 0) (sym (at_past (λ v. values_of v.items) (λ e. 0) c.args.stores.now c.args.store c.if-store-stores.false)))
