use Rattle.std.proofs.Common.{◌<◌, ℕ, List, length, sym, ap, ◌∙◌, subst}
use Rattle.isp_base.specs.Arguments.{row_bits}
use Rattle.isp_base.specs.Maps.{put}
use Rattle.isp_base.specs.Rows.{Row}
use Rattle.isp_store.specs.Held.{Held, elements, bits_of}
use Rattle.isp_cells.proofs.Indices.{one_inside}
use Rattle.isp_store.proofs.RowLists.{handed_back}
use Rattle.isp_store.proofs.arrays.Arrays.store.Goals as goal

pub put-requires-clause-there : goal.put-requires-clause-there
put-requires-clause-there g c =
    let there = one_inside _ _ _ c.limit.ensures c.count.ensures c.args.index c.ranges.index.fits c.if-index-limit.false in
    subst (λ (rs : List Row). c.args.index < length (row_bits rs c.args.array)) (c.deref.ensures.value ∙ sym c.deref_mut.ensures.value) there.0

pub returns-clause-elements : goal.returns-clause-elements
returns-clause-elements g c =
    let there = one_inside _ _ _ c.limit.ensures c.count.ensures c.args.index c.ranges.index.fits c.if-index-limit.false in
    ap bits_of (handed_back c.self.inside.items.len c.put.new.rows c.self.inside.items.items (c.put.auto.rows ∙ c.deref_mut.ensures.len))
    ∙ c.put.ensures.elements
    ∙ ap (λ (rs : List Row). put (bits_of rs) c.args.array (put (bits_of rs c.args.array) c.args.index c.args.bits)) c.deref_mut.ensures.value
    ∙ ap (λ (s : Held). put (elements s) c.args.array (put (elements s c.args.array) c.args.index c.args.bits)) c.self.view_is
    ∙ ap (λ (k : ℕ). put (elements c.args.self.now) c.args.array (put (elements c.args.self.now c.args.array) k c.args.bits)) (sym there.1)
