use Rattle.std.proofs.Common.{◌<◌, List, length, sym, ap, ◌∙◌, subst}
use Rattle.isp_base.specs.Arguments.{row_bits}
use Rattle.isp_base.specs.Rows.{Row}
use Rattle.isp_store.specs.Held.{Held, elements, bits_of}
use Rattle.isp_cells.proofs.Indices.{one_inside}
use Rattle.isp_store.proofs.arrays.Arrays.load.Goals as goal

pub load-requires : goal.load-requires
load-requires g c =
    let there = one_inside _ _ _ c.limit.ensures c.count.ensures c.args.index c.ranges.index.fits c.if-index-limit.false in
    subst (λ (rs : List Row). c.args.index < length (row_bits rs c.args.array)) (c.deref.ensures.value ∙ sym c.deref-2.ensures.value) there.0

pub returns-clause-value : goal.returns-clause-value
returns-clause-value g c =
    let there = one_inside _ _ _ c.limit.ensures c.count.ensures c.args.index c.ranges.index.fits c.if-index-limit.false in
    c.load.ensures.value ∙ ap (λ (rs : List Row). bits_of rs c.args.array c.args.index) c.deref-2.ensures.value
    ∙ ap (λ (s : Held). elements s c.args.array c.args.index) c.self.view_is ∙ ap (elements c.args.self.now c.args.array) (sym there.1)
