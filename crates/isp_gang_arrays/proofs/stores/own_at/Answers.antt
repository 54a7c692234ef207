use Rattle.std.proofs.Common.{sym, ap, ◌∙◌}
use Rattle.isp_gang_values.specs.Growing.{lanes_of}
use Rattle.isp_gang_values.proofs.Vectors.{at_there, at_past, zeros}
use Rattle.isp_gang_arrays.proofs.stores.own_at.Goals as goal

pub returns-then-array-arrays : goal.returns-then-array-arrays
returns-then-array-arrays c =
    c.lanes_at.ensures ∙ ap (λ xs. lanes_of xs c.args.place) (c.as_slice.ensures.value ∙ ap (λ v. v.items) c.index-arrays-array.is)
    ∙ sym (ap (λ f. f c.args.place) (at_there (λ v. lanes_of v.items) (λ e p. 0) c.args.arrays.now c.args.array c.index-arrays-array.result c.if-array-arrays.true))

pub returns-else-array-arrays : goal.returns-else-array-arrays
returns-else-array-arrays c = zeros ∙ sym (ap (λ f. f c.args.place) (at_past (λ v. lanes_of v.items) (λ e p. 0) c.args.arrays.now c.args.array c.if-array-arrays.false))
