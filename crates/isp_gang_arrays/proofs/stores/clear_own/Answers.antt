use Rattle.std.proofs.Common.{ℕ, sym, ap, ◌∙◌}
use Rattle.isp_base.specs.Maps.{Lanes, put}
use Rattle.isp_base.specs.Sets.{flag_of}
use Rattle.isp_gang_values.specs.Growing.{lanes_of}
use Rattle.isp_gang_values.proofs.Vectors.{at_past, at_there, written}
use Rattle.isp_gang_arrays.specs.Stores.{own_of, with_zeros}
use Rattle.isp_gang_arrays.proofs.Puts.{put_same, zeros_stay}
use Rattle.isp_gang_arrays.proofs.stores.clear_own.Goals as goal

pub returns-then-array-arrays : goal.returns-then-array-arrays
returns-then-array-arrays c =
    written (λ v. lanes_of v.items) (λ e p. 0) c.args.arrays.now _ c.args.array c.if-array-arrays.true
    ∙ ap (put (own_of c.args.arrays.now) c.args.array)
    (c.clear_lanes.ensures ∙ ap {B = ℕ → Lanes} (λ f e. with_zeros (flag_of c.args.set.now) (f e))
    (sym (at_there (λ v. lanes_of v.items) (λ e p. 0) c.args.arrays.now c.args.array c.index-arrays-array.result c.if-array-arrays.true)))

pub returns-else-array-arrays : goal.returns-else-array-arrays
returns-else-array-arrays c =
    sym (put_same (own_of c.args.arrays.now) c.args.array _ (zeros_stay (flag_of c.args.set.now) (own_of c.args.arrays.now c.args.array) (at_past (λ v. lanes_of v.items) (λ e p. 0) c.args.arrays.now c.args.array c.if-array-arrays.false)))
