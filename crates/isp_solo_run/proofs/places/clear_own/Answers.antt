use Rattle.std.proofs.Common.{◌∙◌, ap, sym, arith}
use Rattle.isp_base.specs.Maps.{put}
use Rattle.isp_gang_values.specs.Growing.{values_of}
use Rattle.isp_gang_values.proofs.Vectors.{at_past, written}
use Rattle.isp_solo_run.specs.Seen.{own_of}
use Rattle.isp_solo_run.proofs.Changed.{put_same}
use Rattle.isp_solo_run.proofs.places.clear_own.Goals as goal

pub returns-then-array-len : goal.returns-then-array-len
returns-then-array-len c =
    written (λ v. values_of v.items) (λ e. 0) c.args.arrays.now.items _ c.args.array (omega (arith, c.if-array-len.true, c.len.ensures))
    ∙ ap (put (own_of c.args.arrays.now.items) c.args.array) (ap values_of c.clear.ensures.items)

pub returns-else-array-len : goal.returns-else-array-len
returns-else-array-len c =
    sym (put_same (own_of c.args.arrays.now.items) c.args.array (λ e. 0) (sym (at_past (λ v. values_of v.items) (λ e. 0) c.args.arrays.now.items c.args.array (omega (arith, c.if-array-len.false, c.len.ensures)))))
