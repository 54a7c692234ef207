use Rattle.std.proofs.Common.{sym, ap, ◌∙◌, arith}
use Rattle.std.specs.Prelude.{slice_index}
use Rattle.isp_solo_run.proofs.Changed.{bound_there, bound_short, bound_past}
use Rattle.isp_solo_run.proofs.arrays.bound_at.Goals as goal

pub returns-then-place-len : goal.returns-then-place-len
returns-then-place-len c =
    c.at.ensures.value ∙ ap (λ r. slice_index r.now.bits c.args.place) c.index-bound-store.is
    ∙ bound_there c.args.bound.now c.args.store c.args.place c.index-bound-store.result c.if-store-bound.true

pub returns-else-place-len : goal.returns-else-place-len
returns-else-place-len c =
    sym (bound_short c.args.bound.now c.args.store c.args.place c.index-bound-store.result c.index-bound-store.is c.if-store-bound.true (omega (arith, c.if-place-len.false, c.len.ensures)))

pub returns-else-store-bound : goal.returns-else-store-bound
returns-else-store-bound c = sym (bound_past c.args.bound.now c.args.store c.args.place c.if-store-bound.false)
