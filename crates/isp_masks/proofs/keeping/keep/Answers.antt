use Rattle.std.proofs.Common.{◌+◌, drop, sym, subst}
use Rattle.isp_masks.specs.Kept.{KeepsAll}
use Rattle.isp_masks.proofs.ConstantRows.{left_none, left_one, none_more, one_more}
use Rattle.isp_masks.proofs.keeping.keep.Goals as goal

pub loop-x-preserved : goal.loop-x-preserved
loop-x-preserved c =
    let xs = c.args.all.now in
    let i = c.loop-x.x-index in
    λ k g.
    c.loop-x.invariant k
    (subst (KeepsAll c.loop-x.registers k) (sym (left_one xs i _ c.loop-x-test.true)) (one_more c.loop-x.registers c.keep.new.self k _ (drop (i + 1) xs) c.in_ok-keep.ensures g))

pub returns : goal.returns
returns c =
    c.loop-x.invariant c.loop-x.registers
    (subst (KeepsAll c.loop-x.registers c.loop-x.registers) (sym (left_none c.args.all.now c.loop-x.x-index c.loop-x-test.false)) (none_more c.loop-x.registers))
