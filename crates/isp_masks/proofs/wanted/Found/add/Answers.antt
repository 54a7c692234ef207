use Rattle.std.proofs.Common.{arith}
use Rattle.isp_base.specs.declared.types.Rate.TheVariants.{Uniform, Varying}
use Rattle.isp_masks.proofs.ConstantRows.{counted_more}
use Rattle.isp_masks.proofs.wanted.Found.add.Goals as goal

pub invariant_of-self-then-self-lt-MOST-clause-counted : goal.invariant_of-self-then-self-lt-MOST-clause-counted
invariant_of-self-then-self-lt-MOST-clause-counted c =
    let more = counted_more c.args.self.now.all.items c.push.new.self.items c.args.x Uniform c.in_ok-push-in-Uniform.ensures.items c.in-Uniform.is in
    omega (arith, more, c.args.self.now.counted)

pub invariant_of-self-then-self-lt-MOST-2-clause-counted : goal.invariant_of-self-then-self-lt-MOST-2-clause-counted
invariant_of-self-then-self-lt-MOST-2-clause-counted c =
    let more = counted_more c.args.self.now.all.items c.push-in-Varying.new.self.items c.args.x Varying c.in_ok-push-in-Varying.ensures.items c.in-Varying.is in
    omega (arith, more, c.args.self.now.counted)
