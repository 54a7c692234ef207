use Rattle.std.proofs.Common.{sym, ◌∙◌, arith}
use Rattle.isp_gang_values.proofs.Vectors.{at_there, at_past}
use Rattle.isp_gang_run.proofs.activation.Activation.size.Goals as goal

pub returns-then-store-len : goal.returns-then-store-len
returns-then-store-len c = c.index.ensures ∙ sym (at_there (λ x. x) 0 c.args.self.now.sizes.items c.args.store c.index.result.now (omega (arith, c.if-store-len.true, c.len.ensures)))

pub returns-else-store-len : goal.returns-else-store-len
returns-else-store-len c = sym (at_past (λ x. x) 0 c.args.self.now.sizes.items c.args.store (omega (arith, c.if-store-len.false, c.len.ensures)))
