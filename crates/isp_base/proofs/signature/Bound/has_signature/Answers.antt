use Rattle.std.proofs.Common.{sym, ◌∙◌}
use Rattle.isp_base.proofs.Bindings.{unlike}
use Rattle.isp_base.proofs.signature.Bound.has_signature.Goals as goal

pub returns-then-len : goal.returns-then-len
returns-then-len c = sym (unlike c.args.signature.now.params.items c.args.self.now.arguments.items (λ e. c.if-len.true (c.len.ensures ∙ c.args.self.now.arguments.ok.0 ∙ sym e ∙ sym c.args.signature.now.params.ok.0 ∙ sym c.len-2.ensures)))
