use Rattle.std.proofs.Common.{◌∙◌, sym, ap}
use Rattle.std.specs.Prelude.{option_copied}
use Rattle.isp_exprs.proofs.Headings.{called_function}
use Rattle.isp_exprs.proofs.callee.Headers.called.Goals as goal

pub returns-in-Some-get : goal.returns-in-Some-get
returns-in-Some-get c = rw (← c.self.view_is)
    (called_function c.self.inside.all.items c.args.name.now c.args.count c.in-Some-get.number.now _ (sym c.library_named.ensures ∙ c.in-None.is)
    (sym (ap option_copied c.in-Some-get.is) ∙ (rw c.as_str.ensures at c.get.ensures.value ∙ c.self.invariant c.args.name.now))
    (rw c.deref.ensures.value at c.function_at.ensures))
