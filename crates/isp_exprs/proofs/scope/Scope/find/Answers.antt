use Rattle.std.proofs.Common.{◌∙◌, sym, ap}
use Rattle.std.specs.Prelude.{None, Some, option_copied}
use Rattle.isp_exprs.proofs.Bindings.{find_is}
use Rattle.isp_exprs.proofs.scope.Scope.find.Goals as goal

pub returns-in-Some : goal.returns-in-Some
returns-in-Some c = rw (c.meaning_at.ensures, c.deref.ensures.value, ← c.self.view_is)
    (find_is c.args.name.now c.self.inside.names.items (Some c.in-Some.place.now)
    (sym (ap option_copied c.in-Some.is) ∙ (rw c.as_str.ensures at c.get.ensures.value ∙ c.self.invariant.0 c.args.name.now)))

pub returns-in-None : goal.returns-in-None
returns-in-None c = rw (← c.self.view_is) (find_is c.args.name.now c.self.inside.names.items None
    (sym (ap option_copied c.in-None.is) ∙ (rw c.as_str.ensures at c.get.ensures.value ∙ c.self.invariant.0 c.args.name.now)))
