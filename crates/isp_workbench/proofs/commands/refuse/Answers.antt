use Rattle.std.proofs.Common.{inl, inr, refl, rules, sym}
use Rattle.isp_output.proofs.Written.{adds_nil}
use Rattle.isp_workbench.proofs.commands.refuse.Goals as goal

pub returns-in-Ok : goal.returns-in-Ok
returns-in-Ok g c =
    let no = c.use_stderr.ensures.0 c.if-use_stderr.true in
    inr (inl ((λ h. elim h [ inl e ↦ no.0 e | inr e ↦ no.1 e ]), search rules, refl, (sym (adds_nil _), c.requires)))

pub returns-in-Err : goal.returns-in-Err
returns-in-Err g c = inr (inr (_, c.tell_end-in-Err.ensures.status, (refl, (sym (adds_nil _), c.requires), c.tell_end-in-Err.ensures.line)))
