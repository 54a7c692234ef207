use Rattle.std.proofs.Common.{[], ◌∷◌, subst, sym}
use Rattle.isp_lower.specs.Drafts.{draft_of}
use Rattle.isp_lower_code.specs.Named.{InCode, IsOf}
use Rattle.isp_lower.proofs.Naming.{code_both}
use Rattle.isp_lower.proofs.types.Emitter.emit.Goals as goal

pub returns-clause-all_named : goal.returns-clause-all_named
returns-clause-all_named c =
    let d = draft_of c.args.self.now in
    λ h there. subst (InCode (IsOf d.rows d.masks)) (sym c.in_ok-push.ensures.items) (code_both (IsOf d.rows d.masks) d.code (c.args.line ∷ []) h (there, tt))
