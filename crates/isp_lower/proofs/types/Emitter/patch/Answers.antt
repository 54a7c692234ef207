use Rattle.std.proofs.Common.{subst, sym}
use Rattle.isp_lower.specs.Drafts.{draft_of}
use Rattle.isp_lower_code.specs.Named.{InCode, IsOf}
use Rattle.isp_lower.proofs.Aparts.{patched_named}
use Rattle.isp_lower.proofs.types.Emitter.patch.Goals as goal

pub returns-clause-all_named : goal.returns-clause-all_named
returns-clause-all_named c =
    let d = draft_of c.args.self.now in
    λ h. subst (InCode (IsOf d.rows d.masks)) (sym c.patch.ensures.code) (patched_named (IsOf d.rows d.masks) d.code c.args.at c.args.target h)
