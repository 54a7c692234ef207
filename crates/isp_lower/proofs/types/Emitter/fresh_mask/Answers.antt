use Rattle.std.proofs.Common.{◌≡◌, ◌∙◌, ap, arith, subst, sym}
use Rattle.isp_code.specs.declared.register.Class.TheVariants.{Mask}
use Rattle.isp_lower.specs.Drafts.{draft_of}
use Rattle.isp_lower_code.specs.Named.{InCode, IsOf, behind_named}
use Rattle.isp_registers.specs.Growth.{rows_of}
use Rattle.isp_registers.specs.declared.reserve.Reserve.{Reserve}
use Rattle.isp_lower.proofs.Aparts.{fresh_mask_named}
use Rattle.isp_lower.proofs.Behind.{behind_unnamed}
use Rattle.isp_lower.proofs.types.Emitter.fresh_mask.Goals as goal

pub returns-clause-unnamed : goal.returns-clause-unnamed
returns-clause-unnamed c =
    let d = draft_of c.args.self.now in
    let is = c.behind_named-behind.ensures.is ∙ ap (behind_named Mask) c.as_slice.ensures.value in
    behind_unnamed Mask c.fresh_mask_from.result.number d.code (omega (arith, c.fresh_mask_from.ensures.number, is))

pub returns-clause-all_named : goal.returns-clause-all_named
returns-clause-all_named c =
    let d = draft_of c.args.self.now in
    λ named.
    subst (λ (r : Reserve). InCode (IsOf (rows_of r.registers) r.masks) d.code) (sym c.fresh_mask_from.ensures.added) (fresh_mask_named d.rows d.masks _ d.code (omega arith) named)
