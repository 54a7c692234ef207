use Rattle.std.proofs.Common.{◌≡◌, ◌∙◌, length, max, ap, subst, sym, arith}
use Rattle.std.proofs.lemmas.Result.{IfOk-weaker, on_ok_weaker}
use Rattle.isp_lower.specs.Drafts.{draft_of}
use Rattle.isp_registers.specs.Growth.{rows_of}
use Rattle.isp_lower_code.specs.Layout.{class_at, register}
use Rattle.isp_lower_code.specs.Named.{InCode, IsOf, Unnamed, behind_named}
use Rattle.isp_lower_code.specs.Rows.{rows_at, with_fresh_from_at}
use Rattle.isp_registers.specs.declared.numbered.RegisterNumber.{RegisterNumber}
use Rattle.isp_lower.proofs.Aparts.{fresh_named}
use Rattle.isp_lower.proofs.Behind.{behind_unnamed}
use Rattle.isp_lower.proofs.types.Emitter.fresh.Goals as goal

pub returns-clause-unnamed : goal.returns-clause-unnamed
returns-clause-unnamed c =
    let d = draft_of c.args.self.now in
    let n = c.behind_named-behind.result in
    let class = class_at c.args.rate in
    let is = c.behind_named-behind.ensures.is ∙ ap (λ k. behind_named k c.as_slice.result.now) c.class_at.ensures ∙ ap (behind_named class) c.as_slice.ensures.value in
    IfOk-weaker c.fresh_from.result (λ (x : RegisterNumber). x.number ≡ max (length (rows_at d.rows c.args.rate)) n) (λ (x : RegisterNumber). Unnamed (register c.args.rate x.number) d.code)
    (λ x e. behind_unnamed class x.number d.code (omega (arith, e, is))) c.fresh_from.ensures.number

pub returns-clause-all_named : goal.returns-clause-all_named
returns-clause-all_named c =
    let d = draft_of c.args.self.now in
    let n = c.behind_named-behind.result in
    λ named.
    on_ok_weaker c.fresh_from.result
    (λ (e : rows_of c.fresh_from.new.self ≡ with_fresh_from_at n c.args.rate c.args.elem d.rows). subst (λ rows. InCode (IsOf rows d.masks) d.code) (sym e) (fresh_named n c.args.rate c.args.elem d.rows d.masks d.code named))
    c.fresh_from.ensures.added
