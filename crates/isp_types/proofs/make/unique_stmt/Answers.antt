use Rattle.std.proofs.Common.{sym, ap, ◌∙◌}
use Rattle.isp_typed.specs.Typed.{elem_of}
use Rattle.isp_typed.specs.Views.{expr_of}
use Rattle.isp_exprs.specs.Values.{converted}
use Rattle.isp_exprs.specs.reader.Parts.{boxed_of}
use Rattle.isp_types.proofs.Unique.{unique_made}
use Rattle.isp_types.proofs.make.unique_stmt.Goals as goal

pub returns-in_ok-value-in-Ok : goal.returns-in_ok-value-in-Ok
returns-in_ok-value-in-Ok c =
    unique_made c.args.keyword c.args.before c.args.span c.args.value c.args.body c.in-Ok.value c.in-Ok.body c.into_inner.result c.ty-elem.result.elem
    (sym c.both.ensures ∙ c.in-Ok.is) (ap (λ t. t.elem) c.ty-elem.ensures ∙ ap (λ z. elem_of (expr_of z)) c.deref.ensures)
    (ap expr_of c.into_inner.ensures ∙ (c.in_ok-value-in-Ok.ensures ∙ ap (λ z. converted z (boxed_of c.in-Ok.value)) c.operand.ensures))
