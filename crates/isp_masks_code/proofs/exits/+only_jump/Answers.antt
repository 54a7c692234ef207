use Rattle.std.proofs.Common.{◌∙◌, ◌<◌, ap, arith, length, sym}
use Rattle.isp_typed.specs.Typed.{t_braces, t_stmts}
use Rattle.isp_typed.specs.Views.{stmts_of}
use Rattle.isp_masks_code.specs.Exits.{block_jump}
use Rattle.isp_masks_code.proofs.Views.{block_view, no_jump}
use Rattle.isp_masks_code.proofs.exits.+only_jump.Goals as goal

pub block_jump-returns-in_default-2 : goal.block_jump-returns-in_default-2
block_jump-returns-in_default-2 t c =
    let all = c.as_slice.result.now in
    let least = c.in_default.len_at_least in
    let many : 1 < length all = omega (arith, least) in
    let seen = block_view c.args.b.now ∙ ap (λ zs. t_braces (t_stmts (stmts_of zs)) c.args.b.now.span) (sym c.as_slice.ensures.value) in
    sym (ap block_jump seen ∙ no_jump all c.args.b.now.span many)
