use Rattle.std.proofs.Common.{sym, ◌∙◌}
use Rattle.isp_lex.proofs.Fronts.{byte_fault}
use Rattle.isp_lex.proofs.lexer.bad_byte.Goals as goal

pub returns : goal.returns
returns c =
    rw c.refused.ensures (byte_fault c.args.place c.in-Some.first c.len_utf8.result c.args.text.now _ c.utf8.text (sym c.chars.ensures.rest ∙ c.in-Some.ensures.steps.0) c.len_utf8.ensures.len c.requires.nothing)
