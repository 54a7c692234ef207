use Rattle.isp_lsp_command.proofs.command.lsp.Goals as goal

pub returns : goal.returns
returns g c = (c.serve-end.ensures.0, c.serve-end.result, c.serve-end.ensures.1, c.serve-end.ensures.2, c.tell_end.ensures.line, c.tell_end.ensures.status)
