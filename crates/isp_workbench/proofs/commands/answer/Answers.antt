use Rattle.isp_workbench.proofs.commands.answer.Goals as goal

pub returns-in-Lsp : goal.returns-in-Lsp
returns-in-Lsp g c = rw (c.in-Lsp.is) (_, c.lsp.ensures)
