use Rattle.isp_server.proofs.Texts.{kept}
use Rattle.isp_server.proofs.server.keep.Goals as goal

pub returns-in-Ok-clause-ok : goal.returns-in-Ok-clause-ok
returns-in-Ok-clause-ok c =
    kept c.args.documents.now c.insert.new.self c.in_ok-uri.uri c.in_ok-text.text c.args.document.uri.now c.args.document.text.now c.in_ok-uri.ensures.ok c.in_ok-text.ensures.ok c.in-Ok.ensures.updates
