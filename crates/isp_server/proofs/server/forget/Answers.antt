use Rattle.isp_server.proofs.Texts.{gone}
use Rattle.isp_server.proofs.server.forget.Goals as goal

pub returns : goal.returns
returns c = gone c.args.documents.now c.remove.new.self c.args.uri.now c.remove.ensures.updates
