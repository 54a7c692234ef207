use Rattle.std.proofs.lemmas.Result.{IfOk-weaker}
use Rattle.isp_server.proofs.frame.framed.Goals as goal

pub returns : goal.returns
returns c = IfOk-weaker c.with_header.result _ _ (λ bytes e. record { content = c.as_str.result.now; whole = e; reads = rw c.as_str.ensures.value c.in_ok-content.ensures.reads_back }) c.with_header.ensures
