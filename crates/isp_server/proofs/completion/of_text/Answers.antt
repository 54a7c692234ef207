use Rattle.std.proofs.lemmas.Result.{IfOk-weaker}
use Rattle.isp_positions.specs.Positions.{offset_of}
use Rattle.isp_server.proofs.completion.of_text.Goals as goal

pub returns : goal.returns
returns c = IfOk-weaker c.by_tokens.result _ _ (λ v completes. completes (offset_of c.args.text.now c.args.at.line c.args.at.character) c.text_before.ensures) c.by_tokens.ensures
