use Rattle.std.proofs.Common.{refl, rules}
use Rattle.std.proofs.lemmas.Result.{IfOk-weaker}
use Rattle.serde_json.specs.Data.{null}
use Rattle.serde_json.specs.Errors.{IsMemory}
use Rattle.serde_json.specs.View.{view}
use Rattle.isp_server.specs.Deeds.{no_value, refuse, value}
use Rattle.isp_server.specs.declared.refusal.Refusal.TheVariants.{ParseError}
use Rattle.isp_server.specs.reader.Views.{deed_view}
use Rattle.isp_server.proofs.server.Server.answer.Goals as goal

pub returns-in-Ok-clause-ok : goal.returns-in-Ok-clause-ok
returns-in-Ok-clause-ok c =
    IfOk-weaker c.act.result _ _ (λ reply does. record {
      deed = deed_view c.deed_of-deed.result;
      asks = value (view c.in-Ok.message) c.in-Ok.ensures.ok.0 c.in-Ok.ensures.ok.1 c.deed_of-deed.ensures;
      does = does;
    }) c.act.ensures.ok

pub returns-else-is_memory-clause-ok : goal.returns-else-is_memory-clause-ok
returns-else-is_memory-clause-ok c =
    let other : ¬ (IsMemory c.in-Err.error) = search rules in
    IfOk-weaker c.act-in-Err.result _ _ (λ reply does. record {
      deed = refuse null ParseError;
      asks = no_value (c.in-Err.ensures.err other) refl;
      does = does;
    }) c.act-in-Err.ensures.ok
