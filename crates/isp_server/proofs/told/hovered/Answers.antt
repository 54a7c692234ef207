use Rattle.std.specs.Prelude.{option_map}
use Rattle.std.proofs.lemmas.Result.{IfOk-weaker}
use Rattle.isp_known.specs.reader.Views.{shown_view}
use Rattle.isp_server.proofs.told.hovered.Goals as goal

pub returns : goal.returns
returns c = IfOk-weaker c.hover.result _ _ (λ v e. (option_map shown_view c.in_ok-shown.shown, rw c.as_bytes.ensures.value at c.in_ok-shown.ensures, e)) c.hover.ensures
