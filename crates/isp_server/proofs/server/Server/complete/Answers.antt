use Rattle.std.proofs.Common.{refl, ap, ◌∙◌, [], ◌∷◌}
use Rattle.serde_json.specs.Data.{Data}
use Rattle.serde_json.specs.View.{view}
use Rattle.isp_server.proofs.server.Server.complete.Goals as goal

pub returns : goal.returns
returns c = record {
  same_gang = refl;
  same_version = refl;
  phase_is = refl;
  texts_are = λ uri. refl;
  sends = (view c.in_ok-said.said, rw c.text_of-text.ensures at c.in_ok-said.ensures, c.in_ok-reply.ensures.messages ∙ ap (λ (d : Data). d ∷ []) c.in_ok-answer.ensures);
  next_is = c.in_ok-reply.ensures.next;
}
