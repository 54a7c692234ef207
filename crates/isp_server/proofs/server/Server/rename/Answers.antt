use Rattle.std.proofs.Common.{refl}
use Rattle.serde_json.specs.View.{view}
use Rattle.isp_server.proofs.server.Server.rename.Goals as goal

pub returns : goal.returns
returns c = record {
  same_gang = refl;
  same_version = refl;
  phase_is = refl;
  texts_are = λ uri. refl;
  sends = (view c.in_ok-message.message, rw c.text_of-text.ensures at c.in_ok-message.ensures, c.in_ok-reply.ensures.messages);
  next_is = c.in_ok-reply.ensures.next;
}
