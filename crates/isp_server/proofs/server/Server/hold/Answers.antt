use Rattle.std.proofs.Common.{refl, ap, ◌∙◌, [], ◌∷◌}
use Rattle.serde_json.specs.Data.{Data}
use Rattle.serde_json.specs.View.{items_view}
use Rattle.isp_server.proofs.server.Server.hold.Goals as goal

pub returns-clause-ok : goal.returns-clause-ok
returns-clause-ok c = record {
  same_gang = refl;
  same_version = refl;
  phase_is = refl;
  texts_are = c.in_ok-keep.ensures.ok;
  sends = (items_view c.in_ok-found.found.items, c.in_ok-found.ensures, c.in_ok-reply.ensures.messages ∙ ap (λ (d : Data). d ∷ []) c.in_ok-published.ensures);
  next_is = c.in_ok-reply.ensures.next;
}
