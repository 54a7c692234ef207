use Rattle.std.proofs.Common.{◌∙◌, ap, refl, string_bytes}
use Rattle.isp_messages.proofs.hints.hint_message.Goals as goal

pub returns : goal.returns
returns c = record {
  source = c.args.source;
  source_is = refl;
  name_is = refl;
  text_is = refl;
  span_is = refl;
  what_is = ap string_bytes c.new-message.ensures.what ∙ c.in_ok-from_str.ensures.ok ∙ c.what.ensures;
}
