use Rattle.std.proofs.Common.{◌∙◌, ap, refl, string_bytes}
use Rattle.isp_messages.proofs.failures.source_message.Goals as goal

pub returns : goal.returns
returns c = record {
  source = c.args.source;
  source_is = c.advise.ensures.source;
  name_is = refl;
  text_is = refl;
  span_is = c.advise.ensures.span;
  what_is = ap string_bytes (c.advise.ensures.what ∙ c.new-message.ensures.what) ∙ c.in_ok-format.ensures.ok;
}
