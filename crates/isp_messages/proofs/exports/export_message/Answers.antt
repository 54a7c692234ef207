use Rattle.std.proofs.Common.{◌∙◌, ap, refl, string_bytes}
use Rattle.isp_messages.proofs.exports.export_message.Goals as goal

pub returns : goal.returns
returns c = record {
  source = c.args.source;
  source_is = c.explain.ensures.source;
  name_is = refl;
  text_is = refl;
  span_is = c.explain.ensures.span;
  what_is = ap string_bytes (c.explain.ensures.what ∙ c.new-message.ensures.what) ∙ c.in_ok-what.ensures;
}
