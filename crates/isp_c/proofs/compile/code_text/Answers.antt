use Rattle.std.proofs.Common.{subst}
use Rattle.std.proofs.lemmas.Str.{IsUtf8-string_bytes}
use Rattle.isp_runs.specs.Compilation.{IsCompilation}
use Rattle.isp_c.proofs.compile.code_text.Goals as goal

pub returns-in-Ok-text-clause-ok : goal.returns-in-Ok-text-clause-ok
returns-in-Ok-text-clause-ok c = record {
  gang = c.in-Some.gang;
  width_is = c.of_width.ensures.some c.in-Some.gang c.in-Some.is;
  code = c.in_ok-image.image;
  compiles = subst (λ z. IsCompilation c.in-Some.gang z c.in_ok-image.image) c.in-Ok.ensures.cases.0 c.in_ok-image.ensures.ok;
  loads = c.in-Ok-text.ensures;
  utf8 = IsUtf8-string_bytes c.in-Ok-text.text;
}
