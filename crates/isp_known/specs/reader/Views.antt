-- What the code's values stand for.
use Rattle.std.specs.Prelude.{ℕ, List, string_bytes}
use Rattle.isp_base.specs.declared.types.Span.{Span}
use Rattle.isp_known.specs.declared.shown.Shown.{Shown}

abbrev pub shown_view : Shown → Span × List ℕ
shown_view s = (s.span, string_bytes s.text)
