-- What the code's signatures stand for.
use Rattle.std.specs.Prelude.{ℕ, List}
use Rattle.isp_server.specs.declared.library.Signature.{Signature}

abbrev pub signature_view : Signature → List ℕ × List ℕ
signature_view s = (s.name.now, s.text.now)
