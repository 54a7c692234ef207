use Rattle.std.proofs.Common.{◌≡◌, ◌++◌, drop}
use Rattle.isp_native.specs.reader.Forms.{forms_by}
use Rattle.isp_native.specs.Text.{numbered, code_line}
use Rattle.isp_native.proofs.page.Page.code.Given as goal

-- what is written, and what the rest will add
abbrev pub invariant-loop-number : goal.invariant-loop-number
invariant-loop-number l = l.self ++ numbered (code_line (forms_by l.tables) l.f) l.number (drop l.number l.code) ≡ l.initial.self ++ numbered (code_line (forms_by l.tables) l.f) 0 l.code
