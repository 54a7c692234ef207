use Rattle.std.proofs.Common.{◌≡◌, ◌++◌, drop}
use Rattle.isp_native.specs.Text.{numbered, text_line}
use Rattle.isp_native.proofs.page.Page.texts.Given as goal

-- what is written, and what the rest will add
abbrev pub invariant-loop-number : goal.invariant-loop-number
invariant-loop-number l = l.self ++ numbered text_line l.number (drop l.number l.code.texts) ≡ l.initial.self ++ numbered text_line 0 l.code.texts
