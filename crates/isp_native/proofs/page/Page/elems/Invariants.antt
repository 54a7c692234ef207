use Rattle.std.proofs.Common.{◌≡◌, ◌++◌, ◌+◌, drop}
use Rattle.isp_native.specs.Text.{numbered, register_line}
use Rattle.isp_native.proofs.page.Page.elems.Given as goal

-- what is written, and what the rest will add
abbrev pub invariant-loop-place : goal.invariant-loop-place
invariant-loop-place l = l.self ++ numbered (register_line l.word l.letter) (l.first + l.place) (drop l.place l.elems) ≡ l.initial.self ++ numbered (register_line l.word l.letter) l.first l.elems
