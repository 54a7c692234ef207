use Rattle.std.proofs.Common.{◌≡◌, ◌++◌, ◌+◌, drop}
use Rattle.isp_native.specs.Text.{numbered, local_line}
use Rattle.isp_native.proofs.page.Page.locals.Given as goal

-- what is written, and what the rest will add
abbrev pub invariant-loop-place : goal.invariant-loop-place
invariant-loop-place l = l.self ++ numbered local_line (l.first + l.place) (drop l.place l.locals) ≡ l.initial.self ++ numbered local_line l.first l.locals
