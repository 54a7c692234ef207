use Rattle.std.proofs.Common.{◌≡◌, ◌++◌, drop}
use Rattle.isp_native.specs.Text.{numbered, place_line}
use Rattle.isp_native.proofs.page.Page.places.Given as goal

-- what is written, and what the rest will add
abbrev pub invariant-loop-number : goal.invariant-loop-number
invariant-loop-number l = l.self ++ numbered place_line l.number (drop l.number l.places) ≡ l.initial.self ++ numbered place_line 0 l.places
