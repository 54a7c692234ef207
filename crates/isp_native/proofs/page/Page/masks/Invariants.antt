use Rattle.std.proofs.Common.{◌≡◌, ◌++◌}
use Rattle.isp_native.specs.Text.{below, mask_line}
use Rattle.isp_native.proofs.page.Page.masks.Given as goal

abbrev pub invariant-loop-number : goal.invariant-loop-number
invariant-loop-number l = l.self ≡ l.initial.self ++ below mask_line l.number
