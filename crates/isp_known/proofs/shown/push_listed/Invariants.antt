use Rattle.std.proofs.Common.{◌≡◌, ◌++◌, drop, string_bytes}
use Rattle.isp_known.specs.Shown.{listed_text}
use Rattle.isp_known.proofs.shown.push_listed.Given as goal

abbrev pub invariant-loop-variable : goal.invariant-loop-variable
invariant-loop-variable l = string_bytes l.text ++ listed_text (drop l.variable-index l.variables) ≡ string_bytes l.initial.text ++ listed_text l.variables
