use Rattle.std.proofs.Common.{◌≡◌, ◌++◌, drop}
use Rattle.isp_native.specs.Text.{nobody, params_text, with_all, AtMost}
use Rattle.isp_native.proofs.page.Page.params.Given as goal

-- what is written and counted, and what the rest will add
abbrev pub invariant-loop-param : goal.invariant-loop-param
invariant-loop-param l = record {
  written : l.self ++ params_text l.word l.counts (drop l.param-index l.params) ≡ l.initial.self ++ params_text l.word nobody l.params;
  counted : with_all l.counts (drop l.param-index l.params) ≡ with_all nobody l.params;
  few : AtMost l.param-index l.counts;
}
