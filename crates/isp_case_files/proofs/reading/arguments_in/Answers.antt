use Rattle.std.proofs.Common.{◌≡◌, codes, Option, Some, Result, Ok, sym, ap, ◌∙◌}
use Rattle.serde_json.specs.Data.{Data}
use Rattle.serde_json.specs.Find.{get}
use Rattle.serde_json.specs.Read.{max_depth}
use Rattle.serde_json.specs.View.{view}
use Rattle.isp_case_files.specs.Cases.{arguments_in}
use Rattle.isp_case_files.specs.declared.fault.CaseFault.{CaseFault}
use Rattle.isp_case_files.proofs.Depths.{got_within}
use Rattle.isp_case_files.proofs.reading.arguments_in.Goals as goal

pub returns-in_ok-to_string-in-Some-clause-ok : goal.returns-in_ok-to_string-in-Some-clause-ok
returns-in_ok-to_string-in-Some-clause-ok c =
    let d = c.args.value.now in
    let e = c.in-Some.arguments.now in
    let got : get (codes "arguments") (view d) ≡ Some (view e) = sym c.in-Some.ensures in
    let reads = c.in_ok-to_string-in-Some.ensures.reads_back (got_within (codes "arguments") (view d) (view e) max_depth got c.requires) in
    ap (arguments_in c.args.number) got ∙ ap (λ (o : Option Data). let r : Result (Option Data) CaseFault = Ok o in r) (sym reads)
