use Rattle.isp_verdicts.proofs.Lines.{line_of_dependence}
use Rattle.isp_verdicts.proofs.verdict.push_verdict.Goals as goal

pub returns-in_ok-push_dependence-in-Some : goal.returns-in_ok-push_dependence-in-Some
returns-in_ok-push_dependence-in-Some c =
    line_of_dependence c.push_str-in-Some-2.result c.args.name.now _ _ _ _ _ c.args.breach c.in-Some.dependence c.in-Some.is
    c.in_ok-push_str.ensures.bytes c.in_ok-push_str-in-Some.ensures.bytes c.in_ok-push_dependence-in-Some.ensures c.push_str-in-Some-2.ensures.bytes
