use Rattle.std.proofs.Common.{rules, arith}
use Rattle.isp_typed.specs.Views.{program_of}
use Rattle.isp_verdicts.proofs.Lines.{all_said, begun, entry_is_found, none_said, said}
use Rattle.isp_verdicts.proofs.verdict.verdicts.Goals as goal
use Rattle.isp_verdicts.proofs.verdict.verdicts.Goals.{in-Some+in_ok-push_verdict, in_default}

pub loop-k-init : goal.loop-k-init
loop-k-init c = begun (program_of c.args.checked.now) _ (search rules)

pub breach-requires : goal.breach-requires
breach-requires c = entry_is_found c.args.checked.now.functions.items c.loop-k.k c.in-Some.name.now c.in-Some.ensures

pub loop-k-preserved : goal.loop-k-preserved
loop-k-preserved c = elim c.match-export.branch [
  | in-Some+in_ok-push_verdict w ↦ rw w.text-is (said c.args.checked.now c.loop-k.k w.in-Some.name.now _ _ w.breach.result w.in-Some.ensures w.breach.ensures w.in_ok-push_verdict.ensures c.loop-k.invariant)
  | in_default w ↦ rw w.text-is (none_said c.args.checked.now c.loop-k.k _ w.in_default.ensures c.loop-k.invariant)
]

pub returns : goal.returns
returns c = all_said c.args.checked.now c.loop-k.k c.exports-k-end.result.now _ c.exports-k-end.ensures (grind arith) c.loop-k.invariant
