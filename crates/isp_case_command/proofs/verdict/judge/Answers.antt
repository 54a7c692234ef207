use Rattle.isp_case_command.proofs.verdict.judge.Goals as goal

pub returns : goal.returns
returns c = record {
  answer = c.execute-answer.result;
  machine = rw (← c.as_str-entry.ensures.value, ← c.as_str-arguments.ensures.value) c.execute-answer.ensures.machine;
  means = λ gang text compiled. rw (← c.as_str-entry.ensures.value, ← c.as_str-arguments.ensures.value) (c.execute-answer.ensures.means gang text compiled);
  verdict = c.in_ok-verdict.ensures;
}
