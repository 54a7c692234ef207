use Rattle.isp_output.proofs.Written.{on_err, took_later}
use Rattle.isp_runs.proofs.run.write_answer.Goals as goal

pub returns-in_err-write_all-2-clause-err : goal.returns-in_err-write_all-2-clause-err
returns-in_err-write_all-2-clause-err g c =
    rw (c.in-Some.is, ← c.as_bytes.ensures.value) (on_err _ (took_later _ _ _ _ _ _ _ c.in_ok-write_all.ensures.ok c.in_err-write_all-2.ensures.err))
