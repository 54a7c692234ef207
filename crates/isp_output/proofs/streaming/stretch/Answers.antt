use Rattle.std.proofs.Common.{◌≤◌, arith, rules, ap, length}
use Rattle.isp_output.specs.Sinks.{TookAll, TookSome}
use Rattle.isp_output.proofs.Written.{on_err}
use Rattle.isp_output.proofs.Streams.{told_within, wrote}
use Rattle.isp_output.proofs.streaming.stretch.Goals as goal

pub slice_bounds-new-count : goal.slice_bounds-new-count
slice_bounds-new-count g c = omega (arith, told_within _ _ _ _ c.run-stop.ensures, ap length c.output-told.ensures, ap length c.output-output.ensures)

pub slice_bounds-new-start : goal.slice_bounds-new-start
slice_bounds-new-start g c =
    let le : length c.output-told.result.now ≤ length c.output-output.result.now = omega (arith, told_within _ _ _ _ c.run-stop.ensures, ap length c.output-told.ensures, ap length c.output-output.ensures) in
    search rules

pub returns-in_err-write_all-clause-err : goal.returns-in_err-write_all-clause-err
returns-in_err-write_all-clause-err g c =
    on_err _ (wrote _ _ _ _ c.run-stop.ensures _ _ c.output-told.ensures c.output-output.ensures
    (λ bytes. TookSome bytes (g.W.Sink.written c.args.out.now) (g.W.Sink.written c.write_all.new.out) (g.W.Sink.has_failed c.write_all.new.out))
    c.in_err-write_all.ensures.err)

pub returns-clause-ok : goal.returns-clause-ok
returns-clause-ok g c =
    wrote _ _ _ _ c.run-stop.ensures _ _ c.output-told.ensures c.output-output.ensures
    (λ bytes. TookAll bytes (g.W.Sink.written c.args.out.now) (g.W.Sink.written c.write_all.new.out) (g.W.Sink.has_failed c.write_all.new.out))
    c.in_ok-write_all.ensures.ok
