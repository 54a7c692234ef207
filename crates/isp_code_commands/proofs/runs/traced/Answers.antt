use Rattle.std.proofs.Common.{refl}
use Rattle.isp_code_commands.proofs.runs.traced.Goals as goal

pub returns-clause-ok : goal.returns-clause-ok
returns-clause-ok c =
    let b = c.in_ok-_signature.ensures.ok in
    record {
      arguments = c.in_ok-_signature.bound.arguments.items;
      binds = b.0;
      traced = c.in_ok-run.run';
      runs = rw (← c.window-window.ensures) c.in_ok-run.ensures;
      page_is = refl;
      ends = rw (← c.window-window.ensures) c.end_of_trace.ensures;
    }
