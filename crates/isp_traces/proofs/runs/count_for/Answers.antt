use Rattle.std.proofs.Common.{◌∙◌, refl, sym}
use Rattle.isp_base.specs.Arguments.{rows}
use Rattle.isp_traces.proofs.Told.{counted_run, made}
use Rattle.isp_traces.proofs.runs.count_for.Goals as goal

pub returns : goal.returns
returns g c =
    let starts = c.in-Ok.ensures.starts in
    let gives = c.in_ok-stop.ensures.gives in
    let xs = c.args.bound.arguments.items in
    let all = (made c.args.budget _ _ c.in_ok-stop.stop c.in_ok-stop.counts c.in_default.not-Memory gives).0 in
    record {
      counted = counted_run c.args.code.now c.args.entry.now xs c.args.budget _ _ c.in_ok-stop.stop c.in_ok-stop.counts _ starts c.in_default.not-Memory gives refl c.result-result.ensures
          (c.into_rest-rest.ensures.arrays (rows xs) (sym (all.given_same ∙ starts.given_are))) c.into_rest-rest.ensures.output refl;
      grouped = c.in_ok-stop.ensures.grouped;
      none = tt;
      memory = tt;
    }
