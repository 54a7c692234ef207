use Rattle.std.proofs.lemmas.Result.{IfOk-weaker}
use Rattle.isp_faults.proofs.Lists.{first_faulty, none_source}
use Rattle.isp_faults.proofs.source.faults.Goals as goal

pub returns : goal.returns
returns c =
    let all = c.of_text.ensures in
    record {
      all = all;
      none = IfOk-weaker c.of_text.result _ _ (λ v h. none_source c.args.gang c.args.text.now v.items h) all;
      first = IfOk-weaker c.of_text.result _ _ (λ v h. first_faulty c.args.gang c.args.text.now v.items h) all;
    }
