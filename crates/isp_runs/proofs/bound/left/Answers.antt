use Rattle.isp_runs.proofs.bound.left.Goals as goal

pub returns-clause-leaves : goal.returns-clause-leaves
returns-clause-leaves g c = λ rs given stands. record {
  stop = stands;
  arrays = c.into_rest-rest.ensures.arrays rs given;
  output = c.into_rest-rest.ensures.output;
  result = c.result-value.ensures;
  outside = c.asked-outside.ensures stands;
}
