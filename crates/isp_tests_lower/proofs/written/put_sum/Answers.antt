-- The second function has what the sum asks for, and code that a text can have after it.
use Rattle.isp_tests_lower.proofs.Drafted.{jump_code, sum_added, sum_fine, sum_rated, sum_takes}
use Rattle.isp_tests_lower.proofs.written.put_sum.Goals as goal

pub expr-requires : goal.expr-requires
expr-requires c =
    let trees = c.requires.trees in
    record {
      fine = sum_fine _ _ trees.sum;
      rated = sum_rated _ _ trees.sum;
      takes = sum_takes _ _ _ trees.second c.requires.jump _ trees.sum;
    }

pub returns-clause-code : goal.returns-clause-code
returns-clause-code c =
    let put = c.in_ok-expr.ensures in
    sum_added _ _ 10 c.args.e.now _ (jump_code _ _ _ c.requires.trees.second c.requires.jump) _ c.requires.trees.sum put.code put.few
