-- The second function has what the assignment asks for, and code that a text can have after it.
use Rattle.std.proofs.Common.{arith}
use Rattle.isp_tests_lower.proofs.Drafted.{assignment_added, assignment_fine, assignment_rated, assignment_takes}
use Rattle.isp_tests_lower.proofs.written.put_assignment.Goals as goal

pub store-requires : goal.store-requires
store-requires c =
    let trees = c.requires.trees in
    record {
      fine = assignment_fine _ _ trees.assignment;
      rated = assignment_rated _ _ trees.assignment;
      takes = assignment_takes _ _ 20 _ c.requires.code _ trees.second (omega arith) trees.assignment;
    }

pub returns-clause-code : goal.returns-clause-code
returns-clause-code c =
    let put = c.in_ok-store.ensures in
    assignment_added _ _ 20 c.args.e.now _ c.requires.code (omega arith) _ c.requires.trees.assignment put.code put.few
