-- After its return the code can be a text.
use Rattle.std.proofs.Common.{arith}
use Rattle.isp_tests_lower.proofs.Drafted.{can_be_written, code_begun, jump_is, jump_there, return_added}
use Rattle.isp_tests_lower.proofs.written.finish.Goals as goal

pub emit-requires : goal.emit-requires
emit-requires c = code_begun _ _ 40 _ c.requires.code

pub patch-requires-clause-there : goal.patch-requires-clause-there
patch-requires-clause-there c = jump_there _ _ 41 _ (return_added _ _ 40 _ _ _ c.requires.code c.new.ensures c.in_ok-to.ensures.added)

pub patch-requires-clause-jump : goal.patch-requires-clause-jump
patch-requires-clause-jump c = jump_is _ _ 41 _ (return_added _ _ 40 _ _ _ c.requires.code c.new.ensures c.in_ok-to.ensures.added)

pub finish-code-requires : goal.finish-code-requires
finish-code-requires c =
    let coded = return_added _ _ 40 _ _ _ c.requires.code c.new.ensures c.in_ok-to.ensures.added in
    can_be_written _ _ 41 _ c.in_ok-to.to c.requires.trees.first c.requires.trees.second coded (omega arith) (omega (arith, c.in_ok-to.ensures.number, c.requires.code.few.code)) _ c.patch.ensures.patched
