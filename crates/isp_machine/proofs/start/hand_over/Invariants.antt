use Rattle.std.proofs.Common.{◌≡◌, ◌≤◌, ◌+◌, ◌++◌, length, take, drop}
use Rattle.isp_base.specs.Arguments.{rows}
use Rattle.isp_machine.proofs.start.hand_over.Given as goal

abbrev pub invariant-loop-argument : goal.invariant-loop-argument
invariant-loop-argument l =
    (l.stores.params ≡ l.fn.stores.params) × (l.stores.params ≤ length l.stores.rows) × (l.next + length (rows l.argument-iterator.rest.items) ≡ l.stores.params)
    × (rows l.fn.bound.arguments.items ++ drop l.fn.stores.params l.fn.stores.rows ≡ take l.next l.stores.rows ++ (rows l.argument-iterator.rest.items ++ drop l.stores.params l.stores.rows))
