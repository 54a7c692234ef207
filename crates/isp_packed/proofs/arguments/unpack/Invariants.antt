use Rattle.std.proofs.Common.{◌≡◌, drop}
use Rattle.isp_packed.specs.Unpacking.{arguments_of, unpacked_of}
use Rattle.isp_packed.proofs.Found.{with_done}
use Rattle.isp_packed.proofs.arguments.unpack.Given as goal

abbrev pub invariant-loop-number : goal.invariant-loop-number
invariant-loop-number l =
    unpacked_of l.signature.params.items l.fn.bytes ≡ with_done l.arguments.items (arguments_of l.number (drop l.number l.signature.params.items) l.rest)
