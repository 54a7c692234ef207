use Rattle.std.proofs.Common.{◌≡◌, ◌++◌, drop, map}
use Rattle.isp_code.specs.Listing.{routine_of}
use Rattle.isp_verify.specs.Signatures.{handed, signature_of}
use Rattle.isp_verify.proofs.signatures.signatures_of.Given as goal

abbrev pub invariant-loop-function : goal.invariant-loop-function
invariant-loop-function l =
    map signature_of (map routine_of l.functions) ≡ map handed l.all.items ++ map signature_of (map routine_of (drop l.function-index l.functions))
