use Rattle.std.proofs.Common.{◌≡◌, drop}
use Rattle.isp_base.specs.Binding.{has_signature}
use Rattle.isp_base.proofs.signature.Bound.has_signature.Given as goal

abbrev pub invariant-loop-place : goal.invariant-loop-place
invariant-loop-place l = has_signature (drop l.place l.signature.params.items) (drop l.place l.self.arguments.items) ≡ has_signature l.signature.params.items l.self.arguments.items
