use Rattle.std.proofs.Common.{◌≡◌, drop}
use Rattle.serde_json.specs.View.{view}
use Rattle.isp_bind.specs.Binding.{arguments_of}
use Rattle.isp_bind.proofs.Members.{with_done}
use Rattle.isp_bind.proofs.arguments.arguments.Given as goal

abbrev pub invariant-loop-param : goal.invariant-loop-param
invariant-loop-param l =
    arguments_of l.params (view l.value) ≡ with_done l.arguments.items (arguments_of (drop l.param-index l.params) (view l.value))
