use Rattle.std.proofs.Common.{◌≡◌, drop}
use Rattle.serde_json.specs.View.{items_view}
use Rattle.isp_bind.specs.Binding.{elements_bits}
use Rattle.isp_bind.proofs.Members.{with_done}
use Rattle.isp_bind.proofs.arguments.elements.Given as goal

abbrev pub invariant-loop-value : goal.invariant-loop-value
invariant-loop-value l =
    (l.array.elem ≡ l.elem)
    × (elements_bits l.elem (items_view l.values) ≡ with_done l.array.bits (elements_bits l.elem (items_view (drop l.value-index l.values))))
