use Rattle.std.proofs.Common.{◌≡◌, ℕ, ◌+◌, ◌*◌, length, ap, ap₂, ◌∙◌, arith}
use Rattle.isp_packed.specs.Packing.{packed_array, size}
use Rattle.isp_packed.proofs.Sizes.{array_over, counted, length_array}
use Rattle.isp_packed.proofs.answers.array_wanted.Goals as goal

pub returns-in_err-elements : goal.returns-in_err-elements
returns-in_err-elements c =
    let a = c.args.array.now in
    let same : c.size.result * c.len.result ≡ size a.elem * length a.bits = ap₂ (λ (x y : ℕ). x * y) (c.size.ensures ∙ ap size c.elem.ensures) c.len.ensures in
    rw c.from_residual.ensures (array_over a (c.size.result * c.len.result) same c.in_err-elements.ensures)

pub returns : goal.returns
returns c =
    let a = c.args.array.now in
    let same : c.size.result * c.len.result ≡ size a.elem * length a.bits = ap₂ (λ (x y : ℕ). x * y) (c.size.ensures ∙ ap size c.elem.ensures) c.len.ensures in
    let whole = length_array a in
    let sum : c.in_ok-elements.elements + 8 ≡ length (packed_array a) = omega (arith, whole, same, c.in_ok-elements.ensures.1) in
    counted c.checked_add.result (c.in_ok-elements.elements + 8) (length (packed_array a)) c.checked_add.ensures sum
